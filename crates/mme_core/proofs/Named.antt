-- What names a slot.
use Rattle.std.proofs.Common.{◌≡◌, ℕ, List, Bool, true, false, Option, Some, None, refl, ◌∙◌, ap}
use Rattle.std.specs.Prelude.{◌&&◌, length, if◌then◌else◌, nat_lt}
use Rattle.s1ap_elements.specs.declared.station.SupportedTa.{SupportedTa}
use Rattle.s1ap_pdus.specs.declared.pdu.InitialUeMessage.{InitialUeMessage}
use Rattle.s1ap_pdus.specs.declared.pdu.Pdu.{Pdu}
use Rattle.s1ap_pdus.specs.declared.pdu.Pdu.TheVariants as pdu
use Rattle.s1ap_pdus.specs.Pdus.{decoded}
use Rattle.identity_slots.specs.declared.profile.Profile.{Profile}
use Rattle.identity_slots.specs.Ids.{is_of_slot, slot_in}
use Rattle.identity_slots.specs.Provisioned.{slot_of_id, slot_of_imsi}
use Rattle.mme_types.specs.declared.event.UeBody.{UeBody}
use Rattle.mme_types.specs.declared.event.UeBody.TheVariants.{Uplink, UeContextReleaseRequest, UeContextReleaseComplete, InitialContextSetupFailure, PathSwitch, Notice}
use Rattle.mme_types.specs.declared.event.UeMessage.{UeMessage}
use Rattle.mme_types.specs.declared.stations.StationState.TheVariants.{Ready}
use Rattle.mme_types.specs.Events.{Cancel, Data, Item}
use Rattle.mme_types.specs.declared.network.Network.{Network}
use Rattle.mme_core.specs.Laws.{NamedById, NamedByIdentity, NamedByImsi, id_in, slot_named}
use Rattle.mme_routing.specs.Naming.{named_slot}
use Rattle.mme_routing.specs.Destinations.{Stranger}
use Rattle.mme_routing.specs.Outcomes.{Outcome, entry_routed, goes_to, outcome_of, outcome_of_message, message_by_id, message_of_slot, ue_message}
use Rattle.mme_core.specs.World.{happens, to_slot}

one_again : (o : Option ℕ) (item : Item) → slot_named (to_slot o item) ≡ o
one_again None item = refl
one_again (Some slot) item = refl

pub named_by_imsi : NamedByImsi
unfolding happens
named_by_imsi s imsi = (one_again (slot_of_imsi imsi s.profiles) (Data s.stations), one_again (slot_of_imsi imsi s.profiles) Cancel)

entry_named : (o : Option ℕ) (e : ℕ) (m : InitialUeMessage (List ℕ)) → slot_named (entry_routed o e m).destination ≡ o
entry_named None e m = refl
entry_named (Some slot) e m = refl

pub named_by_identity : NamedByIdentity
unfolding happens
named_by_identity s e octets tas m ready is =
    ap (λ state. slot_named (outcome_of s.config.network s.profiles e state (decoded octets.now)).destination) ready
    ∙ ap (λ r. slot_named (outcome_of s.config.network s.profiles e (Ready tas) r).destination) is
    ∙ entry_named (named_slot s.config.network s.profiles m.nas m.s_tmsi) e m

-- an id of a slot, provisioned or not
slot_if : (low here : Bool) (slot : ℕ) (r : Outcome) (m : UeMessage (List ℕ)) → slot_named r.destination ≡ None
    → slot_named (if low then message_of_slot (if low && here then Some slot else None) m else r).destination
    ≡ (if low && here then Some slot else None)
slot_if true true slot r m none = refl
slot_if true false slot r m none = refl
slot_if false here slot r m none = none

phone_named : (ps : List Profile) (m : UeMessage (List ℕ)) → slot_named (message_by_id ps m).destination ≡ slot_of_id m.mme_ue_id ps
phone_named ps m =
    slot_if (is_of_slot m.mme_ue_id) (nat_lt (slot_in m.mme_ue_id) (length ps)) (slot_in m.mme_ue_id) (goes_to (Stranger m)) m refl

id_named : (ps : List Profile) (e mme_ue_id enb_ue_id : ℕ) (body : UeBody (List ℕ)) (id : ℕ) → Some mme_ue_id ≡ Some id
    → slot_named (message_by_id ps (ue_message e mme_ue_id enb_ue_id body)).destination ≡ slot_of_id id ps
id_named ps e mme_ue_id enb_ue_id body id is =
    let same : mme_ue_id ≡ id = cc in
    phone_named ps (ue_message e mme_ue_id enb_ue_id body) ∙ ap (λ n. slot_of_id n ps) same

heard_named : (n : Network) (ps : List Profile) (e : ℕ) (tas : List SupportedTa) (m : Pdu (List ℕ)) (id : ℕ) → id_in m ≡ Some id
    → slot_named (outcome_of_message n ps e (Ready tas) m).destination ≡ slot_of_id id ps
heard_named n ps e tas (pdu.UplinkNasTransport m) id is = id_named ps e m.mme_ue_id m.enb_ue_id (Uplink m.nas m.tai) id is
heard_named n ps e tas (pdu.NasNonDeliveryIndication m) id is = id_named ps e m.mme_ue_id m.enb_ue_id Notice id is
heard_named n ps e tas (pdu.UeCapabilityInfoIndication m) id is = id_named ps e m.mme_ue_id m.enb_ue_id Notice id is
heard_named n ps e tas (pdu.InitialContextSetupResponse m) id is = id_named ps e m.mme_ue_id m.enb_ue_id Notice id is
heard_named n ps e tas (pdu.InitialContextSetupFailure m) id is =
    id_named ps e m.mme_ue_id m.enb_ue_id InitialContextSetupFailure id is
heard_named n ps e tas (pdu.UeContextReleaseRequest m) id is =
    id_named ps e m.mme_ue_id m.enb_ue_id (UeContextReleaseRequest m.cause) id is
heard_named n ps e tas (pdu.UeContextReleaseComplete m) id is = id_named ps e m.mme_ue_id m.enb_ue_id UeContextReleaseComplete id is
heard_named n ps e tas (pdu.PathSwitchRequest m) id is = id_named ps e m.source_mme_ue_id m.enb_ue_id PathSwitch id is
heard_named n ps e tas m id is = cc

pub named_by_id : NamedById
unfolding happens
named_by_id s e octets tas m id ready is has =
    ap (λ state. slot_named (outcome_of s.config.network s.profiles e state (decoded octets.now)).destination) ready
    ∙ ap (λ r. slot_named (outcome_of s.config.network s.profiles e (Ready tas) r).destination) is
    ∙ heard_named s.config.network s.profiles e tas m id has
