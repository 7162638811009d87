-- On whose association what is sent for a phone goes (TS 36.413 clauses 9.2.3.3, 9.2.3.4).
use Rattle.std.specs.Prelude.{◌≡◌, ℕ, List, All, Option, Some, None, Ok}
use Rattle.s1ap_elements.specs.declared.phone.UeS1apIds.{UeS1apIds}
use Rattle.s1ap_elements.specs.declared.phone.UeS1apIds.TheVariants.{Pair, MmeUeId}
use Rattle.s1ap_pdus.specs.declared.pdu.Paging.{Paging}
use Rattle.s1ap_pdus.specs.declared.pdu.Pdu.{Pdu}
use Rattle.s1ap_pdus.specs.declared.pdu.Pdu.TheVariants as pdu
use Rattle.s1ap_pdus.specs.Pdus.{decoded}
use Rattle.mme_types.specs.declared.connection.Connection.{Connection}
use Rattle.mme_types.specs.declared.event.Entry.{Entry}
use Rattle.mme_types.specs.declared.octets.Answer.{Answer}
use Rattle.mme_types.specs.Events.{Item, Initial}
use Rattle.emm_state.specs.declared.setting.Setting.{Setting}
use Rattle.emm_state.specs.declared.solo.Solo.{Solo}
use Rattle.emm_machine.specs.Steps.{solo_step}
use Rattle.laws_mme.specs.Holds.{IsConnectedBy, next_connection}
use Rattle.laws_mme.specs.Premises.{IsIndication, station_of}

-- the two ids of an association
abbrev pub pair_named : UeS1apIds → Option (ℕ × ℕ)
pair_named (Pair p) = Some (p.mme_ue_id, p.enb_ue_id)
pair_named (MmeUeId id) = None

-- in a message that goes on one
abbrev pub pair_in : Pdu (List ℕ) → Option (ℕ × ℕ)
pair_in (pdu.DownlinkNasTransport m) = Some (m.mme_ue_id, m.enb_ue_id)
pair_in (pdu.InitialContextSetupRequest m) = Some (m.mme_ue_id, m.enb_ue_id)
pair_in (pdu.PathSwitchRequestAcknowledge m) = Some (m.mme_ue_id, m.enb_ue_id)
pair_in (pdu.UeContextReleaseCommand m) = pair_named m.ids
pair_in _ = None

-- it goes to the station of this connection, with its ids
pub record HasPairOf (k : Connection) (a : Answer) (m : Pdu (List ℕ)) : Type 0 where
  pub station : a.station ≡ k.station
  pub ids : pair_in m ≡ Some (k.id, k.enb_ue_id)

-- it goes on the phone's connection before the step; on the one that the item makes; where a request is refused, to where it came
-- from on the slot's next id; it is an ERROR INDICATION or a PATH SWITCH REQUEST FAILURE, to where the item came from; or it is
-- PAGING
pub data IsAssociated (s : Setting) (solo : Solo) (item : Item) (a : Answer) (m : Pdu (List ℕ)) : Type 0 where
  Standing : (k : Connection) → solo.connection ≡ Some k → HasPairOf k a m → IsAssociated s solo item a m
  Made : (k : Connection) → IsConnectedBy s item k → HasPairOf k a m → IsAssociated s solo item a m
  Refused : (r : Entry (List ℕ)) → item ≡ Initial r → HasPairOf (next_connection s solo r) a m → IsAssociated s solo item a m
  Told : station_of item ≡ Some a.station → IsIndication m → IsAssociated s solo item a m
  Paged : (p : Paging (List ℕ)) → m ≡ pdu.Paging p → IsAssociated s solo item a m

-- all that a step sends
abbrev pub AllAreAssociated : Type 0
AllAreAssociated =
    (s : Setting) (solo : Solo) (item : Item)
    → All (λ (a : Answer). (m : Pdu (List ℕ)) → decoded a.octets ≡ Ok m → IsAssociated s solo item a m) (solo_step s solo item).sent
