-- What is sent to stations, and what a station that is not down makes of what it sends (TS 36.413 clauses 8.7.3 and 8.7.2).
use Rattle.std.specs.Prelude.{ℕ, Bool, List, [], ◌∷◌, Option, Some, None, Result, Ok, Err, if◌then◌else◌}
use Rattle.std.specs.List.{list_any}
use Rattle.s1ap_causes.specs.declared.cause.Cause.{Cause}
use Rattle.s1ap_causes.specs.declared.cause.Cause.TheVariants.{Protocol, Misc}
use Rattle.s1ap_causes.specs.declared.cause.ProtocolCause.TheVariants.{TransferSyntaxError, AbstractSyntaxErrorReject, AbstractSyntaxErrorIgnoreAndNotify, FalselyConstructedMessage}
use Rattle.s1ap_causes.specs.declared.cause.MiscCause.TheVariants.{UnknownPlmn}
use Rattle.s1ap_elements.specs.declared.station.SupportedTa.{SupportedTa}
use Rattle.s1ap_elements.specs.declared.station.ServedGummei.{ServedGummei}
use Rattle.s1ap_rows.specs.declared.criticality.Criticality.{Criticality}
use Rattle.s1ap_rows.specs.declared.criticality.Criticality.TheVariants.{Reject, Ignore, Notify}
use Rattle.s1ap_rows.specs.declared.fault.S1apFault.{S1apFault}
use Rattle.s1ap_rows.specs.declared.fault.S1apFault.TheVariants.{Syntax, UnknownProcedure, MissingElement, RepeatedElement, RefusedElement, NoMemory}
use Rattle.s1ap_pdus.specs.declared.pdu.Pdu.{Pdu}
use Rattle.s1ap_pdus.specs.declared.pdu.Pdu.TheVariants as pdu
use Rattle.s1ap_pdus.specs.declared.pdu.InitialUeMessage.{InitialUeMessage}
use Rattle.identity_slots.specs.declared.profile.Profile.{Profile}
use Rattle.identity_slots.specs.Ids.{is_of_slot, stranger_id}
use Rattle.identity_slots.specs.Provisioned.{slot_of_id}
use Rattle.mme_types.specs.declared.event.Entry.{Entry}
use Rattle.mme_types.specs.declared.event.UeBody.{UeBody}
use Rattle.mme_types.specs.declared.event.UeBody.TheVariants.{Uplink, UeContextReleaseRequest, UeContextReleaseComplete, InitialContextSetupFailure, PathSwitch, Notice}
use Rattle.mme_types.specs.declared.event.UeMessage.{UeMessage}
use Rattle.mme_types.specs.declared.network.Network.{Network}
use Rattle.mme_types.specs.declared.octets.Answer.{Answer}
use Rattle.mme_types.specs.Stations.{is_broadcast}
use Rattle.mme_types.specs.declared.stations.StationState.{StationState}
use Rattle.mme_types.specs.declared.stations.StationState.TheVariants.{Down, Up, Ready}
use Rattle.mme_types.specs.Events.{Initial, Message}
use Rattle.stranger_machine.specs.Machine.{unknown}
use Rattle.stranger_machine.specs.Turns.{sent_to}
use Rattle.mme_routing.specs.Destinations.{Subscriber, Beginner, Stranger}
use Rattle.mme_routing.specs.Naming.{named_slot}
pub use Rattle.mme_routing.specs.Outcome.{Outcome, answered, begins_anew, goes_to, indication, not_compatible}
use Rattle.mme_routing.specs.Resets.{reset}

-- ---- what the MME sends to stations

-- the one network, group and code of the MME
abbrev pub served_gummei : Network → ServedGummei
served_gummei network = record { plmns = network.plmn ∷ []; groups = network.group ∷ []; codes = network.code ∷ [] }

abbrev pub setup_response : Network → Pdu (List ℕ)
setup_response network = pdu.S1SetupResponse (record { served_gummeis = served_gummei network ∷ []; capacity = 255 })

abbrev pub setup_failure : Pdu (List ℕ)
setup_failure = pdu.S1SetupFailure (record { cause = Misc UnknownPlmn })

-- the cause that octets with a fault are answered with; an unknown procedure by its criticality
abbrev pub cause_of_unknown : Criticality → Option Cause
cause_of_unknown Reject = Some (Protocol AbstractSyntaxErrorReject)
cause_of_unknown Ignore = None
cause_of_unknown Notify = Some (Protocol AbstractSyntaxErrorIgnoreAndNotify)

abbrev pub cause_of : S1apFault → Option Cause
cause_of (Syntax f) = Some (Protocol TransferSyntaxError)
cause_of (UnknownProcedure criticality) = cause_of_unknown criticality
cause_of (MissingElement id) = Some (Protocol AbstractSyntaxErrorReject)
cause_of (RefusedElement id) = Some (Protocol AbstractSyntaxErrorReject)
cause_of (RepeatedElement id) = Some (Protocol FalselyConstructedMessage)
cause_of NoMemory = None

abbrev pub indicated : ℕ → Option Cause → List Answer
indicated e None = []
indicated e (Some cause) = sent_to e (indication cause)

-- ---- what a station makes of a message

-- whether some tracking area broadcasts the network
abbrev pub broadcasts : List ℕ → List SupportedTa → Bool
broadcasts plmn tas = list_any (λ ta. is_broadcast plmn ta.plmns) tas

-- S1 SETUP REQUEST: the station begins anew, whatever the answer
abbrev pub station_set_up : Network → ℕ → List SupportedTa → Outcome
station_set_up network e tas =
    if broadcasts network.plmn tas
    then begins_anew e (Some (Ready tas)) (sent_to e (setup_response network))
    else begins_anew e (Some Up) (sent_to e setup_failure)

abbrev pub entry_of : ℕ → InitialUeMessage (List ℕ) → Entry (List ℕ)
entry_of e m = record { station = e; enb_ue_id = m.enb_ue_id; nas = m.nas; tai = m.tai }

abbrev pub entry_routed : Option ℕ → ℕ → InitialUeMessage (List ℕ) → Outcome
entry_routed (Some slot) e m = goes_to (Subscriber slot (Initial (entry_of e m)))
entry_routed None e m = goes_to (Beginner (stranger_id e m.enb_ue_id) (entry_of e m))

-- INITIAL UE MESSAGE, of a station that is set up
abbrev pub enters : Network → List Profile → ℕ → StationState → InitialUeMessage (List ℕ) → Outcome
enters n ps e Down m = not_compatible e
enters n ps e Up m = not_compatible e
enters n ps e (Ready tas) m = entry_routed (named_slot n ps m.nas m.s_tmsi) e m

-- a message with an id of a slot; one that isn't provisioned is nobody's
abbrev pub message_of_slot : Option ℕ → UeMessage (List ℕ) → Outcome
message_of_slot (Some slot) m = goes_to (Subscriber slot (Message m))
message_of_slot None m = answered (unknown m.body m)

abbrev pub message_by_id : List Profile → UeMessage (List ℕ) → Outcome
message_by_id ps m = if is_of_slot m.mme_ue_id then message_of_slot (slot_of_id m.mme_ue_id ps) m else goes_to (Stranger m)

-- a message with an MME UE id, of a station that is set up
abbrev pub phone_message : List Profile → StationState → UeMessage (List ℕ) → Outcome
phone_message ps Down m = not_compatible m.station
phone_message ps Up m = not_compatible m.station
phone_message ps (Ready tas) m = message_by_id ps m

abbrev pub ue_message : ℕ → ℕ → ℕ → UeBody (List ℕ) → UeMessage (List ℕ)
ue_message e mme_ue_id enb_ue_id body = record { station = e; mme_ue_id = mme_ue_id; enb_ue_id = enb_ue_id; body = body }

-- the messages with an MME UE id that a station sends
abbrev pub ue_message_in : ℕ → Pdu (List ℕ) → Option (UeMessage (List ℕ))
ue_message_in e (pdu.UplinkNasTransport m) = Some (ue_message e m.mme_ue_id m.enb_ue_id (Uplink m.nas m.tai))
ue_message_in e (pdu.NasNonDeliveryIndication m) = Some (ue_message e m.mme_ue_id m.enb_ue_id Notice)
ue_message_in e (pdu.UeCapabilityInfoIndication m) = Some (ue_message e m.mme_ue_id m.enb_ue_id Notice)
ue_message_in e (pdu.InitialContextSetupResponse m) = Some (ue_message e m.mme_ue_id m.enb_ue_id Notice)
ue_message_in e (pdu.InitialContextSetupFailure m) = Some (ue_message e m.mme_ue_id m.enb_ue_id InitialContextSetupFailure)
ue_message_in e (pdu.UeContextReleaseRequest m) = Some (ue_message e m.mme_ue_id m.enb_ue_id (UeContextReleaseRequest m.cause))
ue_message_in e (pdu.UeContextReleaseComplete m) = Some (ue_message e m.mme_ue_id m.enb_ue_id UeContextReleaseComplete)
ue_message_in e (pdu.PathSwitchRequest m) = Some (ue_message e m.source_mme_ue_id m.enb_ue_id PathSwitch)
ue_message_in e _ = None

-- any other is one that an MME sends
abbrev pub phone_message_if : List Profile → ℕ → StationState → Option (UeMessage (List ℕ)) → Outcome
phone_message_if ps e state (Some m) = phone_message ps state m
phone_message_if ps e state None = not_compatible e

-- what a station that is not down makes of the message that it sends
abbrev pub outcome_of_message : Network → List Profile → ℕ → StationState → Pdu (List ℕ) → Outcome
outcome_of_message n ps e state (pdu.S1SetupRequest m) = station_set_up n e m.supported_tas
outcome_of_message n ps e state (pdu.Reset m) = reset e state m.reset_type
outcome_of_message n ps e state (pdu.ErrorIndication m) = answered []
outcome_of_message n ps e state (pdu.ResetAcknowledge m) = answered []
outcome_of_message n ps e state (pdu.InitialUeMessage m) = enters n ps e state m
outcome_of_message n ps e state m = phone_message_if ps e state (ue_message_in e m)

-- and of the octets
abbrev pub outcome_of : Network → List Profile → ℕ → StationState → Result (Pdu (List ℕ)) S1apFault → Outcome
outcome_of n ps e state (Err fault) = answered (indicated e (cause_of fault))
outcome_of n ps e state (Ok m) = outcome_of_message n ps e state m
