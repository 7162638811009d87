-- What is sent for a station and for a stranger is sent: each message has a written form, so each answer is there.
use Rattle.std.specs.Prelude.{◌≡◌, ℕ, ◌^◌, ◌<◌, true, false, List, [], ◌∷◌, Some, None, Ok, Err}
use Rattle.s1ap_causes.specs.declared.cause.Cause.{Cause}
use Rattle.s1ap_causes.specs.declared.cause.Cause.TheVariants.{Nas, Protocol, RadioNetwork}
use Rattle.s1ap_causes.specs.declared.cause.NasCause.TheVariants.{NormalRelease}
use Rattle.s1ap_causes.specs.declared.cause.ProtocolCause.TheVariants.{MessageNotCompatible}
use Rattle.s1ap_causes.specs.declared.cause.RadioNetworkCause.TheVariants.{UnknownMmeUeS1apId}
use Rattle.s1ap_elements.specs.declared.reset.ResetAll.{ResetAll}
use Rattle.s1ap_elements.specs.declared.reset.ResetType.TheVariants.{All, Part}
use Rattle.s1ap_elements.specs.declared.station.SupportedTa.{SupportedTa}
use Rattle.s1ap_rows.specs.declared.fault.S1apFault.{S1apFault}
use Rattle.s1ap_pdus.specs.declared.pdu.Pdu.{Pdu}
use Rattle.s1ap_pdus.specs.declared.pdu.Pdu.TheVariants as pdu
use Rattle.s1ap_pdus.specs.declared.pdu.Reset.{Reset}
use Rattle.s1ap_pdus.specs.Pdus.{decoded, encoded}
use Rattle.identity_slots.specs.declared.profile.Profile.{Profile}
use Rattle.mme_types.specs.declared.connection.Connection.{Connection}
use Rattle.mme_types.specs.declared.event.UeBody.{UeBody}
use Rattle.mme_types.specs.declared.event.UeBody.TheVariants as bodies
use Rattle.mme_types.specs.declared.event.UeMessage.{UeMessage}
use Rattle.mme_types.specs.declared.network.Network.{Network}
use Rattle.mme_types.specs.declared.octets.Answer.{Answer}
use Rattle.mme_types.specs.declared.stations.StationState.{StationState}
use Rattle.mme_types.specs.declared.stations.StationState.TheVariants.{Ready}
use Rattle.mme_types.specs.Listed.{ToReset}
use Rattle.mme_signalling.specs.Pdus.{downlink, error_indication, is_extended, path_switch_failure, release_command}
use Rattle.stranger_machine.specs.Machine.{unknown}
use Rattle.mme_signalling.specs.Messages.{identity_request}
use Rattle.stranger_machine.specs.Turns.{identity_asked, refused, released}
use Rattle.mme_routing.specs.Outcomes.{broadcasts, cause_of, indication, not_compatible, outcome_of, setup_failure, setup_response, station_set_up}
use Rattle.mme_routing.specs.Resets.{part_acknowledge, reset, whole_acknowledge}
use Rattle.laws_network.specs.Ranges.{ConnectionInRange, IsBrief, NetworkInRange}

-- the one message to the station
abbrev pub AnswersWith : ℕ → Pdu (List ℕ) → List Answer → Type 0
AnswersWith station message sent =
    (octets : List ℕ) × (encoded message ≡ Some octets) × (sent ≡ record { station = station; octets = octets; under = None } ∷ [])

-- and one after another
abbrev pub AnswersWithBoth : ℕ → Pdu (List ℕ) → Pdu (List ℕ) → List Answer → Type 0
AnswersWithBoth station first second sent =
    (one : List ℕ) × (two : List ℕ) × (encoded first ≡ Some one) × (encoded second ≡ Some two)
    × (sent ≡ record { station = station; octets = one; under = None } ∷ record { station = station; octets = two; under = None }
    ∷ [])

-- ---- stations (TS 36.413 clauses 8.7.3, 8.7.1, 8.7.2)

-- S1 SETUP REQUEST
abbrev pub SetupIsAnswered : Type 0
SetupIsAnswered =
    (n : Network) (e : ℕ) (tas : List SupportedTa) → NetworkInRange n
    → (broadcasts n.plmn tas ≡ true → AnswersWith e (setup_response n) (station_set_up n e tas).sent)
    × (broadcasts n.plmn tas ≡ false → AnswersWith e setup_failure (station_set_up n e tas).sent)

-- RESET of the whole interface
abbrev pub ResetIsAnswered : Type 0
ResetIsAnswered =
    (e : ℕ) (tas : List SupportedTa) (a : ResetAll) → AnswersWith e whole_acknowledge (reset e (Ready tas) (All a)).sent

-- RESET of a part, as it was read: each of its items comes back
abbrev pub PartResetIsAnswered : Type 0
PartResetIsAnswered =
    (os : List ℕ) (e : ℕ) (tas : List SupportedTa) (m : Reset) (items : ToReset) → decoded os ≡ Ok (pdu.Reset m)
    → m.reset_type ≡ Part items → AnswersWith e (part_acknowledge items) (reset e (Ready tas) m.reset_type).sent

-- octets that are no message, by the cause of their fault
abbrev pub FaultIsAnswered : Type 0
FaultIsAnswered =
    (n : Network) (ps : List Profile) (e : ℕ) (state : StationState) (fault : S1apFault) (cause : Cause)
    → cause_of fault ≡ Some cause
    → AnswersWith e (indication cause) (outcome_of n ps e state (Err fault)).sent

-- a message that the station's state doesn't take
abbrev pub IncompatibleIsAnswered : Type 0
IncompatibleIsAnswered = (e : ℕ) → AnswersWith e (indication (Protocol MessageNotCompatible)) (not_compatible e).sent

-- ---- a message with the id of nobody

-- all but UE CONTEXT RELEASE COMPLETE are answered (TS 36.413 clauses 10.6 and 8.4.4.3)
abbrev pub IsUnknownAnswered : UeMessage (List ℕ) → UeBody (List ℕ) → Type 0
IsUnknownAnswered m bodies.UeContextReleaseComplete = unknown bodies.UeContextReleaseComplete m ≡ []
IsUnknownAnswered m bodies.PathSwitch =
    AnswersWith m.station (path_switch_failure m.mme_ue_id m.enb_ue_id (RadioNetwork UnknownMmeUeS1apId))
    (unknown bodies.PathSwitch m)
IsUnknownAnswered m body =
    AnswersWith m.station (error_indication m.mme_ue_id m.enb_ue_id (RadioNetwork UnknownMmeUeS1apId)) (unknown body m)

abbrev pub UnknownIsAnswered : Type 0
UnknownIsAnswered =
    (m : UeMessage (List ℕ)) (body : UeBody (List ℕ)) → m.mme_ue_id < 2 ^ 32 → m.enb_ue_id < 2 ^ 24 → IsUnknownAnswered m body

-- ---- strangers

abbrev pub ReleasedIsSent : Type 0
ReleasedIsSent =
    (k : Connection) (cause : Cause) → ConnectionInRange k → is_extended cause ≡ false
    → AnswersWith k.station (release_command k.id k.enb_ue_id cause) (released k cause)

abbrev pub RefusedIsSent : Type 0
RefusedIsSent =
    (k : Connection) (nas : List ℕ) → ConnectionInRange k → IsBrief 15000 nas
    → AnswersWithBoth k.station (downlink k nas) (release_command k.id k.enb_ue_id (Nas NormalRelease)) (refused k nas)

abbrev pub IdentityAskedIsSent : Type 0
IdentityAskedIsSent =
    (k : Connection) → ConnectionInRange k → AnswersWith k.station (downlink k identity_request) (identity_asked k)
