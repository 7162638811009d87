-- The machine of one stranger: a phone that no subscriber is known for, at a station and under its eNB UE S1AP ID. It is closed,
-- waits for an identity (TS 24.301 clause 5.4.4), or is held by the subscriber that it turned out to be.
use Rattle.std.specs.Prelude.{ℕ, ◌-◌, ◌==◌, ◌&&◌, nat_lt, if◌then◌else◌, Bool, true, false, List, [], slice_index, Option, Some, None, Result, Ok, Err}
use Rattle.identity_slots.specs.declared.profile.Profile.{Profile}
use Rattle.identity_slots.specs.Ids.{number_in, station_in}
use Rattle.identity_slots.specs.Provisioned.{slot_of_imsi}
use Rattle.nas_elements.specs.declared.fault.NasFault.{NasFault}
use Rattle.nas_elements.specs.declared.fault.NasFault.TheVariants.{TooShort, Mandatory, UnknownType, OptionalPart, NoMemory}
use Rattle.nas_elements.specs.declared.identity.MobileIdentity.{MobileIdentity}
use Rattle.nas_elements.specs.declared.identity.MobileIdentity.TheVariants.{Imsi, Temporary}
use Rattle.nas_messages.specs.declared.emm_types.Direction.TheVariants.{Uplink as UplinkDirection}
use Rattle.nas_messages.specs.declared.emm_types.Emm.{Emm}
use Rattle.nas_messages.specs.declared.emm_types.Emm.TheVariants as emm
use Rattle.nas_messages.specs.declared.emm_types.EmmType.TheVariants.{AttachRequest, TrackingAreaUpdateRequest}
use Rattle.nas_messages.specs.Messages.{code_of, decoded_emm}
use Rattle.nas_elements.specs.Timers.{t3470_repeats, t3470_ticks}
use Rattle.s1ap_causes.specs.declared.cause.Cause.TheVariants.{RadioNetwork, Nas}
use Rattle.s1ap_causes.specs.declared.cause.RadioNetworkCause.TheVariants.{UnknownMmeUeS1apId, UnknownPairUeS1apId}
use Rattle.s1ap_causes.specs.declared.cause.NasCause.TheVariants.{Unspecified}
use Rattle.mme_types.specs.declared.event.Entry.{Entry}
use Rattle.mme_types.specs.declared.event.UeBody.{UeBody}
use Rattle.mme_types.specs.declared.event.UeBody.TheVariants.{Uplink, UeContextReleaseRequest, UeContextReleaseComplete, InitialContextSetupFailure, PathSwitch, Notice as NoticeBody}
use Rattle.mme_types.specs.declared.event.UeMessage.{UeMessage}
use Rattle.mme_types.specs.declared.octets.Answer.{Answer}
use Rattle.mme_signalling.specs.Pdus.{cause_of_request}
use Rattle.mme_signalling.specs.declared.cause.EmmCause.TheVariants.{IdentityNotDerived, InvalidMandatory, ServicesNotAllowed}
use Rattle.mme_signalling.specs.Hearing.{initial_octets}
use Rattle.mme_signalling.specs.Messages.{attach_reject, service_reject, update_reject}
use Rattle.mme_signalling.specs.Pdus.{error_indication, path_switch_failure}
use Rattle.mme_types.specs.Events.{Claim, Displaced, Message}
use Rattle.mme_types.specs.Listed.{ToReset, is_listed}
use Rattle.stranger_machine.specs.declared.state.KeptEntry.{KeptEntry}
use Rattle.stranger_machine.specs.declared.state.Stranger.{Stranger}
use Rattle.stranger_machine.specs.declared.state.Stranger.TheVariants.{Waiting, Held}
use Rattle.stranger_machine.specs.declared.turn.Notice.{Notice}
use Rattle.stranger_machine.specs.declared.turn.Notice.TheVariants.{Tick, Gone, Listed}
use Rattle.stranger_machine.specs.Turns.{Call, Turn, identity_asked, also_calling, closing, as_entry, as_kept, place_of, refused, released, sent_to, stays}

-- T3470: the ticks until IDENTITY REQUEST is sent again, and how often it is
abbrev pub identity_ticks : ℕ
identity_ticks = t3470_ticks

abbrev pub identity_repeats : ℕ
identity_repeats = t3470_repeats

-- ---- an INITIAL UE MESSAGE that names nobody

-- how a phone that is foreign is met: asked for its identity, refused by a NAS message, or turned away without one
pub data Welcome : Type 0 where
  Ask : Welcome
  Refuse : List ℕ → Welcome
  TurnAway : Welcome

abbrev pub welcome_by_identity : MobileIdentity → Welcome
welcome_by_identity (Imsi digits) = Refuse (attach_reject ServicesNotAllowed None)
welcome_by_identity (Temporary g) = Ask

-- an identity of elsewhere can be asked for in an attach alone: any other request is refused
abbrev pub welcome_by_message : Emm (List ℕ) → Welcome
welcome_by_message (emm.AttachRequest m) = welcome_by_identity m.identity
welcome_by_message (emm.TrackingAreaUpdateRequest m) = Refuse (update_reject IdentityNotDerived)
welcome_by_message (emm.ServiceRequest octets) = Refuse (service_reject IdentityNotDerived)
welcome_by_message _ = TurnAway

-- a request with a part that can't be read is refused by its type
abbrev pub welcome_by_type : ℕ → Welcome
welcome_by_type code =
    if code == code_of AttachRequest then Refuse (attach_reject InvalidMandatory None)
    else if code == code_of TrackingAreaUpdateRequest then Refuse (update_reject InvalidMandatory)
    else TurnAway

abbrev pub welcome_by_fault : NasFault → ℕ → Welcome
welcome_by_fault Mandatory code = welcome_by_type code
welcome_by_fault OptionalPart code = welcome_by_type code
welcome_by_fault TooShort code = TurnAway
welcome_by_fault UnknownType code = TurnAway
welcome_by_fault NoMemory code = TurnAway

abbrev pub welcome_by_reading : Result (Emm (List ℕ)) NasFault → ℕ → Welcome
welcome_by_reading (Ok m) code = welcome_by_message m
welcome_by_reading (Err fault) code = welcome_by_fault fault code

unfoldable pub meet : List ℕ → Welcome
meet nas = welcome_by_reading (decoded_emm UplinkDirection (initial_octets nas)) (slice_index (initial_octets nas) 1)

unfoldable pub welcomed : ℕ → KeptEntry → Welcome → Turn
welcomed id k Ask = stays (Some (Waiting k identity_ticks identity_repeats)) (identity_asked (place_of id k))
welcomed id k (Refuse nas) = closing (refused (place_of id k) nas)
welcomed id k TurnAway = closing (released (place_of id k) (Nas Unspecified))

-- whoever held the id loses it
abbrev pub displaced_by : ℕ → Option Stranger → Option Call
displaced_by id None = None
displaced_by id (Some (Waiting k left repeats)) = None
displaced_by id (Some (Held slot)) = Some (record { slot = slot; item = Displaced id })

unfoldable pub begins : ℕ → Option Stranger → Entry (List ℕ) → Turn
begins id s m = also_calling (displaced_by id s) (welcomed id (as_kept m) (meet m.nas))

-- ---- a message with the id

-- of nobody (TS 36.413 clauses 10.6 and 8.4.4.3)
unfoldable pub unknown : UeBody (List ℕ) → UeMessage (List ℕ) → List Answer
unknown UeContextReleaseComplete m = []
unknown PathSwitch m = sent_to m.station (path_switch_failure m.mme_ue_id m.enb_ue_id (RadioNetwork UnknownMmeUeS1apId))
unknown (Uplink nas tai) m = sent_to m.station (error_indication m.mme_ue_id m.enb_ue_id (RadioNetwork UnknownMmeUeS1apId))
unknown (UeContextReleaseRequest cause) m =
    sent_to m.station (error_indication m.mme_ue_id m.enb_ue_id (RadioNetwork UnknownMmeUeS1apId))
unknown InitialContextSetupFailure m =
    sent_to m.station (error_indication m.mme_ue_id m.enb_ue_id (RadioNetwork UnknownMmeUeS1apId))
unknown NoticeBody m = sent_to m.station (error_indication m.mme_ue_id m.enb_ue_id (RadioNetwork UnknownMmeUeS1apId))

-- the IMSI of an IDENTITY RESPONSE, which is plain
abbrev pub imsi_of_identity : MobileIdentity → Option (List ℕ)
imsi_of_identity (Imsi digits) = Some digits
imsi_of_identity (Temporary g) = None

abbrev pub imsi_in_response : Result (Emm (List ℕ)) NasFault → Option (List ℕ)
imsi_in_response (Ok (emm.IdentityResponse identity)) = imsi_of_identity identity
imsi_in_response _ = None

-- who is provisioned claims the association, with the message that began it
unfoldable pub claimed_by : Option ℕ → ℕ → KeptEntry → Turn
claimed_by None id k = closing (refused (place_of id k) (attach_reject ServicesNotAllowed None))
claimed_by (Some slot) id k =
    record { stranger = Some (Held slot); sent = []; call = Some (record { slot = slot; item = Claim id (as_entry k) }) }

unfoldable pub identified : Option (List ℕ) → List Profile → ℕ → KeptEntry → Stranger → Turn
identified None ps id k s = stays (Some s) []
identified (Some imsi) ps id k s = claimed_by (slot_of_imsi imsi ps) id k

-- from its own station and number
unfoldable pub receives_own : UeBody (List ℕ) → List Profile → ℕ → KeptEntry → Stranger → Turn
receives_own (Uplink nas tai) ps id k s = identified (imsi_in_response (decoded_emm UplinkDirection nas)) ps id k s
receives_own (UeContextReleaseRequest cause) ps id k s = closing (released (place_of id k) (cause_of_request cause))
receives_own UeContextReleaseComplete ps id k s = stays (Some s) []
receives_own InitialContextSetupFailure ps id k s = stays (Some s) []
receives_own PathSwitch ps id k s = stays (Some s) []
receives_own NoticeBody ps id k s = stays (Some s) []

unfoldable pub checked_for_pair : List Profile → UeMessage (List ℕ) → KeptEntry → Stranger → Turn
checked_for_pair ps m k s =
    if k.station == m.station && k.enb_ue_id == m.enb_ue_id then receives_own m.body ps m.mme_ue_id k s
    else stays (Some s) (sent_to m.station (error_indication m.mme_ue_id m.enb_ue_id (RadioNetwork UnknownPairUeS1apId)))

-- waiting: UE CONTEXT RELEASE COMPLETE is never answered, and no path switch leads away
unfoldable pub receives_waiting : UeBody (List ℕ) → List Profile → UeMessage (List ℕ) → KeptEntry → Stranger → Turn
receives_waiting UeContextReleaseComplete ps m k s = stays (Some s) []
receives_waiting PathSwitch ps m k s = stays (Some s) (unknown PathSwitch m)
receives_waiting (Uplink nas tai) ps m k s = checked_for_pair ps m k s
receives_waiting (UeContextReleaseRequest cause) ps m k s = checked_for_pair ps m k s
receives_waiting InitialContextSetupFailure ps m k s = checked_for_pair ps m k s
receives_waiting NoticeBody ps m k s = checked_for_pair ps m k s

unfoldable pub receives : List Profile → Option Stranger → UeMessage (List ℕ) → Turn
receives ps None m = closing (unknown m.body m)
receives ps (Some (Waiting k left repeats)) m = receives_waiting m.body ps m k (Waiting k left repeats)
receives ps (Some (Held slot)) m =
    record { stranger = Some (Held slot); sent = []; call = Some (record { slot = slot; item = Message m }) }

-- ---- what comes to all

-- a second has passed: T3470
unfoldable pub waits : ℕ → KeptEntry → ℕ → ℕ → Turn
waits id k left repeats =
    if nat_lt 1 left then stays (Some (Waiting k (left - 1) repeats)) []
    else if nat_lt 0 repeats then stays (Some (Waiting k identity_ticks (repeats - 1))) (identity_asked (place_of id k))
    else closing (released (place_of id k) (Nas Unspecified))

unfoldable pub ticks : ℕ → Option Stranger → Turn
ticks id None = stays None []
ticks id (Some (Waiting k left repeats)) = waits id k left repeats
ticks id (Some (Held slot)) = stays (Some (Held slot)) []

-- a station was lost, set up anew or reset as a whole: its strangers are closed, those too that are held
unfoldable pub loses : ℕ → Option Stranger → ℕ → Turn
loses id s e = if station_in id == e then closing [] else stays s []

-- a stranger of the station whose own id and number an item matches
abbrev pub is_meant : ℕ → ℕ → ToReset → Bool
is_meant id e items = station_in id == e && is_listed id (number_in id) items

-- a station reset a list of associations: the strangers that it means are closed, those too that are held
-- (TS 36.413 clause 8.7.1.2.2)
unfoldable pub unlists : ℕ → Option Stranger → ℕ → ToReset → Turn
unlists id s e items = if is_meant id e items then closing [] else stays s []

unfoldable pub notes : ℕ → Option Stranger → Notice → Turn
notes id s Tick = ticks id s
notes id s (Gone e) = loses id s e
notes id s (Listed e items) = unlists id s e items

-- ---- a notice of a station

-- a notice of what happened to a station
abbrev pub is_of_station : Notice → Bool
is_of_station Tick = false
is_of_station _ = true

-- the station that it is of
abbrev pub noted_station : Notice → ℕ
noted_station Tick = 0
noted_station (Gone e) = e
noted_station (Listed e items) = e

-- it closes the stranger with an id, whatever that is
abbrev pub closes : ℕ → Notice → Bool
closes id Tick = false
closes id (Gone e) = station_in id == e
closes id (Listed e items) = is_meant id e items

-- ---- the step

-- what reaches a stranger at an event
pub data Input : Type 0 where
  Nothing : Input
  Begins : Entry (List ℕ) → Input
  Receives : UeMessage (List ℕ) → Input
  Notes : Notice → Input

unfoldable pub stranger_step : List Profile → ℕ → Option Stranger → Input → Turn
stranger_step ps id s Nothing = stays s []
stranger_step ps id s (Begins m) = begins id s m
stranger_step ps id s (Receives m) = receives ps s m
stranger_step ps id s (Notes notice) = notes id s notice
