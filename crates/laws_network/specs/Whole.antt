-- What an action sends, it sends whole: the message has a written form, and stands after what was sent before.
use Rattle.std.specs.Prelude.{◌≡◌, ℕ, ◌%◌, ◌^◌, ◌<◌, false, List, [], ◌∷◌, ◌++◌, map, Option, Some, None}
use Rattle.per_streams.specs.Octet.{AreBytes}
use Rattle.s1ap_causes.specs.declared.cause.Cause.{Cause}
use Rattle.s1ap_causes.specs.declared.cause.Cause.TheVariants.{Nas}
use Rattle.s1ap_causes.specs.declared.cause.NasCause.TheVariants.{AuthenticationFailure, NormalRelease}
use Rattle.s1ap_pdus.specs.declared.pdu.Pdu.{Pdu}
use Rattle.s1ap_pdus.specs.Pdus.{encoded}
use Rattle.nas_messages.specs.declared.protection.SecurityHeader.{SecurityHeader}
use Rattle.identity_slots.specs.declared.profile.Vector.{Vector}
use Rattle.mme_types.specs.declared.connection.Connection.{Connection}
use Rattle.mme_types.specs.declared.event.UeMessage.{UeMessage}
use Rattle.mme_types.specs.declared.octets.Answer.{Answer}
use Rattle.mme_types.specs.declared.octets.Mark.{Mark}
use Rattle.mme_types.specs.Events.{Item}
use Rattle.mme_signalling.specs.declared.cause.EmmCause.{EmmCause}
use Rattle.mme_signalling.specs.Messages.{attach_reject, authentication_reject, authentication_request}
use Rattle.mme_signalling.specs.Pdus.{cause_of_request, context_setup, downlink, error_indication, is_extended, paging, path_switch_acknowledge, path_switch_failure, release_command}
use Rattle.emm_state.specs.declared.draft.Draft.{Draft}
use Rattle.emm_state.specs.declared.draft.Sealed.{Sealed}
use Rattle.emm_state.specs.declared.setting.Setting.{Setting}
use Rattle.emm_state.specs.declared.solo.Context.{Context}
use Rattle.emm_state.specs.declared.solo.Solo.{Solo}
use Rattle.emm_state.specs.Actions.{is_at, leave_old, next_id, protect, refuse, release, seal, send, set_up, turn_away}
use Rattle.emm_machine.specs.Attaching.{attach_refused, challenged, not_authenticated}
use Rattle.emm_machine.specs.Connected.{connection_of, hop_after, indicate, next_chaining_count, not_switched, switched}
use Rattle.emm_machine.specs.Idle.{page}
use Rattle.emm_machine.specs.Steps.{solo_after, solo_step}
use Rattle.laws_subscriber.specs.Proof.{IsProved}
use Rattle.laws_network.specs.Ranges.{IsBrief, IsBriefIf, VectorInRange}
use Rattle.laws_network.specs.SubscriberRanges.{ContextInRange, EachInRange, ItemInRange, MessageInRange, SettingInRange, SoloInRange}

-- the message to the station, under its mark, is the next that is sent
abbrev pub SendsWhole : ℕ → Option Mark → Pdu (List ℕ) → Draft → Draft → Type 0
SendsWhole station under message before after =
    (octets : List ℕ) × (encoded message ≡ Some octets)
    × (after.sent ≡ before.sent ++ record { station = station; octets = octets; under = under } ∷ [])

-- ---- the actions, at any step under way whose state is in range

-- NAS to the phone, plain
abbrev pub SendIsWhole : Type 0
SendIsWhole =
    (d : Draft) (k : Connection) (nas : List ℕ) → SoloInRange d.solo → d.solo.connection ≡ Some k → IsBrief 1000 nas
    → SendsWhole k.station None (downlink k nas) d (send nas d)

-- and protected, under the count that is spent
abbrev pub ProtectIsWhole : Type 0
ProtectIsWhole =
    (d e : Draft) (k : Connection) (header : SecurityHeader) (nas : List ℕ) → SoloInRange d.solo → d.solo.connection ≡ Some k
    → IsBrief 1000 nas → protect header nas d ≡ Some e
    → (x : Sealed) × (f : Draft) × (seal header nas d ≡ Some (x, f)) × SendsWhole k.station x.under (downlink k x.form) d e

-- the release of a connection
abbrev pub ReleaseIsWhole : Type 0
ReleaseIsWhole =
    (d : Draft) (k : Connection) (cause : Cause) → SoloInRange d.solo → d.solo.connection ≡ Some k → is_extended cause ≡ false
    → SendsWhole k.station None (release_command k.id k.enb_ue_id cause) d (release cause d)

-- of an old connection elsewhere
abbrev pub LeaveIsWhole : Type 0
LeaveIsWhole =
    (d : Draft) (k : Connection) (station enb_ue_id : ℕ) → SoloInRange d.solo → d.solo.connection ≡ Some k
    → is_at k station enb_ue_id ≡ false
    → SendsWhole k.station None (release_command k.id k.enb_ue_id (Nas NormalRelease)) d (leave_old station enb_ue_id d)

-- of a phone that is turned away
abbrev pub TurnAwayIsWhole : Type 0
TurnAwayIsWhole =
    (s : Setting) (d : Draft) (station enb_ue_id : ℕ) → SettingInRange s → enb_ue_id < 2 ^ 24
    → SendsWhole station None (release_command (next_id s.slot d) enb_ue_id (Nas NormalRelease)) d
    (turn_away s.slot station enb_ue_id d)

-- the refusal of a phone, and the release after it
abbrev pub RefuseIsWhole : Type 0
RefuseIsWhole =
    (s : Setting) (d : Draft) (station enb_ue_id : ℕ) (nas : List ℕ) → SettingInRange s → enb_ue_id < 2 ^ 24 → IsBrief 1000 nas
    → (between : Draft)
    × SendsWhole station None (downlink (record { id = next_id s.slot d; station = station; enb_ue_id = enb_ue_id }) nas) d between
    × SendsWhole station None (release_command (next_id s.slot d) enb_ue_id (Nas NormalRelease)) between
    (refuse s.slot station enb_ue_id nas d)

-- INITIAL CONTEXT SETUP REQUEST
abbrev pub SetUpIsWhole : Type 0
SetUpIsWhole =
    (s : Setting) (d : Draft) (k : Connection) (kenb : List ℕ) (nas : Option (List ℕ)) (under : Option Mark) → SettingInRange s
    → SoloInRange d.solo → d.solo.connection ≡ Some k → AreBytes 32 kenb → IsBriefIf 1100 nas
    → SendsWhole k.station under (context_setup s.network s.profile d.solo.asked.capability k kenb nas) d
    (set_up s kenb nas under d)

-- PAGING to each of the stations
abbrev pub PageIsWhole : Type 0
PageIsWhole =
    (s : Setting) (d : Draft) (tmsi : ℕ) (stations : List ℕ) → SettingInRange s → SoloInRange d.solo → d.solo.tmsi ≡ Some tmsi
    → (octets : List ℕ) × (encoded (paging s.network s.profile.imsi tmsi d.solo.tai) ≡ Some octets)
    × ((page s stations d).sent ≡ d.sent ++ map (λ station. record { station = station; octets = octets; under = None }) stations)

-- ERROR INDICATION, and what answers a PATH SWITCH REQUEST
abbrev pub IndicateIsWhole : Type 0
IndicateIsWhole =
    (d : Draft) (m : UeMessage (List ℕ)) (cause : Cause) → MessageInRange m → is_extended cause ≡ false
    → SendsWhole m.station None (error_indication m.mme_ue_id m.enb_ue_id cause) d (indicate cause m d)

abbrev pub NotSwitchedIsWhole : Type 0
NotSwitchedIsWhole =
    (d : Draft) (m : UeMessage (List ℕ)) (cause : Cause) → MessageInRange m → is_extended cause ≡ false
    → SendsWhole m.station None (path_switch_failure m.mme_ue_id m.enb_ue_id cause) d (not_switched cause m d)

abbrev pub SwitchedIsWhole : Type 0
SwitchedIsWhole =
    (d : Draft) (m : UeMessage (List ℕ)) (x : Context) → MessageInRange m → ContextInRange x
    → SendsWhole m.station None
    (path_switch_acknowledge (connection_of m) (hop_after x) (next_chaining_count x.radio.chaining_count)) d (switched m x d)

-- ---- rows: what a refused attach, a challenge and a wrong response send

abbrev pub SendsBothWhole : ℕ → Pdu (List ℕ) → Pdu (List ℕ) → Draft → Draft → Type 0
SendsBothWhole station first second before after =
    (between : Draft) × SendsWhole station None first before between × SendsWhole station None second between after

abbrev pub AttachRefusedIsWhole : Type 0
AttachRefusedIsWhole =
    (d : Draft) (k : Connection) (cause : EmmCause) (esm : Option (List ℕ)) → SoloInRange d.solo → d.solo.connection ≡ Some k
    → IsBriefIf 200 esm
    → SendsBothWhole k.station (downlink k (attach_reject cause esm)) (release_command k.id k.enb_ue_id (Nas NormalRelease)) d
    (attach_refused cause esm d)

abbrev pub ChallengedIsWhole : Type 0
ChallengedIsWhole =
    (d : Draft) (k : Connection) (v : Vector) → SoloInRange d.solo → d.solo.connection ≡ Some k → VectorInRange v
    → SendsWhole k.station None (downlink k (authentication_request (d.solo.next_vector % 7) v.rand v.autn)) d (challenged v d)

abbrev pub NotAuthenticatedIsWhole : Type 0
NotAuthenticatedIsWhole =
    (d : Draft) (k : Connection) → SoloInRange d.solo → d.solo.connection ≡ Some k
    → SendsBothWhole k.station (downlink k authentication_reject) (release_command k.id k.enb_ue_id (Nas AuthenticationFailure)) d
    (not_authenticated d)

-- the release that a station asks for has a cause that is written
abbrev pub RequestsAreKnown : Type 0
RequestsAreKnown = (cause : Cause) → is_extended (cause_of_request cause) ≡ false

-- ---- over a run

-- a challenge is sent, by the vector at its place
abbrev pub ChallengeIsSent : ℕ → Vector → Draft → Type 0
ChallengeIsSent place v d =
    (k : Connection) × (earlier : List Answer) × (octets : List ℕ) × (d.solo.connection ≡ Some k)
    × (encoded (downlink k (authentication_request (place % 7) v.rand v.autn)) ≡ Some octets)
    × (d.sent ≡ earlier ++ record { station = k.station; octets = octets; under = None } ∷ [])

-- whoever has proved itself was sent its challenge
abbrev pub TheProvedWereChallenged : Type 0
TheProvedWereChallenged =
    (s : Setting) (solo : Solo) (items : List Item) (place : ℕ) → SettingInRange s → SoloInRange solo → EachInRange items
    → (proved : IsProved s solo items place)
    → ChallengeIsSent place proved.vector (solo_step s (solo_after s solo proved.before) proved.challenge)

-- each message that a step in range builds is sent: none is without a written form
abbrev pub EveryMessageIsSent : Type 0
EveryMessageIsSent =
    (s : Setting) (solo : Solo) (item : Item) → SettingInRange s → SoloInRange solo → ItemInRange item
    → (solo_step s solo item).unwritten ≡ false
