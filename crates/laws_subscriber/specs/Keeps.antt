-- What the actions of a step keep, from stage to stage: a predicate of steps under way at each stage, and that each action leads from
-- its stage to the next. The premises say what is known there. What holds before an action needn't hold after it: a phone that is
-- connected anew is sound again only once it is challenged.
use Rattle.std.specs.Prelude.{◌≡◌, ◌⊎◌, ℕ, ◌-◌, Bool, true, false, List, [], ◌∷◌, slice_get, Option, Some, None, IsSome, is_some, Ok}
use Rattle.s1ap_causes.specs.declared.cause.Cause.{Cause}
use Rattle.s1ap_elements.specs.declared.phone.Tai.{Tai}
use Rattle.s1ap_pdus.specs.declared.pdu.Pdu.{Pdu}
use Rattle.nas_elements.specs.Capability.{has_eia2}
use Rattle.nas_messages.specs.declared.protection.SecurityHeader.{SecurityHeader}
use Rattle.nas_messages.specs.declared.protection.SecurityHeader.TheVariants.{IntegrityProtectedCiphered, NewContext, NewContextCiphered}
use Rattle.eps_keys.specs.Same.{same_octets}
use Rattle.nas_security.specs.Accepting.{accepted, short_accepted}
use Rattle.identity_slots.specs.declared.profile.Vector.{Vector}
use Rattle.identity_slots.specs.Ids.{is_of_slot}
use Rattle.esm_machine.specs.declared.reaction.Reaction.TheVariants as reactions
use Rattle.esm_machine.specs.declared.request.Requested.TheVariants.{Refused}
use Rattle.esm_machine.specs.Reactions.{reaction}
use Rattle.esm_machine.specs.Requests.{accepted_by, activated, requested}
use Rattle.esm_machine.specs.Sent.{activation, information_request}
use Rattle.esm_machine.specs.Sessions.{Session}
use Rattle.mme_types.specs.declared.connection.Connection.{Connection}
use Rattle.mme_types.specs.declared.event.Entry.{Entry}
use Rattle.mme_types.specs.declared.event.UeBody.{UeBody}
use Rattle.mme_types.specs.declared.event.UeBody.TheVariants as bodies
use Rattle.mme_types.specs.declared.event.UeMessage.{UeMessage}
use Rattle.mme_types.specs.declared.stations.StationState.{StationState}
use Rattle.mme_types.specs.Events.{Item, Initial, Claim, Message, StationGone, Tick, Data, Cancel}
use Rattle.mme_signalling.specs.declared.cause.EmmCause.{EmmCause}
use Rattle.mme_signalling.specs.declared.cause.EmmCause.TheVariants.{SynchFailure}
use Rattle.mme_signalling.specs.declared.heard.Heard.{Heard}
use Rattle.mme_signalling.specs.declared.heard.Heard.TheVariants as heards
use Rattle.mme_signalling.specs.declared.messages.Grant.{Grant}
use Rattle.mme_signalling.specs.Causes.{emm_cause_code}
use Rattle.mme_signalling.specs.Hearing.{heard, initial_octets}
use Rattle.mme_signalling.specs.Messages.{attach_accept, attach_reject, authentication_reject, detach_accept, emm_status, network_detach, security_mode_command, service_reject, update_accept, update_reject}
use Rattle.mme_signalling.specs.Pdus.{error_indication, is_extended, path_switch_failure}
use Rattle.emm_state.specs.declared.draft.Draft.{Draft}
use Rattle.emm_state.specs.declared.setting.Setting.{Setting}
use Rattle.emm_state.specs.declared.solo.Context.{Context}
use Rattle.emm_state.specs.declared.solo.Countdown.{Countdown}
use Rattle.emm_state.specs.declared.solo.NasTimer.TheVariants.{T3422, T3450, T3460, T3489}
use Rattle.emm_state.specs.declared.solo.Phase.{Phase}
use Rattle.emm_state.specs.declared.solo.Phase.TheVariants.{Deregistered, Authenticating, SecurityMode, EsmInformation, Accepting, Updating, Registered, Detaching}
use Rattle.emm_state.specs.declared.solo.Protection.TheVariants.{Plain, Under}
use Rattle.emm_state.specs.declared.solo.Repeat.TheVariants as repeats
use Rattle.emm_state.specs.declared.solo.Solo.{Solo}
use Rattle.emm_state.specs.Actions.{connect, connect_on, emit, ended, fall, is_registered, lost, mac_of, protect, protect_and_await, refuse, release, send, set_up, set_up_with, start, turn_away, untouched, wipe}
use Rattle.emm_state.specs.Does.{◌>>=◌}
use Rattle.emm_state.specs.KeySets.{ksi_of}
use Rattle.emm_state.specs.Phases.{is}
use Rattle.emm_machine.specs.Attaching.{activating, asking, challenged, counted_up, given_tmsi, is_plain, keyed, new_context, requesting, took}
use Rattle.emm_machine.specs.Connected.{has_connection_id, strike, switched}
use Rattle.emm_machine.specs.Idle.{listening, lowered, may_page, page, paged, restarted}
use Rattle.emm_machine.specs.Serving.{active, in_use, registered, updating}
use Rattle.emm_machine.specs.Steps.{spent}
use Rattle.laws_subscriber.specs.Choices.{Whenever}
use Rattle.laws_subscriber.specs.Comes.{ends}
use Rattle.laws_subscriber.specs.Proof.{uplink_nas}
use Rattle.laws_subscriber.specs.Unproved.{begins_attach}

-- ---- what an item says

-- the tracking area that its station names
abbrev pub tai_of_body : UeBody (List ℕ) → Option Tai
tai_of_body (bodies.Uplink nas tai) = Some tai
tai_of_body _ = None

abbrev pub tai_of : Item → Option Tai
tai_of (Initial m) = Some m.tai
tai_of (Claim id m) = Some m.tai
tai_of (Message m) = tai_of_body m.body
tai_of _ = None

-- the request by which a phone begins
abbrev pub request_in : Item → Heard (List ℕ)
request_in (Initial m) = heard (initial_octets m.nas)
request_in (Claim id m) = heard (initial_octets m.nas)
request_in _ = heards.Other

-- ---- stages

-- how far a step is
pub data Stage : Type 0 where
  -- as it was found
  Begun : Stage
  -- a request has a connection of its own; then what was registered is gone, then what is asked for is kept
  Linked : Stage
  Cleared : Stage
  Asked : Stage
  -- a count was accepted: of a message on the connection, of a request that is linked
  Told : Stage
  Known : Stage
  -- a service request is linked, and the phone registered
  Serving : Stage
  -- the context gave radio keys, of which no station was told
  Keyed : Stage
  -- in the phase, whose timer isn't started
  Moving : Phase → Stage
  -- the countdowns are lower by a tick; then the procedure's is done with
  Counted : Stage
  Ticked : Stage
  Ended : Stage

-- where a step can end as it stands, and its connection can
abbrev pub may_close : Stage → Bool
may_close Begun = true
may_close Told = true
may_close _ = false

-- where a message is sent and the stage stays
abbrev pub may_say : Stage → Bool
may_say Begun = true
may_say Linked = true
may_say Cleared = true
may_say Asked = true
may_say Told = true
may_say Known = true
may_say Counted = true
may_say _ = false

abbrev pub may_protect : Stage → Bool
may_protect Told = true
may_protect Known = true
may_protect Counted = true
may_protect _ = false

abbrev pub may_update : Stage → Bool
may_update Told = true
may_update Known = true
may_update _ = false

-- ---- phases

-- a phone that no context can protect
abbrev pub is_open : Phase → Bool
is_open Deregistered = true
is_open Authenticating = true
is_open _ = false

-- one past the security mode
abbrev pub is_later : Phase → Bool
is_later Deregistered = false
is_later Authenticating = false
is_later SecurityMode = false
is_later _ = true

-- ---- what is known at an action

-- the item leaves the connection
abbrev pub IsLeft : Item → Solo → Type 0
IsLeft item x = (k : Connection) → x.connection ≡ Some k → ends item k ≡ false

-- NAS on the phone's connection
pub record IsCarried (solo : Solo) (item : Item) (nas : List ℕ) : Type 0 where
  pub carried : uplink_nas item ≡ Some nas
  pub linked : IsSome solo.connection

-- ATTACH REQUEST, and where it comes from
pub record Requests (item : Item) (combined : Bool) (capability esm : List ℕ) (tai : Tai) : Type 0 where
  pub request : request_in item ≡ heards.AttachRequest combined capability esm
  pub from : tai_of item ≡ Some tai

-- AUTHENTICATION RESPONSE with what the last vector expects
pub record IsExpected (s : Setting) (solo : Solo) (item : Item) (v : Vector) : Type 0 where
  pub nas : List ℕ
  pub res : List ℕ
  pub on : IsCarried solo item nas
  pub phase : solo.phase ≡ Authenticating
  pub told : heard nas ≡ heards.AuthenticationResponse res
  pub there : slice_get s.vectors (solo.next_vector - 1) ≡ Some v
  pub same : same_octets res v.xres ≡ true

-- the next vector is taken: for an ATTACH REQUEST, or for a synch failure while a challenge is out
pub data TakesVector (solo : Solo) (item : Item) (at : Stage) (x : Solo) : Type 0 where
  ForAttach : at ≡ Asked → x.next_vector ≡ solo.next_vector → (combined : Bool) (esm : List ℕ)
      → request_in item ≡ heards.AttachRequest combined x.asked.capability esm → has_eia2 x.asked.capability ≡ true
      → TakesVector solo item at x
  ForSynch : (nas : List ℕ) → at ≡ Begun → x ≡ solo → solo.phase ≡ Authenticating → IsCarried solo item nas → is_plain nas ≡ true
      → heard nas ≡ heards.AuthenticationFailure (emm_cause_code SynchFailure) → TakesVector solo item at x

-- a message on the connection that the context accepts under these headers, and what is in it
pub record Accepts (solo : Solo) (item : Item) (headers : List SecurityHeader) (x : Context) (count : ℕ) (inner : List ℕ) : Type 0 where
  pub nas : List ℕ
  pub on : IsCarried solo item nas
  pub closed : is_open solo.phase ≡ false
  pub has : solo.context ≡ Some x
  pub accepts : accepted (mac_of x) x.security.up_last headers nas ≡ Ok (count, inner)

-- a path switch
pub record IsSwitch (solo : Solo) (item : Item) (m : UeMessage (List ℕ)) (x : Context) : Type 0 where
  pub is : item ≡ Message m
  pub body : m.body ≡ bodies.PathSwitch
  pub has : has_connection_id m (untouched solo) ≡ true
  pub own : is_of_slot m.mme_ue_id ≡ true
  pub registered : is_registered solo.phase ≡ true
  pub context : solo.context ≡ Some x

-- ERROR INDICATION, or PATH SWITCH REQUEST FAILURE (TS 36.413 clauses 8.7.2, 8.4.4.3)
abbrev pub Indicates : UeMessage (List ℕ) → Pdu (List ℕ) → Type 0
Indicates m message =
    (cause : Cause) × (is_extended cause ≡ false)
    × ((message ≡ error_indication m.mme_ue_id m.enb_ue_id cause) ⊎ (message ≡ path_switch_failure m.mme_ue_id m.enb_ue_id cause))

-- a phone that is being served: it isn't deregistered, and at this step no M-TMSI was given yet
pub record IsServed (before now : Solo) : Type 0 where
  pub there : is Deregistered now.phase ≡ false
  pub tmsis : now.tmsis ≡ before.tmsis

-- an attach is accepted: with the security mode, or once ESM information has come
pub data MayAccept (solo : Solo) (item : Item) (at : Stage) (d : Draft) : Type 0 where
  WithKeys : at ≡ Keyed → MayAccept solo item at d
  WithInformation : (x : Context) (count : ℕ) (octets : List ℕ) → at ≡ Told → Accepts solo item in_use x count octets
      → is_later solo.phase ≡ true → d ≡ took (counted_up x count) count (untouched solo)
      → reaction solo.bearer (is EsmInformation solo.phase) octets ≡ reactions.Informed → MayAccept solo item at d

-- a tracking area is updated
pub record MayUpdate (solo : Solo) (item : Item) (at : Stage) (x : Solo) (tai : Tai) : Type 0 where
  pub stage : may_update at ≡ true
  pub from : tai_of item ≡ Some tai
  pub was : is_registered solo.phase ≡ true
  pub registered : is_registered x.phase ≡ true
  pub linked : IsSome x.connection
  pub tmsis : x.tmsis ≡ solo.tmsis

-- ---- which message it is that is sent

-- a plain message answers an ATTACH REQUEST or a phone that no context can protect, or it is sent again at a tick
abbrev pub MaySend : Solo → Item → List ℕ → Type 0
MaySend solo item nas =
    (begins_attach item ≡ true)
    ⊎ ((is_open solo.phase ≡ true) ⊎ ((item ≡ Tick) × (solo.repeat ≡ Some (repeats.Nas Plain nas))))

pub data TellsPlainly (solo : Solo) (item : Item) (nas : List ℕ) : Type 0 where
  RefusesAttach : (cause : EmmCause) → nas ≡ attach_reject cause None → TellsPlainly solo item nas
  RefusesEsm : (cause : EmmCause) (session : Session) (combined : Bool) (capability esm answer : List ℕ)
      → request_in item ≡ heards.AttachRequest combined capability esm
      → requested session esm ≡ Refused answer → nas ≡ attach_reject cause (Some answer) → TellsPlainly solo item nas
  RefusesProof : nas ≡ authentication_reject → TellsPlainly solo item nas
  AcceptsDetach : nas ≡ detach_accept → TellsPlainly solo item nas
  TellsStatus : (cause : EmmCause) → nas ≡ emm_status cause → TellsPlainly solo item nas
  TellsAgain : item ≡ Tick → solo.repeat ≡ Some (repeats.Nas Plain nas) → TellsPlainly solo item nas

pub data TellsUnder (solo : Solo) (item : Item) (header : SecurityHeader) (nas : List ℕ) : Type 0 where
  AcceptsDetachUnder : header ≡ IntegrityProtectedCiphered → nas ≡ detach_accept → TellsUnder solo item header nas
  TellsStatusUnder : header ≡ IntegrityProtectedCiphered → (cause : EmmCause) → nas ≡ emm_status cause → TellsUnder solo item header nas
  Answers : header ≡ IntegrityProtectedCiphered → (x : Context) (count : ℕ) (octets : List ℕ) → Accepts solo item in_use x count octets
      → reaction solo.bearer (is EsmInformation solo.phase) octets ≡ reactions.Answer nas → TellsUnder solo item header nas
  TellsAgainUnder : item ≡ Tick → solo.repeat ≡ Some (repeats.Nas (Under header) nas) → TellsUnder solo item header nas

-- SERVICE REJECT or TRACKING AREA UPDATE REJECT
abbrev pub RefusesRequest : List ℕ → Type 0
RefusesRequest nas = (cause : EmmCause) × ((nas ≡ service_reject cause) ⊎ (nas ≡ update_reject cause))

-- ---- what each action keeps

pub record Keeps (s : Setting) (solo : Solo) (item : Item) (P : Stage → Draft → Type 0) : Type 0 where
  -- messages to the phone: the stage stays
  pub sends : (at : Stage) (nas : List ℕ) (d : Draft) → may_say at ≡ true → MaySend solo item nas → TellsPlainly solo item nas → P at d
      → P at (send nas d)
  pub protects : (at : Stage) (header : SecurityHeader) (nas : List ℕ) (d : Draft) → may_protect at ≡ true
      → TellsUnder solo item header nas → P at d → Whenever (P at) (protect header nas d)
  -- and once they are sent again, it ends
  pub commands : (v : Vector) → IsExpected s solo item v
      → P (Moving SecurityMode) (new_context (solo.next_vector - 1) v (untouched solo))
      → Whenever (P Ended)
      (protect_and_await T3460 NewContext (security_mode_command (ksi_of (solo.next_vector - 1)) solo.asked.capability)
      (new_context (solo.next_vector - 1) v (untouched solo)))
  pub asks_information : (d : Draft) → P (Moving EsmInformation) d
      → Whenever (P Ended) (protect_and_await T3489 IntegrityProtectedCiphered (information_request d.solo.bearer) d)
  pub accepts_update : (grant : Grant) (d : Draft) → grant.tai ≡ d.solo.tai → P (Moving Updating) d
      → Whenever (P Ended) (protect_and_await T3450 IntegrityProtectedCiphered (update_accept s.network grant) d)
  pub tells_detach : (d : Draft) → P (Moving Detaching) d
      → Whenever (P Ended) (protect_and_await T3422 IntegrityProtectedCiphered network_detach d)
  -- the station is handed KeNB
  pub sets_up : (x : Context) (d : Draft) → d.solo.context ≡ Some x → d.solo.phase ≡ Registered → P Keyed d
      → P Ended (set_up s x.radio.kenb None None d)
  pub accepts_attach : (x : Context) (grant : Grant) (session : Session) (d : Draft) → d.solo.context ≡ Some x → grant.tai ≡ d.solo.tai
      → d.solo.bearer ≡ activated session → P (Moving Accepting) d
      → Whenever (P Ended)
      (set_up_with s x.radio.kenb (attach_accept s.network grant (activation session s.network.apn s.profile.address)) d
      >>= λ e. Some (start T3450 (repeats.Nas (Under IntegrityProtectedCiphered) (attach_accept s.network grant (activation session s.network.apn s.profile.address))) e))
  -- where it ends
  pub closes : (at : Stage) (d : Draft) → may_close at ≡ true → IsLeft item d.solo → P at d → P Ended d
  pub forgets : (at : Stage) (cause : Cause) (d : Draft) → may_say at ≡ true → is_extended cause ≡ false → P at d
      → P Ended (wipe (release cause d))
  pub falls : (at : Stage) (cause : Cause) (d : Draft) → may_close at ≡ true → is_extended cause ≡ false → P at d
      → P Ended (fall cause d)
  pub loses : (d : Draft) → P Begun d → P Ended (lost d)
  pub drops : item ≡ Cancel → is_some solo.connection ≡ false → P Begun (untouched solo) → P Ended (wipe (untouched solo))
  pub spends : P Begun (untouched solo) → P Ended (spent solo)
  -- to where a request or a message comes from
  pub refuses : (m : Entry (List ℕ)) (nas : List ℕ) → item ≡ Initial m → RefusesRequest nas → P Begun (untouched solo)
      → P Ended (refuse s.slot m.station m.enb_ue_id nas (untouched solo))
  pub turns_away : (m : Entry (List ℕ)) → item ≡ Initial m → P Begun (untouched solo)
      → P Ended (turn_away s.slot m.station m.enb_ue_id (untouched solo))
  pub emits : (m : UeMessage (List ℕ)) (message : Pdu (List ℕ)) → item ≡ Message m → Indicates m message → P Begun (untouched solo)
      → P Ended (emit m.station message None (untouched solo))
  pub switches : (m : UeMessage (List ℕ)) (x : Context) → IsSwitch solo item m x → P Begun (untouched solo)
      → P Ended (switched m x (untouched solo))
  -- a request
  pub connects : (m : Entry (List ℕ)) → item ≡ Initial m → P Begun (untouched solo)
      → P Linked (connect s.slot m.station m.enb_ue_id (untouched solo))
  pub connects_on : (id : ℕ) (m : Entry (List ℕ)) → item ≡ Claim id m → P Begun (untouched solo)
      → P Linked (connect_on id m.station m.enb_ue_id (untouched solo))
  pub clears : (combined : Bool) (capability esm : List ℕ) (tai : Tai) (d : Draft) → Requests item combined capability esm tai
      → P Linked d → P Cleared (requesting esm (wipe d))
  pub asks : (combined : Bool) (capability esm : List ℕ) (tai : Tai) (d : Draft) → Requests item combined capability esm tai
      → has_eia2 capability ≡ true → P Cleared (requesting esm (wipe d))
      → P Asked (asking combined capability tai (requesting esm (wipe d)))
  -- challenge and context
  pub challenges : (at : Stage) (v : Vector) (d : Draft) → slice_get s.vectors d.solo.next_vector ≡ Some v
      → TakesVector solo item at d.solo → P at d → P Ended (challenged v d)
  pub makes_context : (v : Vector) → IsExpected s solo item v → P Begun (untouched solo)
      → P (Moving SecurityMode) (new_context (solo.next_vector - 1) v (untouched solo))
  pub takes : (headers : List SecurityHeader) (x : Context) (count : ℕ) (inner : List ℕ) → Accepts solo item headers x count inner
      → P Begun (untouched solo) → P Told (took (counted_up x count) count (untouched solo))
  pub keys : (x : Context) (count : ℕ) (inner : List ℕ) → solo.phase ≡ SecurityMode
      → Accepts solo item (NewContextCiphered ∷ []) x count inner → heard inner ≡ heards.SecurityModeComplete
      → P Begun (untouched solo) → P Keyed (keyed (counted_up x count) count (untouched solo))
  pub takes_on : (m : Entry (List ℕ)) (x : Context) (count : ℕ) (inner : List ℕ) (d : Draft) → item ≡ Initial m
      → d.solo.context ≡ Some x → accepted (mac_of x) x.security.up_last in_use m.nas ≡ Ok (count, inner) → solo.context ≡ Some x
      → P Linked d → P Known (took (counted_up x count) count d)
  pub serves : (d : Draft) → is_registered solo.phase ≡ true → d.solo.phase ≡ solo.phase → P Linked d → P Serving (active Registered d)
  pub keys_on : (x : Context) (count : ℕ) (octets : List ℕ) (d : Draft) → d.solo.context ≡ Some x → d.solo.phase ≡ Registered
      → solo.context ≡ Some x → short_accepted (mac_of x) x.security.up_last x.security.ksi octets ≡ Ok count → P Serving d
      → P Keyed (keyed (counted_up x count) count d)
  -- the registration
  pub activates : (at : Stage) (d : Draft) → MayAccept solo item at d → IsServed solo d.solo → P at d
      → P (Moving Accepting) (activating (given_tmsi s d))
  pub waits : (d : Draft) → P Keyed d → P (Moving EsmInformation) (record d { solo = record d.solo { phase = EsmInformation } })
  pub updates : (at : Stage) (tai : Tai) (initial : Bool) (d : Draft) → MayUpdate solo item at d.solo tai → P at d
      → P (Moving Updating) (updating tai initial (given_tmsi s d))
  pub attaches : (esm : List ℕ) (d : Draft) → is Accepting d.solo.phase ≡ true → P Told d
      → P Told (registered (record d { solo = record d.solo { bearer = accepted_by d.solo.bearer esm } }))
  pub updated : (d : Draft) → is Updating d.solo.phase ≡ true → P Told d → P Told (registered d)
  pub detaches : item ≡ Cancel → is_registered solo.phase ≡ true → IsSome solo.connection ⊎ (solo.phase ≡ Updating) → P Begun (untouched solo)
      → P (Moving Detaching) (record (untouched solo) { solo = record solo { phase = Detaching } })
  -- paging
  pub pages : (stations : List StationState) → item ≡ Data stations → may_page (untouched solo) ≡ true → P Begun (untouched solo)
      → P Ended (paged s (listening solo.tai 0 stations) (untouched solo))
  pub strikes : (station : ℕ) → item ≡ StationGone station → P Begun (untouched solo) → P Begun (strike station (untouched solo))
  -- a tick: a procedure's countdown begins again and its message is sent again, or it goes on, or it is given up; then the phone may
  -- be forgotten
  pub lowers : item ≡ Tick → P Begun (untouched solo) → P Counted (lowered (untouched solo))
  pub restarts : (c : Countdown) → item ≡ Tick → P Counted (lowered (untouched solo)) → P Counted (restarted c (lowered (untouched solo)))
  pub pages_again : (c : Countdown) (es : List ℕ) → item ≡ Tick → solo.repeat ≡ Some (repeats.Paging es)
      → P Counted (restarted c (lowered (untouched solo))) → P Counted (page s es (restarted c (lowered (untouched solo))))
  pub goes_on : (d : Draft) → item ≡ Tick → P Counted d → P Ticked d
  pub gives_up : item ≡ Tick → P Counted (lowered (untouched solo)) → P Ticked (ended (lowered (untouched solo)))
  pub fails : (cause : Cause) → item ≡ Tick → is_extended cause ≡ false → P Counted (lowered (untouched solo))
      → P Ticked (fall cause (lowered (untouched solo)))
  pub passes : (d : Draft) → item ≡ Tick → P Ticked d → P Ended d
  pub times_out : (n : ℕ) (d : Draft) → item ≡ Tick → d.solo.reachable ≡ Some n → P Ticked d → P Ended (wipe d)
