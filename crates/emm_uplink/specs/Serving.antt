-- The rows of a phone that is known: its INITIAL UE MESSAGEs, and its protected messages.
use Rattle.std.specs.Prelude.{ℕ, Bool, true, false, if◌then◌else◌, List, [], ◌∷◌, Option, Some, None, Result, Ok, Err}
use Rattle.std.specs.Option.{option_map_or}
use Rattle.s1ap_causes.specs.declared.cause.Cause.TheVariants.{Nas}
use Rattle.s1ap_causes.specs.declared.cause.NasCause.TheVariants.{Detach, NormalRelease, Unspecified}
use Rattle.s1ap_elements.specs.declared.phone.Tai.{Tai}
use Rattle.nas_messages.specs.declared.protection.SecurityHeader.{SecurityHeader}
use Rattle.nas_messages.specs.declared.protection.SecurityHeader.TheVariants.{IntegrityProtected, IntegrityProtectedCiphered}
use Rattle.eps_keys.specs.Hmac.{kenb}
use Rattle.nas_security.specs.declared.fault.SecurityFault.{SecurityFault}
use Rattle.nas_security.specs.Accepting.{Acceptance, accepted, short_accepted}
use Rattle.esm_machine.specs.declared.reaction.Reaction.{Reaction}
use Rattle.esm_machine.specs.declared.reaction.Reaction.TheVariants.{Nothing, Informed, Answer as Answered}
use Rattle.esm_machine.specs.Reactions.{reaction}
use Rattle.esm_machine.specs.Reading.{is_accept}
use Rattle.esm_machine.specs.Requests.{accepted_by}
use Rattle.identity_slots.specs.Ids.{id_of_slot, next_counter}
use Rattle.mme_types.specs.declared.event.Entry.{Entry}
use Rattle.mme_signalling.specs.declared.cause.EmmCause.{EmmCause}
use Rattle.mme_signalling.specs.declared.cause.EmmCause.TheVariants.{IdentityNotDerived, ImplicitlyDetached, NotCompatible}
use Rattle.mme_signalling.specs.declared.heard.Heard.{Heard}
use Rattle.mme_signalling.specs.declared.heard.Heard.TheVariants as heards
use Rattle.mme_signalling.specs.declared.messages.Grant.{Grant}
use Rattle.mme_signalling.specs.Causes.{cause_of_fault}
use Rattle.mme_signalling.specs.Hearing.{heard, initial_octets, is_esm}
use Rattle.mme_signalling.specs.Messages.{detach_accept, emm_status, service_reject, update_accept, update_reject}
use Rattle.emm_state.specs.declared.draft.Draft.{Draft}
use Rattle.emm_state.specs.declared.setting.Setting.{Setting}
use Rattle.emm_state.specs.declared.solo.Context.{Context}
use Rattle.emm_state.specs.declared.solo.Phase.{Phase}
use Rattle.emm_state.specs.declared.solo.Phase.TheVariants.{Deregistered, Authenticating, SecurityMode, EsmInformation, Accepting, Updating, Registered, Detaching}
use Rattle.emm_state.specs.declared.solo.NasTimer.TheVariants.{T3450}
use Rattle.emm_state.specs.Actions.{connect, connect_on, ended, fall, is_registered, mac_of, protect, protect_and_await, refuse, release, set_up, turn_away, wipe}
use Rattle.emm_state.specs.Does.{◌>>=◌}
use Rattle.emm_state.specs.Phases.{is}
use Rattle.emm_uplink.specs.Attaching.{accept, attach, counted_up, detach_plainly, given_tmsi, in_authenticating, in_security_mode, keyed, took}

-- ---- protected messages

-- the headers of a message under a context in use
abbrev pub in_use : List SecurityHeader
in_use = IntegrityProtected ∷ IntegrityProtectedCiphered ∷ []

-- what a context makes of a protected message
abbrev pub accepted_by_context : Context → List ℕ → Acceptance
accepted_by_context x nas = accepted (mac_of x) x.security.up_last in_use nas

-- ---- service request (TS 24.301 clause 5.6.1)

-- no countdown runs, and none waits for an answer
unfoldable pub active : Phase → Draft → Draft
active phase d =
    let e = ended d in
    record e { solo = record e.solo { phase = phase; reachable = None } }

-- a context that has counted the request serves it
unfoldable pub served : Setting → Context → Entry (List ℕ) → ℕ → Draft → Draft
served s x m count d =
    set_up s (kenb x.kasme count) None None (keyed x count (active Registered (connect s.slot m.station m.enb_ue_id d)))

unfoldable pub served_by : Result ℕ SecurityFault → Setting → Context → Entry (List ℕ) → Draft → Draft
served_by (Ok count) s x m d = served s (counted_up x count) m count d
served_by (Err fault) s x m d = refuse s.slot m.station m.enb_ue_id (service_reject IdentityNotDerived) d

-- SERVICE REQUEST: refused where the phone isn't registered or isn't proved
unfoldable pub service : Setting → Entry (List ℕ) → List ℕ → Draft → Draft
service s m octets d =
    if is_registered d.solo.phase then
    option_map_or (λ x. served_by (short_accepted (mac_of x) x.security.up_last x.security.ksi octets) s x m d) d.solo.context
    (refuse s.slot m.station m.enb_ue_id (service_reject IdentityNotDerived) d)
    else refuse s.slot m.station m.enb_ue_id (service_reject ImplicitlyDetached) d

-- ---- tracking area update (TS 24.301 clause 5.5.3)

-- what an update is granted
abbrev pub update_grant : Setting → Tai → Bool → Draft → Grant
update_grant s tai combined d = record { tmsi = id_of_slot s.slot (next_counter d.solo.tmsis); tai = tai; combined = combined }

unfoldable pub updating : Tai → Bool → Draft → Draft
updating tai initial d =
    let e = active Updating d in
    record e { solo = record e.solo { tai = tai; asked = record e.solo.asked { initial_update = initial } } }

-- TRACKING AREA UPDATE ACCEPT with a new M-TMSI
unfoldable pub update : Setting → Tai → Bool → Bool → Draft → Option Draft
update s tai combined initial d =
    let message = update_accept s.network (update_grant s tai combined d) in
    protect_and_await T3450 IntegrityProtectedCiphered message (updating tai initial (given_tmsi s d))

unfoldable pub updated_by : Acceptance → Setting → Context → Entry (List ℕ) → Bool → Draft → Option Draft
updated_by (Ok found) s x m combined d =
    update s m.tai combined true (took (counted_up x found.0) found.0 (connect s.slot m.station m.enb_ue_id d))
updated_by (Err fault) s x m combined d = Some (refuse s.slot m.station m.enb_ue_id (update_reject IdentityNotDerived) d)

-- TRACKING AREA UPDATE REQUEST in an INITIAL UE MESSAGE
unfoldable pub initial_update : Setting → Entry (List ℕ) → Bool → Draft → Option Draft
initial_update s m combined d =
    if is_registered d.solo.phase then
    option_map_or (λ x. updated_by (accepted_by_context x m.nas) s x m combined d) d.solo.context
    (Some (refuse s.slot m.station m.enb_ue_id (update_reject IdentityNotDerived) d))
    else Some (refuse s.slot m.station m.enb_ue_id (update_reject ImplicitlyDetached) d)

-- ---- detach (TS 24.301 clause 5.5.2)

-- DETACH ACCEPT protected, unless the phone is switched off
unfoldable pub detach_answered : Bool → Draft → Option Draft
detach_answered switch_off d = if switch_off then Some d else protect IntegrityProtectedCiphered detach_accept d

-- a phone that is proved leaves
unfoldable pub detach : Bool → Draft → Option Draft
detach switch_off d = detach_answered switch_off d >>= λ sent. Some (wipe (release (Nas Detach) sent))

unfoldable pub detached_by : Acceptance → Setting → Context → Entry (List ℕ) → Bool → Draft → Option Draft
detached_by (Ok found) s x m switch_off d =
    detach switch_off (took (counted_up x found.0) found.0 (connect s.slot m.station m.enb_ue_id d))
detached_by (Err fault) s x m switch_off d = Some (turn_away s.slot m.station m.enb_ue_id d)

-- DETACH REQUEST in an INITIAL UE MESSAGE
unfoldable pub initial_detach : Setting → Entry (List ℕ) → Bool → Draft → Option Draft
initial_detach s m switch_off d =
    if is Deregistered d.solo.phase then Some (detach_plainly switch_off (connect s.slot m.station m.enb_ue_id d))
    else option_map_or (λ x. detached_by (accepted_by_context x m.nas) s x m switch_off d) d.solo.context
    (Some (turn_away s.slot m.station m.enb_ue_id d))

-- ---- INITIAL UE MESSAGE

unfoldable pub entered : Heard (List ℕ) → Setting → Entry (List ℕ) → Draft → Option Draft
entered (heards.AttachRequest combined capability esm) s m d =
    Some (attach s combined capability esm m.tai (connect s.slot m.station m.enb_ue_id d))
entered (heards.ServiceRequest octets) s m d = Some (service s m octets d)
entered (heards.TrackingAreaUpdateRequest combined) s m d = initial_update s m combined d
entered (heards.DetachRequest switch_off) s m d = initial_detach s m switch_off d
entered _ s m d = Some d

unfoldable pub initial : Setting → Entry (List ℕ) → Draft → Option Draft
initial s m d = entered (heard (initial_octets m.nas)) s m d

-- a stranger's message that is now known to be this subscriber's: its ATTACH REQUEST on the stranger's association
unfoldable pub claimed : Heard (List ℕ) → Setting → ℕ → Entry (List ℕ) → Draft → Draft
claimed (heards.AttachRequest combined capability esm) s id m d =
    attach s combined capability esm m.tai (connect_on id m.station m.enb_ue_id d)
claimed _ s id m d = d

unfoldable pub claim : Setting → ℕ → Entry (List ℕ) → Draft → Draft
claim s id m d = claimed (heard (initial_octets m.nas)) s id m d

-- ---- protected messages on the connection

-- EMM STATUS protected, or nothing
unfoldable pub status_protected : Option EmmCause → Draft → Option Draft
status_protected cause d = option_map_or (λ c. protect IntegrityProtectedCiphered (emm_status c) d) cause (Some d)

unfoldable pub registered : Draft → Draft
registered d =
    let e = ended d in
    record e { solo = record e.solo { phase = Registered } }

-- ATTACH COMPLETE: its ESM message has to accept the bearer
unfoldable pub attach_completed : List ℕ → Draft → Draft
attach_completed esm d =
    if is_accept esm then
    registered (record d { solo = record d.solo { bearer = accepted_by d.solo.bearer esm } })
    else fall (Nas Unspecified) d

-- TRACKING AREA UPDATE COMPLETE
unfoldable pub update_completed : Draft → Draft
update_completed d = if d.solo.asked.initial_update then fall (Nas NormalRelease) (registered d) else registered d

unfoldable pub inner_emm : Heard (List ℕ) → Setting → Tai → Draft → Option Draft
inner_emm (heards.AttachComplete esm) s tai d =
    if is Accepting d.solo.phase then Some (attach_completed esm d) else status_protected (Some NotCompatible) d
inner_emm heards.TrackingAreaUpdateComplete s tai d =
    if is Updating d.solo.phase then Some (update_completed d) else status_protected (Some NotCompatible) d
inner_emm (heards.TrackingAreaUpdateRequest combined) s tai d =
    if is Registered d.solo.phase then update s tai combined false d else status_protected (Some NotCompatible) d
inner_emm (heards.DetachRequest switch_off) s tai d = detach switch_off d
inner_emm heards.DetachAccept s tai d =
    if is Detaching d.solo.phase then Some (wipe (release (Nas Detach) d)) else status_protected (Some NotCompatible) d
inner_emm heards.Unasked s tai d = Some d
inner_emm (heards.Unreadable fault) s tai d = status_protected (cause_of_fault fault) d
inner_emm _ s tai d = status_protected (Some NotCompatible) d

-- ESM information has come (TS 24.301 clause 6.6.1.2.3): KeNB is that of the SECURITY MODE COMPLETE
unfoldable pub information_came : Setting → Draft → Option Draft
information_came s d = option_map_or (λ x. accept s x.radio.kenb d) d.solo.context (Some d)

unfoldable pub reacted : Reaction (List ℕ) → Setting → Draft → Option Draft
reacted Nothing s d = Some d
reacted Informed s d = information_came s d
reacted (Answered octets) s d = protect IntegrityProtectedCiphered octets d

unfoldable pub inner_esm : List ℕ → Setting → Draft → Option Draft
inner_esm octets s d = reacted (reaction d.solo.bearer (is EsmInformation d.solo.phase) octets) s d

-- a message after its protection
unfoldable pub inner_message : List ℕ → Setting → Tai → Draft → Option Draft
inner_message octets s tai d = if is_esm octets then inner_esm octets s d else inner_emm (heard octets) s tai d

unfoldable pub inner_message_by : Acceptance → Setting → Context → Tai → Draft → Option Draft
inner_message_by (Ok found) s x tai d = inner_message found.1 s tai (took (counted_up x found.0) found.0 d)
inner_message_by (Err fault) s x tai d = Some d

-- what isn't protected under the context is dropped
unfoldable pub in_later : Setting → Tai → List ℕ → Draft → Option Draft
in_later s tai nas d = option_map_or (λ x. inner_message_by (accepted_by_context x nas) s x tai d) d.solo.context (Some d)

-- NAS from the phone, by phase
unfoldable pub uplink : Phase → Setting → Tai → List ℕ → Draft → Option Draft
uplink Deregistered s tai nas d = Some d
uplink Authenticating s tai nas d = in_authenticating s nas d
uplink SecurityMode s tai nas d = in_security_mode s nas d
uplink EsmInformation s tai nas d = in_later s tai nas d
uplink Accepting s tai nas d = in_later s tai nas d
uplink Updating s tai nas d = in_later s tai nas d
uplink Registered s tai nas d = in_later s tai nas d
uplink Detaching s tai nas d = in_later s tai nas d
