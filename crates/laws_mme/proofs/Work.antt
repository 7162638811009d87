-- How many messages each action, each row and each step sends at most.
use Rattle.std.proofs.Common.{◌≡◌, ◌≤◌, ℕ, suc, ◌+◌, ◌-◌, Bool, true, false, cond, List, [], ◌∷◌, ◌++◌, length, max, Option, Some, None, Result, Ok, Err, slice_get, unwrap_or, refl, ap, subst, arith}
use Rattle.std.specs.Prelude.{◌==◌, not}
use Rattle.std.specs.Option.{option_map_or}
use Rattle.std.proofs.lemmas.List.{length-append}
use Rattle.std.proofs.lemmas.Option.{same_Some}
use Rattle.esm_machine.specs.declared.reaction.Reaction.{Reaction}
use Rattle.esm_machine.specs.declared.reaction.Reaction.TheVariants as reactions
use Rattle.esm_machine.specs.declared.request.Requested.{Requested}
use Rattle.esm_machine.specs.declared.request.Requested.TheVariants.{Unreadable, Refused, Taken}
use Rattle.esm_machine.specs.Requests.{accepted_by}
use Rattle.identity_slots.specs.Ids.{is_of_slot}
use Rattle.nas_messages.specs.declared.protection.SecurityHeader.{SecurityHeader}
use Rattle.nas_security.specs.declared.fault.SecurityFault.{SecurityFault}
use Rattle.nas_security.specs.Accepting.{Acceptance}
use Rattle.s1ap_causes.specs.declared.cause.Cause.{Cause}
use Rattle.s1ap_causes.specs.declared.cause.Cause.TheVariants as causes
use Rattle.s1ap_causes.specs.declared.cause.RadioNetworkCause.TheVariants as radio
use Rattle.s1ap_causes.specs.declared.cause.ProtocolCause.TheVariants as protocol
use Rattle.s1ap_elements.specs.declared.phone.Tai.{Tai}
use Rattle.s1ap_pdus.specs.declared.pdu.Pdu.{Pdu}
use Rattle.s1ap_pdus.specs.Pdus.{encoded}
use Rattle.mme_types.specs.declared.event.Entry.{Entry}
use Rattle.mme_types.specs.declared.event.UeBody.{UeBody}
use Rattle.mme_types.specs.declared.event.UeBody.TheVariants as bodies
use Rattle.mme_types.specs.declared.event.UeMessage.{UeMessage}
use Rattle.mme_types.specs.declared.octets.Mark.{Mark}
use Rattle.mme_types.specs.declared.stations.StationState.{StationState}
use Rattle.mme_types.specs.Answers.{answer_of}
use Rattle.mme_types.specs.Events.{Nothing, Initial, Claim, Message, Displaced, StationGone, ConnectionsGone, Tick, Data, Cancel}
use Rattle.mme_types.specs.Listed.{ToReset}
use Rattle.mme_signalling.specs.declared.cause.EmmCause.{EmmCause}
use Rattle.mme_signalling.specs.declared.heard.Heard.{Heard}
use Rattle.mme_signalling.specs.declared.heard.Heard.TheVariants as heards
use Rattle.mme_signalling.specs.Hearing.{heard, initial_octets}
use Rattle.mme_signalling.specs.Pdus.{path_switch_failure}
use Rattle.emm_state.specs.declared.draft.Draft.{Draft}
use Rattle.emm_state.specs.declared.draft.Sealed.{Sealed}
use Rattle.emm_state.specs.declared.setting.Setting.{Setting}
use Rattle.emm_state.specs.declared.solo.Context.{Context}
use Rattle.emm_state.specs.declared.solo.Countdown.{Countdown}
use Rattle.emm_state.specs.declared.solo.NasTimer.{NasTimer}
use Rattle.emm_state.specs.declared.solo.NasTimer.TheVariants.{T3413, T3422, T3450, T3460, T3489}
use Rattle.emm_state.specs.declared.solo.Phase.{Phase}
use Rattle.emm_state.specs.declared.solo.Phase.TheVariants.{Deregistered, Authenticating, SecurityMode, EsmInformation, Accepting, Updating, Registered, Detaching}
use Rattle.emm_state.specs.declared.solo.Protection.TheVariants.{Plain, Under}
use Rattle.emm_state.specs.declared.solo.Repeat.{Repeat}
use Rattle.emm_state.specs.declared.solo.Repeat.TheVariants as repeats
use Rattle.emm_state.specs.declared.solo.Solo.{Solo}
use Rattle.emm_state.specs.Actions.{association_counted, connect, connect_on, disconnected, emit, ended, fall, fallen, is_at, is_registered, leave_old, lost, protect, protect_and_await, refuse, release, resting, seal, sealed_under, send, set_up, set_up_with, start, turn_away, untouched, wipe}
use Rattle.emm_state.specs.Does.{◌>>=◌}
use Rattle.emm_machine.specs.Attaching as attaching
use Rattle.emm_machine.specs.Connected as connected
use Rattle.emm_machine.specs.Messages as messages
use Rattle.emm_machine.specs.Idle as idle
use Rattle.emm_machine.specs.Serving as serving
use Rattle.emm_machine.specs.Steps as steps
use Rattle.laws_subscriber.specs.Choices.{Whenever, at_some, either, some, then}
use Rattle.laws_mme.specs.Work.{SendsAtMost, paged_again}

-- no more than n messages are sent so far
record AtMost (n : ℕ) (d : Draft) : Type 0 where
  at : length d.sent ≤ n

record SealedAtMost (n : ℕ) (o : Option (Sealed × Draft)) : Type 0 where
  at : (y : Sealed × Draft) → o ≡ Some y → AtMost n y.1

more : {n : ℕ} {d : Draft} (m : ℕ) → n ≤ m → AtMost n d → AtMost m d
more {n} {d} m le h = let few = h.at in record { at = omega (arith, le, few) }

one_more : {n : ℕ} {d : Draft} → AtMost n d → AtMost (suc n) d
one_more {n} {d} h = let few = h.at in record { at = omega (arith, few) }

whenever_more : {n : ℕ} {o : Option Draft} → Whenever (AtMost n) o → Whenever (AtMost (suc n)) o
whenever_more h = record { at = λ d is. one_more (h.at d is) }

-- ---- actions

added : (station : ℕ) (under : Option Mark) (o : Option (List ℕ)) (d : Draft) (n : ℕ) → AtMost n d
    → length (d.sent ++ answer_of station under o) ≤ suc n
added station under None d n h = let few = h.at in omega (arith, few, length-append d.sent (answer_of station under None))
added station under (Some octets) d n h =
    let few = h.at in
    omega (arith, few, length-append d.sent (answer_of station under (Some octets)))

emits : {n : ℕ} {d : Draft} (station : ℕ) (message : Pdu (List ℕ)) (under : Option Mark) → AtMost n d
    → AtMost (suc n) (emit station message under d)
unfolding emit
emits {n} {d} station message under h = record { at = added station under (encoded message) d n h }

sends : {n : ℕ} {d : Draft} (nas : List ℕ) → AtMost n d → AtMost (suc n) (send nas d)
unfolding send
sends {n} {d} nas h = at_some (AtMost (suc n)) d.solo.connection (λ k is. emits _ _ None h) (λ is. one_more h)

releases : {n : ℕ} {d : Draft} (cause : Cause) → AtMost n d → AtMost (suc n) (release cause d)
unfolding release disconnected
releases {n} {d} cause h =
    at_some (AtMost (suc n)) d.solo.connection
    (λ k is. let e = emits k.station _ None h in record { at = e.at }) (λ is. one_more h)

wipes : {n : ℕ} {d : Draft} → AtMost n d → AtMost n (wipe d)
unfolding wipe
wipes h = record { at = h.at }

falls : {n : ℕ} {d : Draft} → AtMost n d → AtMost n (fallen d)
unfolding resting ended
falls {n} {d} h = either (AtMost n) (is_registered d.solo.phase) (record { at = h.at }) (wipes h)

fall_so : {n : ℕ} {d : Draft} (cause : Cause) → AtMost n d → AtMost (suc n) (fall cause d)
unfolding fall
fall_so cause h = falls (releases cause h)

lost_so : {n : ℕ} {d : Draft} → AtMost n d → AtMost n (lost d)
unfolding lost disconnected
lost_so h = falls (record { at = h.at })

forgotten : {n : ℕ} {d : Draft} (cause : Cause) → AtMost n d → AtMost (suc n) (wipe (release cause d))
forgotten cause h = wipes (releases cause h)

refuses : {n : ℕ} {d : Draft} (slot station enb_ue_id : ℕ) (nas : List ℕ) → AtMost n d
    → AtMost (suc (suc n)) (refuse slot station enb_ue_id nas d)
unfolding refuse association_counted
refuses slot station enb_ue_id nas h = emits _ _ None (emits _ _ None (record { at = h.at }))

turns_away : {n : ℕ} {d : Draft} (slot station enb_ue_id : ℕ) → AtMost n d → AtMost (suc n) (turn_away slot station enb_ue_id d)
unfolding turn_away association_counted
turns_away slot station enb_ue_id h = emits _ _ None (record { at = h.at })

leaves : {n : ℕ} {d : Draft} (station enb_ue_id : ℕ) → AtMost n d → AtMost (suc n) (leave_old station enb_ue_id d)
unfolding leave_old
leaves {n} {d} station enb_ue_id h =
    at_some (AtMost (suc n)) d.solo.connection
    (λ k is. either (AtMost (suc n)) (is_at k station enb_ue_id) (one_more h) (emits _ _ None h)) (λ is. one_more h)

connects_on : {n : ℕ} {d : Draft} (id station enb_ue_id : ℕ) → AtMost n d → AtMost (suc n) (connect_on id station enb_ue_id d)
unfolding connect_on
connects_on id station enb_ue_id h = let left = leaves station enb_ue_id h in record { at = left.at }

connects : {n : ℕ} {d : Draft} (slot station enb_ue_id : ℕ) → AtMost n d → AtMost (suc n) (connect slot station enb_ue_id d)
unfolding connect association_counted
connects slot station enb_ue_id h = connects_on _ station enb_ue_id (record { at = h.at })

starts : {n : ℕ} {d : Draft} (timer : NasTimer) (repeat : Repeat) → AtMost n d → AtMost n (start timer repeat d)
unfolding start
starts timer repeat h = record { at = h.at }

takes : {n : ℕ} {d : Draft} (x : Context) (count : ℕ) → AtMost n d → AtMost n (attaching.took x count d)
unfolding attaching.took
takes x count h = record { at = h.at }

-- ---- protected

some_sealed : {n : ℕ} (y : Sealed × Draft) → AtMost n y.1 → SealedAtMost n (Some y)
some_sealed {n} y h = record { at = λ z is. subst (λ (x : Sealed × Draft). AtMost n x.1) (same_Some y z is) h }

sealed_if : {n : ℕ} {o : Option (Sealed × Draft)} (t : Bool) → SealedAtMost n o → SealedAtMost n (cond t o None)
sealed_if true h = h
sealed_if false h = record { at = λ y is. absurd (cc is) }

sealed_at : {n : ℕ} (header : SecurityHeader) (nas : List ℕ) (d : Draft) (o : Option Context) → AtMost n d
    → SealedAtMost n (option_map_or (sealed_under header nas d) o (Some (record { form = []; under = None }, d)))
sealed_at header nas d None h = some_sealed (record { form = []; under = None }, d) h
sealed_at header nas d (Some x) h = sealed_if _ (some_sealed _ (record { at = h.at }))

seals : {n : ℕ} {d : Draft} (header : SecurityHeader) (nas : List ℕ) → AtMost n d → SealedAtMost n (seal header nas d)
unfolding seal
seals {n} {d} header nas h = sealed_at header nas d d.solo.context h

sealed_then : {n m : ℕ} (f : Sealed × Draft → Draft) (o : Option (Sealed × Draft)) → SealedAtMost n o
    → ((y : Sealed × Draft) → AtMost n y.1 → AtMost m (f y)) → Whenever (AtMost m) (o >>= λ y. Some (f y))
sealed_then f None h each = record { at = λ e is. absurd (cc is) }
sealed_then f (Some y) h each = some (each y (h.at y refl))

protects : {n : ℕ} {d : Draft} (header : SecurityHeader) (nas : List ℕ) → AtMost n d
    → Whenever (AtMost (suc n)) (protect header nas d)
unfolding protect
protects {n} {d} header nas h =
    sealed_then _ (seal header nas d) (seals header nas h)
    (λ y r. at_some (AtMost (suc n)) y.1.solo.connection (λ k is. emits _ _ y.0.under r) (λ is. one_more r))

awaits : {n : ℕ} {d : Draft} (timer : NasTimer) (header : SecurityHeader) (nas : List ℕ) → AtMost n d
    → Whenever (AtMost (suc n)) (protect_and_await timer header nas d)
awaits timer header nas h = then _ (protects header nas h) (λ e f. starts timer _ f)

sets_up : {n : ℕ} {d : Draft} (s : Setting) (key : List ℕ) (nas : Option (List ℕ)) (under : Option Mark) → AtMost n d
    → AtMost (suc n) (set_up s key nas under d)
unfolding set_up
sets_up {n} {d} s key nas under h = at_some (AtMost (suc n)) d.solo.connection (λ k is. emits _ _ under h) (λ is. one_more h)

sets_up_with : {n : ℕ} {d : Draft} (s : Setting) (key nas : List ℕ) → AtMost n d → Whenever (AtMost (suc n)) (set_up_with s key nas d)
unfolding set_up_with
sets_up_with {n} {d} s key nas h =
    sealed_then _ (seal _ nas d) (seals _ nas h) (λ y r. sets_up s key (Some y.0.form) y.0.under r)

-- ---- rows

module _ (s : Setting) {n : ℕ} where
  attach_refused : {d : Draft} (cause : EmmCause) (esm : Option (List ℕ)) → AtMost n d
      → AtMost (suc (suc n)) (attaching.attach_refused cause esm d)
  unfolding attaching.attach_refused
  attach_refused cause esm h = forgotten _ (sends _ h)

  challenge : {d : Draft} → AtMost n d → AtMost (suc (suc n)) (attaching.challenge s d)
  unfolding attaching.challenge attaching.challenged
  challenge {d} h =
      at_some (AtMost (suc (suc n))) (slice_get s.vectors d.solo.next_vector)
      (λ v there. starts _ _ (one_more (sends _ (record { at = h.at })))) (λ is. attach_refused _ _ h)

  attach_by : {d : Draft} (asked : Requested (List ℕ)) (combined : Bool) (capability : List ℕ) (tai : Tai) → AtMost n d
      → AtMost (suc (suc n)) (attaching.attach_by asked s combined capability tai d)
  unfolding attaching.attach_by attaching.asking
  attach_by Unreadable combined capability tai h = attach_refused _ _ h
  attach_by (Refused esm) combined capability tai h = attach_refused _ _ h
  attach_by Taken combined capability tai h =
      either (AtMost (suc (suc n))) _ (challenge (record { at = h.at })) (attach_refused _ _ h)

  attach : {d : Draft} (combined : Bool) (capability esm : List ℕ) (tai : Tai) → AtMost n d
      → AtMost (suc (suc n)) (attaching.attach s combined capability esm tai d)
  unfolding attaching.attach attaching.requesting wipe
  attach combined capability esm tai h = attach_by _ combined capability tai (record { at = h.at })

  not_authenticated : {d : Draft} → AtMost n d → AtMost (suc (suc n)) (attaching.not_authenticated d)
  unfolding attaching.not_authenticated
  not_authenticated h = forgotten _ (sends _ h)

  response : {d : Draft} (res : List ℕ) → AtMost n d → Whenever (AtMost (suc (suc n))) (attaching.response s res d)
  unfolding attaching.response attaching.response_to attaching.authenticated attaching.new_context
  response {d} res h =
      at_some (Whenever (AtMost (suc (suc n)))) (slice_get s.vectors (d.solo.next_vector - 1))
      (λ v there. either (Whenever (AtMost (suc (suc n)))) _ (whenever_more (awaits _ _ _ (record { at = h.at }))) (some (not_authenticated h)))
      (λ none. some (one_more (one_more h)))

  detach_plainly : {d : Draft} (switch_off : Bool) → AtMost n d → AtMost (suc (suc n)) (attaching.detach_plainly switch_off d)
  unfolding attaching.detach_plainly attaching.detach_answered_plainly
  detach_plainly switch_off h = forgotten _ (either (AtMost (suc n)) switch_off (one_more h) (sends _ h))

  status_plainly : {d : Draft} (cause : Option EmmCause) → AtMost n d → AtMost (suc (suc n)) (attaching.status_plainly cause d)
  unfolding attaching.status_plainly
  status_plainly cause h = one_more (at_some (AtMost (suc n)) cause (λ c is. sends _ h) (λ is. one_more h))

  authenticating : {d : Draft} (m : Heard (List ℕ)) → AtMost n d → Whenever (AtMost (suc (suc n))) (attaching.authenticating s m d)
  unfolding attaching.authenticating attaching.failure
  authenticating (heards.AuthenticationResponse res) h = response res h
  authenticating (heards.AuthenticationFailure cause) h = some (either (AtMost (suc (suc n))) _ (challenge h) (not_authenticated h))
  authenticating (heards.DetachRequest switch_off) h = some (detach_plainly switch_off h)
  authenticating heards.Unasked h = some (one_more (one_more h))
  authenticating (heards.Unreadable fault) h = some (status_plainly _ h)
  authenticating _ h = some (status_plainly _ h)

  accept : {d : Draft} (key : List ℕ) → AtMost n d → Whenever (AtMost (suc n)) (attaching.accept s key d)
  unfolding attaching.accept attaching.activating attaching.given_tmsi
  accept key h = then _ (sets_up_with s key _ (record { at = h.at })) (λ e f. starts _ _ f)

  ask_information : {d : Draft} → AtMost n d → Whenever (AtMost (suc n)) (attaching.ask_information d)
  unfolding attaching.ask_information
  ask_information h = awaits _ _ _ (record { at = h.at })

  secured_by : {d : Draft} (r : Acceptance) (x : Context) (nas : List ℕ) → AtMost n d
      → Whenever (AtMost (suc n)) (attaching.secured_by r s x nas d)
  unfolding attaching.secured_by attaching.secured attaching.keyed attaching.not_secured
  secured_by (Ok found) x nas h =
      either (Whenever (AtMost (suc n))) _
      (either (Whenever (AtMost (suc n))) _ (ask_information (takes _ found.0 h)) (accept _ (takes _ found.0 h)))
      (some (one_more (takes _ found.0 h)))
  secured_by (Err fault) x nas h = some (either (AtMost (suc n)) _ (fall_so _ h) (one_more h))

  in_security_mode : {d : Draft} (nas : List ℕ) → AtMost n d → Whenever (AtMost (suc n)) (attaching.in_security_mode s nas d)
  unfolding attaching.in_security_mode attaching.not_secured
  in_security_mode {d} nas h =
      at_some (Whenever (AtMost (suc n))) d.solo.context (λ x is. secured_by _ x nas h)
      (λ is. some (either (AtMost (suc n)) _ (fall_so _ h) (one_more h)))

  update : {d : Draft} (tai : Tai) (combined initial : Bool) → AtMost n d
      → Whenever (AtMost (suc n)) (serving.update s tai combined initial d)
  unfolding serving.update serving.updating serving.active ended attaching.given_tmsi
  update tai combined initial h = awaits _ _ _ (record { at = h.at })

  detach : {d : Draft} (switch_off : Bool) → AtMost n d → Whenever (AtMost (suc (suc n))) (serving.detach switch_off d)
  unfolding serving.detach serving.detach_answered
  detach switch_off h =
      then _ (either (Whenever (AtMost (suc n))) switch_off (some (one_more h)) (protects _ _ h)) (λ e f. forgotten _ f)

module _ (s : Setting) (m : Entry (List ℕ)) {n : ℕ} where
  served_by : {d : Draft} (r : Result ℕ SecurityFault) (x : Context) → AtMost n d
      → AtMost (suc (suc n)) (serving.served_by r s x m d)
  unfolding serving.served_by serving.served serving.active ended attaching.keyed
  served_by (Ok count) x h =
      let linked = connects s.slot m.station m.enb_ue_id h in
      sets_up s _ None None (takes _ count (record { at = linked.at }))
  served_by (Err fault) x h = refuses _ _ _ _ h

  service : {d : Draft} (octets : List ℕ) → AtMost n d → AtMost (suc (suc n)) (serving.service s m octets d)
  unfolding serving.service
  service {d} octets h =
      either (AtMost (suc (suc n))) _
      (at_some (AtMost (suc (suc n))) d.solo.context (λ x is. served_by _ x h) (λ is. refuses _ _ _ _ h)) (refuses _ _ _ _ h)

  updated_by : {d : Draft} (r : Acceptance) (x : Context) (combined : Bool) → AtMost n d
      → Whenever (AtMost (suc (suc n))) (serving.updated_by r s x m combined d)
  unfolding serving.updated_by
  updated_by (Ok found) x combined h = update s m.tai combined true (takes _ found.0 (connects s.slot m.station m.enb_ue_id h))
  updated_by (Err fault) x combined h = some (refuses _ _ _ _ h)

  initial_update : {d : Draft} (combined : Bool) → AtMost n d
      → Whenever (AtMost (suc (suc n))) (serving.initial_update s m combined d)
  unfolding serving.initial_update
  initial_update {d} combined h =
      either (Whenever (AtMost (suc (suc n)))) _
      (at_some (Whenever (AtMost (suc (suc n)))) d.solo.context (λ x is. updated_by _ x combined h) (λ is. some (refuses _ _ _ _ h)))
      (some (refuses _ _ _ _ h))

  detached_by : {d : Draft} (r : Acceptance) (x : Context) (switch_off : Bool) → AtMost n d
      → Whenever (AtMost (suc (suc (suc n)))) (serving.detached_by r s x m switch_off d)
  unfolding serving.detached_by
  detached_by (Ok found) x switch_off h = detach s switch_off (takes _ found.0 (connects s.slot m.station m.enb_ue_id h))
  detached_by (Err fault) x switch_off h = some (one_more (one_more (turns_away _ _ _ h)))

  initial_detach : {d : Draft} (switch_off : Bool) → AtMost n d
      → Whenever (AtMost (suc (suc (suc n)))) (serving.initial_detach s m switch_off d)
  unfolding serving.initial_detach
  initial_detach {d} switch_off h =
      either (Whenever (AtMost (suc (suc (suc n))))) _ (some (detach_plainly s switch_off (connects s.slot m.station m.enb_ue_id h)))
      (at_some (Whenever (AtMost (suc (suc (suc n))))) d.solo.context (λ x is. detached_by _ x switch_off h)
      (λ is. some (one_more (one_more (turns_away _ _ _ h)))))

  entered : {d : Draft} (o : Heard (List ℕ)) → AtMost n d → Whenever (AtMost (suc (suc (suc n)))) (serving.entered o s m d)
  unfolding serving.entered
  entered (heards.AttachRequest combined capability esm) h =
      some (attach s combined capability esm m.tai (connects s.slot m.station m.enb_ue_id h))
  entered (heards.ServiceRequest octets) h = some (one_more (service octets h))
  entered (heards.TrackingAreaUpdateRequest combined) h = whenever_more (initial_update combined h)
  entered (heards.DetachRequest switch_off) h = initial_detach switch_off h
  entered _ h = some (one_more (one_more (one_more h)))

  claimed : {d : Draft} (o : Heard (List ℕ)) (id : ℕ) → AtMost n d → AtMost (suc (suc (suc n))) (serving.claimed o s id m d)
  unfolding serving.claimed
  claimed (heards.AttachRequest combined capability esm) id h =
      attach s combined capability esm m.tai (connects_on id m.station m.enb_ue_id h)
  claimed _ id h = one_more (one_more (one_more h))

module _ (s : Setting) {n : ℕ} where
  status : {d : Draft} (cause : Option EmmCause) → AtMost n d → Whenever (AtMost (suc (suc n))) (serving.status_protected cause d)
  unfolding serving.status_protected
  status cause h = whenever_more (at_some (Whenever (AtMost (suc n))) cause (λ c is. protects _ _ h) (λ is. some (one_more h)))

  registered_so : {d : Draft} → AtMost n d → AtMost n (serving.registered d)
  unfolding serving.registered ended
  registered_so h = record { at = h.at }

  attach_completed : {d : Draft} (esm : List ℕ) → AtMost n d → AtMost (suc n) (serving.attach_completed esm d)
  unfolding serving.attach_completed
  attach_completed {d} esm h =
      let bearing : AtMost n (record d { solo = record d.solo { bearer = accepted_by d.solo.bearer esm } }) = record { at = h.at } in
      either (AtMost (suc n)) _ (one_more (registered_so bearing)) (fall_so _ h)

  update_completed : {d : Draft} → AtMost n d → AtMost (suc n) (serving.update_completed d)
  unfolding serving.update_completed
  update_completed {d} h =
      let done = registered_so h in
      either (AtMost (suc n)) d.solo.asked.initial_update (fall_so _ done) (one_more done)

  inner_emm : {d : Draft} (m : Heard (List ℕ)) (tai : Tai) → AtMost n d
      → Whenever (AtMost (suc (suc n))) (serving.inner_emm m s tai d)
  unfolding serving.inner_emm
  inner_emm (heards.AttachComplete esm) tai h =
      either (Whenever (AtMost (suc (suc n)))) _ (some (one_more (attach_completed esm h))) (status _ h)
  inner_emm heards.TrackingAreaUpdateComplete tai h =
      either (Whenever (AtMost (suc (suc n)))) _ (some (one_more (update_completed h))) (status _ h)
  inner_emm (heards.TrackingAreaUpdateRequest combined) tai h =
      either (Whenever (AtMost (suc (suc n)))) _ (whenever_more (update s tai combined false h)) (status _ h)
  inner_emm (heards.DetachRequest switch_off) tai h = detach s switch_off h
  inner_emm heards.DetachAccept tai h =
      either (Whenever (AtMost (suc (suc n)))) _ (some (one_more (forgotten _ h))) (status _ h)
  inner_emm heards.Unasked tai h = some (one_more (one_more h))
  inner_emm (heards.Unreadable fault) tai h = status _ h
  inner_emm _ tai h = status _ h

  reacted : {d : Draft} (r : Reaction (List ℕ)) → AtMost n d → Whenever (AtMost (suc (suc n))) (serving.reacted r s d)
  unfolding serving.reacted serving.information_came
  reacted reactions.Nothing h = some (one_more (one_more h))
  reacted {d} reactions.Informed h =
      whenever_more (at_some (Whenever (AtMost (suc n))) d.solo.context (λ x is. accept s _ h) (λ is. some (one_more h)))
  reacted (reactions.Answer octets) h = whenever_more (protects _ octets h)

  inner_by : {d : Draft} (r : Acceptance) (x : Context) (tai : Tai) → AtMost n d
      → Whenever (AtMost (suc (suc n))) (serving.inner_message_by r s x tai d)
  unfolding serving.inner_message_by serving.inner_message serving.inner_esm
  inner_by (Ok found) x tai h =
      let taken = takes (attaching.counted_up x found.0) found.0 h in
      either (Whenever (AtMost (suc (suc n)))) _ (reacted _ taken) (inner_emm (heard found.1) tai taken)
  inner_by (Err fault) x tai h = some (one_more (one_more h))

  in_later : {d : Draft} (tai : Tai) (nas : List ℕ) → AtMost n d → Whenever (AtMost (suc (suc n))) (serving.in_later s tai nas d)
  unfolding serving.in_later
  in_later {d} tai nas h =
      at_some (Whenever (AtMost (suc (suc n)))) d.solo.context (λ x is. inner_by _ x tai h) (λ is. some (one_more (one_more h)))

  uplink : {d : Draft} (phase : Phase) (tai : Tai) (nas : List ℕ) → AtMost n d
      → Whenever (AtMost (suc (suc n))) (serving.uplink phase s tai nas d)
  unfolding serving.uplink attaching.in_authenticating
  uplink Deregistered tai nas h = some (one_more (one_more h))
  uplink Authenticating tai nas h =
      either (Whenever (AtMost (suc (suc n)))) _ (authenticating s (heard nas) h) (some (one_more (one_more h)))
  uplink SecurityMode tai nas h = whenever_more (in_security_mode s nas h)
  uplink EsmInformation tai nas h = in_later tai nas h
  uplink Accepting tai nas h = in_later tai nas h
  uplink Updating tai nas h = in_later tai nas h
  uplink Registered tai nas h = in_later tai nas h
  uplink Detaching tai nas h = in_later tai nas h

  on_connection : {d : Draft} (body : UeBody (List ℕ)) → AtMost n d
      → Whenever (AtMost (suc (suc n))) (messages.on_connection body s d)
  unfolding messages.on_connection
  on_connection {d} (bodies.Uplink nas tai) h = uplink d.solo.phase tai nas h
  on_connection (bodies.UeContextReleaseRequest cause) h = some (one_more (fall_so _ h))
  on_connection bodies.InitialContextSetupFailure h = some (one_more (fall_so _ h))
  on_connection _ h = some (one_more (one_more h))

  checked : {d : Draft} (m : UeMessage (List ℕ)) → AtMost n d → Whenever (AtMost (suc (suc n))) (messages.checked s m d)
  unfolding messages.checked connected.indicate
  checked m h =
      either (Whenever (AtMost (suc (suc n)))) _ (some (one_more (emits _ _ None h)))
      (either (Whenever (AtMost (suc (suc n)))) _ (on_connection m.body h) (some (one_more (emits _ _ None h))))

  switches : {d : Draft} (m : UeMessage (List ℕ)) (x : Context) → AtMost n d → AtMost (suc n) (connected.switched m x d)
  unfolding connected.switched
  switches m x h = emits m.station _ None (record { at = h.at })

  path_switch : {d : Draft} (m : UeMessage (List ℕ)) → AtMost n d → AtMost (suc (suc n)) (connected.path_switch m d)
  unfolding connected.path_switch connected.not_switched
  path_switch {d} m h =
      let no = λ (cause : Cause). one_more (emits m.station (path_switch_failure m.mme_ue_id m.enb_ue_id cause) None h) in
      either (AtMost (suc (suc n))) (not (connected.has_connection_id m d)) (no (causes.RadioNetwork radio.UnknownMmeUeS1apId))
      (either (AtMost (suc (suc n))) (not (is_of_slot m.mme_ue_id)) (no (causes.RadioNetwork radio.UnknownMmeUeS1apId))
      (either (AtMost (suc (suc n))) (is_registered d.solo.phase)
      (at_some (AtMost (suc (suc n))) d.solo.context (λ x is. one_more (switches m x h)) (λ is. one_more (one_more h)))
      (no (causes.Protocol protocol.MessageNotCompatible))))

  message_of : {d : Draft} (body : UeBody (List ℕ)) (m : UeMessage (List ℕ)) → AtMost n d
      → Whenever (AtMost (suc (suc n))) (messages.message_of body s m d)
  unfolding messages.message_of
  message_of bodies.UeContextReleaseComplete m h = some (one_more (one_more h))
  message_of bodies.PathSwitch m h = some (path_switch m h)
  message_of _ m h = checked m h

-- ---- what ends a connection without a message, paging and countdowns

displaced : {n : ℕ} {d : Draft} (id : ℕ) → AtMost n d → AtMost n (connected.displaced id d)
unfolding connected.displaced
displaced {n} {d} id h = at_some (AtMost n) d.solo.connection (λ k is. either (AtMost n) _ (lost_so h) h) (λ is. h)

station_gone : {n : ℕ} {d : Draft} (station : ℕ) → AtMost n d → AtMost n (connected.station_gone station d)
unfolding connected.station_gone connected.strike
station_gone {n} {d} station h =
    let rest : AtMost n (connected.strike station d) = record { at = h.at } in
    at_some (AtMost n) d.solo.connection (λ k is. either (AtMost n) (k.station == station) (lost_so rest) rest) (λ is. rest)

connections_gone : {n : ℕ} {d : Draft} (station : ℕ) (items : ToReset) → AtMost n d
    → AtMost n (connected.connections_gone station items d)
unfolding connected.connections_gone
connections_gone {n} {d} station items h =
    at_some (AtMost n) d.solo.connection (λ k is. either (AtMost n) _ (lost_so h) h) (λ is. h)

emits_each : {n : ℕ} {d : Draft} (message : Pdu (List ℕ)) (es : List ℕ) → AtMost n d
    → AtMost (n + length es) (idle.emit_each message es d)
emits_each {n} {d} message [] h = more _ (omega arith) h
emits_each {n} {d} message (e ∷ es) h =
    more _ (omega arith) (emits_each {n = suc n} {d = emit e message None d} message es (emits e message None h))

pages : {n : ℕ} {d : Draft} (s : Setting) (es : List ℕ) → AtMost n d → AtMost (n + length es) (idle.page s es d)
unfolding idle.page
pages {n} {d} s es h =
    at_some (AtMost (n + length es)) d.solo.tmsi (λ t is. emits_each _ es h) (λ is. more _ (omega arith) h)

listening_few : (tai : Tai) (n : ℕ) (states : List StationState) → length (idle.listening tai n states) ≤ length states
listening_few tai n [] = omega arith
listening_few tai n (state ∷ states) =
    let rest = listening_few tai (n + 1) states in
    either (λ (es : List ℕ). length es ≤ suc (length states)) (idle.listens tai state) (omega (arith, rest)) (omega (arith, rest))

data_waits : (s : Setting) (solo : Solo) (stations : List StationState)
    → AtMost (length stations) (idle.data_waits s stations (untouched solo))
unfolding idle.data_waits idle.paged
data_waits s solo stations =
    let few = listening_few solo.tai 0 stations in
    let none : AtMost 0 (untouched solo) = record { at = omega arith } in
    either (AtMost (length stations)) _ (starts _ _ (more _ (omega (arith, few)) (pages s _ none))) (more _ (omega arith) none)

given_up : {n : ℕ} {d : Draft} (timer : NasTimer) → AtMost n d → AtMost (suc n) (idle.given_up timer d)
unfolding idle.given_up ended
given_up T3413 h = one_more (record { at = h.at })
given_up T3422 h = fall_so _ h
given_up T3450 h = fall_so _ h
given_up T3460 h = fall_so _ h
given_up T3489 h = fall_so _ h

again : (s : Setting) {d : Draft} (r : Repeat) (o : Option Repeat) → o ≡ Some r → AtMost 0 d
    → Whenever (AtMost (max 1 (paged_again o))) (idle.again r s d)
unfolding idle.again
again s (repeats.Nas Plain nas) o is h = some (more _ (omega arith) (sends nas h))
again s (repeats.Nas (Under header) nas) o is h =
    record { at = λ d e. more _ (omega arith) ((protects header nas h).at d e) }
again s (repeats.Paging es) o is h =
    let same : paged_again o ≡ length es = ap paged_again is in
    some (more _ (omega (arith, same)) (pages s es h))

expired : (s : Setting) {d : Draft} (c : Countdown) → AtMost 0 d
    → Whenever (AtMost (max 1 (paged_again d.solo.repeat))) (idle.expired c s d)
unfolding idle.expired idle.restarted
expired s {d} c h =
    either (Whenever (AtMost (max 1 (paged_again d.solo.repeat)))) _ (some (more _ (omega arith) (given_up c.timer h)))
    (at_some (Whenever (AtMost (max 1 (paged_again d.solo.repeat)))) d.solo.repeat (λ r is. again s r d.solo.repeat is (record { at = h.at }))
    (λ is. some (more _ (omega arith) h)))

tick : (s : Setting) (solo : Solo) → Whenever (AtMost (max 1 (paged_again solo.repeat))) (idle.tick s (untouched solo))
unfolding idle.tick idle.procedure_ticks idle.reachable_ticks_out idle.lowered
tick s solo =
    let most = max 1 (paged_again solo.repeat) in
    let low : AtMost 0 (idle.lowered (untouched solo)) = record { at = omega arith } in
    then _
    (at_some (Whenever (AtMost most)) (idle.lowered (untouched solo)).solo.procedure
    (λ c is. either (Whenever (AtMost most)) _ (expired s c low) (some (more _ (omega arith) low))) (λ is. some (more _ (omega arith) low)))
    (λ e f. at_some (AtMost most) e.solo.reachable (λ n is. either (AtMost most) _ (wipes f) f) (λ is. f))

cancelled : {n : ℕ} {d : Draft} (phase : Phase) → AtMost n d → Whenever (AtMost (suc n)) (idle.cancelled phase d)
unfolding idle.cancelled idle.detach_phone
cancelled {n} Registered h = either (Whenever (AtMost (suc n))) _ (awaits _ _ _ (record { at = h.at })) (some (one_more (wipes h)))
cancelled Updating h = awaits _ _ _ (record { at = h.at })
cancelled Authenticating h = some (forgotten _ h)
cancelled SecurityMode h = some (forgotten _ h)
cancelled EsmInformation h = some (forgotten _ h)
cancelled Accepting h = some (forgotten _ h)
cancelled Deregistered h = some (one_more h)
cancelled Detaching h = some (one_more h)

-- ---- the step

none_yet : (solo : Solo) → AtMost 0 (untouched solo)
none_yet solo = record { at = omega arith }

-- where a downlink count is spent, the connection is released
spent_one : (solo : Solo) → AtMost 1 (steps.spent solo)
spent_one solo = wipes (fall_so _ (none_yet solo))

of_row : {n : ℕ} (solo : Solo) (o : Option Draft) → 1 ≤ n → Whenever (AtMost n) o
    → length (unwrap_or o (steps.spent solo)).sent ≤ n
of_row {n} solo None some_left h = let few = (spent_one solo).at in omega (arith, few, some_left)
of_row solo (Some d) some_left h = (h.at d refl).at

pub sends_at_most : SendsAtMost
unfolding steps.solo_step steps.row serving.initial serving.claim
sends_at_most s solo Nothing = omega arith
sends_at_most s solo (Initial m) = of_row solo _ (omega arith) (entered s m (heard (initial_octets m.nas)) (none_yet solo))
sends_at_most s solo (Claim id m) = (claimed s m (heard (initial_octets m.nas)) id (none_yet solo)).at
sends_at_most s solo (Message m) = of_row solo _ (omega arith) (message_of s m.body m (none_yet solo))
sends_at_most s solo (Displaced id) = (displaced id (none_yet solo)).at
sends_at_most s solo (StationGone station) = (station_gone station (none_yet solo)).at
sends_at_most s solo (ConnectionsGone station items) = (connections_gone station items (none_yet solo)).at
sends_at_most s solo Tick = of_row solo _ (omega arith) (tick s solo)
sends_at_most s solo (Data stations) = (data_waits s solo stations).at
sends_at_most s solo Cancel = of_row solo _ (omega arith) (cancelled solo.phase (none_yet solo))
