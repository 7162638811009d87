-- Each row keeps what is sent and accepted fresh, and so does the step.
use Rattle.std.proofs.Common.{◌≡◌, ℕ, ◌-◌, ◌^◌, ◌<◌, ◌≤◌, Bool, true, false, cond, not, List, [], ◌∷◌, Option, Some, None, Result, Ok, Err, unwrap_or, slice_get, refl, ◌∙◌, le_refl}
use Rattle.std.specs.Option.{option_map_or}
use Rattle.esm_machine.specs.declared.reaction.Reaction.{Reaction}
use Rattle.esm_machine.specs.declared.reaction.Reaction.TheVariants as reactions
use Rattle.esm_machine.specs.declared.request.Requested.{Requested}
use Rattle.esm_machine.specs.declared.request.Requested.TheVariants.{Unreadable, Refused, Taken}
use Rattle.identity_slots.specs.declared.profile.Vector.{Vector}
use Rattle.identity_slots.specs.Ids.{is_of_slot}
use Rattle.nas_messages.specs.declared.protection.SecurityHeader.{SecurityHeader}
use Rattle.nas_security.specs.declared.fault.SecurityFault.{SecurityFault}
use Rattle.nas_security.specs.Accepting.{Acceptance, accepted, short_accepted}
use Rattle.nas_security.specs.Context.{Mac}
use Rattle.nas_security.specs.Counts.{first_after}
use Rattle.s1ap_causes.specs.declared.cause.Cause.{Cause}
use Rattle.s1ap_elements.specs.declared.phone.Tai.{Tai}
use Rattle.s1ap_pdus.specs.declared.pdu.Pdu.{Pdu}
use Rattle.emm_state.specs.declared.draft.Draft.{Draft}
use Rattle.mme_types.specs.declared.event.Entry.{Entry}
use Rattle.mme_types.specs.declared.event.UeBody.{UeBody}
use Rattle.mme_types.specs.declared.event.UeBody.TheVariants as bodies
use Rattle.mme_types.specs.declared.event.UeMessage.{UeMessage}
use Rattle.mme_signalling.specs.declared.cause.EmmCause.{EmmCause}
use Rattle.mme_signalling.specs.declared.heard.Heard.{Heard}
use Rattle.mme_signalling.specs.declared.heard.Heard.TheVariants as heards
use Rattle.emm_state.specs.declared.setting.Setting.{Setting}
use Rattle.emm_state.specs.declared.solo.Context.{Context}
use Rattle.emm_state.specs.declared.solo.Countdown.{Countdown}
use Rattle.emm_state.specs.declared.solo.Phase.{Phase}
use Rattle.emm_state.specs.declared.solo.Phase.TheVariants.{Deregistered, Authenticating, SecurityMode, EsmInformation, Accepting, Updating, Registered, Detaching}
use Rattle.emm_state.specs.declared.solo.Protection.TheVariants.{Plain, Under}
use Rattle.emm_state.specs.declared.solo.Repeat.{Repeat}
use Rattle.emm_state.specs.declared.solo.Repeat.TheVariants as repeats
use Rattle.emm_state.specs.declared.solo.Solo.{Solo}
use Rattle.emm_state.specs.declared.solo.NasTimer.{NasTimer}
use Rattle.emm_state.specs.declared.solo.NasTimer.TheVariants.{T3413, T3422, T3450, T3460, T3489}
use Rattle.mme_types.specs.declared.stations.StationState.{StationState}
use Rattle.emm_state.specs.Actions.{connect, connect_on, association_counted, emit, ended, is_at, is_registered, leave_old, untouched}
use Rattle.emm_uplink.specs.Attaching as attaching
use Rattle.emm_uplink.specs.Attaching.{counted_up, keyed, took}
use Rattle.emm_network.specs.Connected as connected
use Rattle.emm_machine.specs.Messages as messages
use Rattle.emm_machine.specs.Freshness.{next_place, next_up}
use Rattle.mme_signalling.specs.Hearing.{heard}
use Rattle.mme_types.specs.Events as events
use Rattle.mme_types.specs.Listed.{ToReset}
use Rattle.emm_network.specs.Idle as idle
use Rattle.mme_signalling.specs.Pdus.{path_switch_failure}
use Rattle.emm_uplink.specs.Serving as serving
use Rattle.emm_machine.specs.Steps as steps
use Rattle.emm_machine.proofs.Freshness.{IsFresh, IsFreshIf, at_some, at_some_if, either, either_if, fresh_connect, fresh_connect_on, fresh_context, fresh_emit, fresh_fall, fresh_in, fresh_keyed, fresh_lost, fresh_protect, fresh_radio, fresh_refuse, fresh_release, fresh_send, fresh_set_up, fresh_set_up_with, fresh_start, fresh_taking, fresh_took, fresh_turn_away, fresh_wipe, quiet, some, then}

-- what nas_security's law says of what is accepted
abbrev pub WholeIsFresh : Type 0
WholeIsFresh = (mac : Mac) (last : Option ℕ) (allowed : List SecurityHeader) (octets : List ℕ) (count : ℕ) (message : List ℕ)
    → accepted mac last allowed octets ≡ Ok (count, message) → (first_after last ≤ count) × (count < 2 ^ 24)

abbrev pub ShortIsFresh : Type 0
ShortIsFresh = (mac : Mac) (last : Option ℕ) (ksi : ℕ) (octets : List ℕ) (count : ℕ)
    → short_accepted mac last ksi octets ≡ Ok count → (first_after last ≤ count) × (count < 2 ^ 24)

-- an answer's count is above the last that the context accepted
abbrev IsHigh : Context → Acceptance → Type 0
IsHigh x r = (found : ℕ × List ℕ) → r ≡ Ok found → next_up x ≤ found.0

-- ---- where the context stays

same_context : {K : Type 0} (f : K → Draft) (d : Draft) (o : Option K) → ((k : K) → (f k).solo.context ≡ d.solo.context)
    → (option_map_or f o d).solo.context ≡ d.solo.context
same_context f d None each = refl
same_context f d (Some k) each = each k

cond_context : (x y : Draft) (c : Option Context) (t : Bool) → x.solo.context ≡ c → y.solo.context ≡ c
    → (cond t x y).solo.context ≡ c
cond_context x y c true p q = p
cond_context x y c false p q = q

leave_context : (station enb_ue_id : ℕ) (d : Draft) → (leave_old station enb_ue_id d).solo.context ≡ d.solo.context
unfolding leave_old emit
leave_context station enb_ue_id d =
    same_context _ d d.solo.connection (λ k. cond_context _ _ d.solo.context (is_at k station enb_ue_id) refl refl)

connect_context : (slot station enb_ue_id : ℕ) (d : Draft) → (connect slot station enb_ue_id d).solo.context ≡ d.solo.context
unfolding connect connect_on association_counted
connect_context slot station enb_ue_id d = leave_context station enb_ue_id (association_counted d)

module _ {b : Solo} where
  -- ---- attaching

  fresh_attach_refused : {d : Draft} (cause : EmmCause) (esm : Option (List ℕ)) → IsFresh b d
      → IsFresh b (attaching.attach_refused cause esm d)
  unfolding attaching.attach_refused
  fresh_attach_refused cause esm h = fresh_wipe (fresh_release _ (fresh_send _ h))

  fresh_challenged : {d : Draft} (v : Vector) → IsFresh b d → IsFresh b (attaching.challenged v d)
  unfolding attaching.challenged
  fresh_challenged v h = fresh_start _ _ (fresh_send _ (fresh_taking h))

  fresh_challenge : {d : Draft} (s : Setting) → IsFresh b d → IsFresh b (attaching.challenge s d)
  unfolding attaching.challenge
  fresh_challenge {d} s h =
      at_some (slice_get s.vectors d.solo.next_vector) (λ v _. fresh_challenged v h) (fresh_attach_refused _ _ h)

  fresh_attach_by : {d : Draft} (asked : Requested (List ℕ)) (s : Setting) (combined : Bool) (capability : List ℕ) (tai : Tai)
      → IsFresh b d
      → IsFresh b (attaching.attach_by asked s combined capability tai d)
  unfolding attaching.attach_by attaching.asking
  fresh_attach_by Unreadable s combined capability tai h = fresh_attach_refused _ _ h
  fresh_attach_by (Refused esm) s combined capability tai h = fresh_attach_refused _ _ h
  fresh_attach_by Taken s combined capability tai h = either _ (fresh_challenge s (quiet h refl)) (fresh_attach_refused _ _ h)

  fresh_attach : {d : Draft} (s : Setting) (combined : Bool) (capability esm : List ℕ) (tai : Tai) → IsFresh b d
      → IsFresh b (attaching.attach s combined capability esm tai d)
  unfolding attaching.attach attaching.requesting
  fresh_attach s combined capability esm tai h = fresh_attach_by _ s combined capability tai (quiet (fresh_wipe h) refl)

  fresh_authenticated : {d : Draft} (v : Vector) → d.solo.phase ≡ Authenticating → IsFresh b d
      → IsFreshIf b (attaching.authenticated (d.solo.next_vector - 1) v d)
  unfolding attaching.authenticated attaching.new_context
  fresh_authenticated v is h = then (fresh_protect _ _ (fresh_context _ is refl h)) (λ e f. fresh_start _ _ f)

  fresh_not_authenticated : {d : Draft} → IsFresh b d → IsFresh b (attaching.not_authenticated d)
  unfolding attaching.not_authenticated
  fresh_not_authenticated h = fresh_wipe (fresh_release _ (fresh_send _ h))

  fresh_response : {d : Draft} (s : Setting) (res : List ℕ) → d.solo.phase ≡ Authenticating → IsFresh b d
      → IsFreshIf b (attaching.response s res d)
  unfolding attaching.response attaching.response_to
  fresh_response {d} s res is h =
      at_some_if (slice_get s.vectors (d.solo.next_vector - 1))
      (λ v _. either_if _ (fresh_authenticated v is h) (some (fresh_not_authenticated h))) (some h)

  fresh_failure : {d : Draft} (s : Setting) (cause : ℕ) → IsFresh b d → IsFresh b (attaching.failure s cause d)
  unfolding attaching.failure
  fresh_failure s cause h = either _ (fresh_challenge s h) (fresh_not_authenticated h)

  fresh_detach_plainly : {d : Draft} (switch_off : Bool) → IsFresh b d → IsFresh b (attaching.detach_plainly switch_off d)
  unfolding attaching.detach_plainly attaching.detach_answered_plainly
  fresh_detach_plainly switch_off h = fresh_wipe (fresh_release _ (either switch_off h (fresh_send _ h)))

  fresh_status_plainly : {d : Draft} (cause : Option EmmCause) → IsFresh b d → IsFresh b (attaching.status_plainly cause d)
  unfolding attaching.status_plainly
  fresh_status_plainly cause h = at_some cause (λ c _. fresh_send _ h) h

  fresh_authenticating : {d : Draft} (s : Setting) (m : Heard (List ℕ)) → d.solo.phase ≡ Authenticating → IsFresh b d
      → IsFreshIf b (attaching.authenticating s m d)
  unfolding attaching.authenticating
  fresh_authenticating s (heards.AuthenticationResponse res) is h = fresh_response s res is h
  fresh_authenticating s (heards.AuthenticationFailure cause) is h = some (fresh_failure s cause h)
  fresh_authenticating s (heards.DetachRequest switch_off) is h = some (fresh_detach_plainly switch_off h)
  fresh_authenticating s heards.Unasked is h = some h
  fresh_authenticating s (heards.Unreadable fault) is h = some (fresh_status_plainly _ h)
  fresh_authenticating s _ is h = some (fresh_status_plainly _ h)

  fresh_accept : {d : Draft} (s : Setting) (kenb : List ℕ) → IsFresh b d → IsFreshIf b (attaching.accept s kenb d)
  unfolding attaching.accept attaching.activating attaching.given_tmsi
  fresh_accept s kenb h = then (fresh_set_up_with s _ _ (quiet (fresh_in Accepting refl tt h) refl)) (λ e f. fresh_start _ _ f)

  fresh_ask_information : {d : Draft} → IsFresh b d → IsFreshIf b (attaching.ask_information d)
  unfolding attaching.ask_information
  fresh_ask_information h = then (fresh_protect _ _ (fresh_in EsmInformation refl tt h)) (λ e f. fresh_start _ _ f)

  fresh_not_secured : {d : Draft} (nas : List ℕ) → IsFresh b d → IsFresh b (attaching.not_secured nas d)
  unfolding attaching.not_secured
  fresh_not_secured nas h = either _ (fresh_fall _ h) h

  fresh_secured_by : {d : Draft} (r : Acceptance) (s : Setting) (x : Context) (nas : List ℕ) → d.solo.context ≡ Some x → IsHigh x r
      → IsFresh b d
      → IsFreshIf b (attaching.secured_by r s x nas d)
  unfolding attaching.secured_by attaching.secured
  fresh_secured_by (Ok found) s x nas is high h =
      let k = fresh_keyed x found.0 is (high found refl) h in
      either_if _ (either_if _ (fresh_ask_information k) (fresh_accept s _ k)) (some (fresh_took x found.0 is (high found refl) h))
  fresh_secured_by (Err fault) s x nas is high h = some (fresh_not_secured nas h)

  -- ---- a phone that is known

  fresh_served_by : {d : Draft} (r : Result ℕ SecurityFault) (s : Setting) (x : Context) (m : Entry (List ℕ))
      → d.solo.context ≡ Some x
      → ((count : ℕ) → r ≡ Ok count → next_up x ≤ count) → IsFresh b d → IsFresh b (serving.served_by r s x m d)
  unfolding serving.served_by serving.served serving.active ended
  fresh_served_by {d} (Ok count) s x m is high h =
      fresh_set_up s _ None (fresh_keyed x count (connect_context s.slot m.station m.enb_ue_id d ∙ is) (high count refl)
      (quiet (fresh_in Registered refl tt (fresh_connect s.slot m.station m.enb_ue_id h)) refl))
  fresh_served_by (Err fault) s x m is high h = fresh_refuse s.slot m.station m.enb_ue_id _ h

  fresh_update : {d : Draft} (s : Setting) (tai : Tai) (combined initial : Bool) → IsFresh b d
      → IsFreshIf b (serving.update s tai combined initial d)
  unfolding serving.update serving.updating serving.active ended attaching.given_tmsi
  fresh_update s tai combined initial h =
      then (fresh_protect _ _ (quiet (fresh_in Updating refl tt h) refl)) (λ e f. fresh_start _ _ f)

  fresh_updated_by : {d : Draft} (r : Acceptance) (s : Setting) (x : Context) (m : Entry (List ℕ)) (combined : Bool)
      → d.solo.context ≡ Some x → IsHigh x r → IsFresh b d
      → IsFreshIf b (serving.updated_by r s x m combined d)
  unfolding serving.updated_by
  fresh_updated_by {d} (Ok found) s x m combined is high h =
      fresh_update s m.tai combined true
      (fresh_took x found.0 (connect_context s.slot m.station m.enb_ue_id d ∙ is) (high found refl) (fresh_connect s.slot m.station m.enb_ue_id h))
  fresh_updated_by (Err fault) s x m combined is high h = some (fresh_refuse s.slot m.station m.enb_ue_id _ h)

  fresh_detach : {d : Draft} (switch_off : Bool) → IsFresh b d → IsFreshIf b (serving.detach switch_off d)
  unfolding serving.detach serving.detach_answered
  fresh_detach switch_off h = then (either_if switch_off (some h) (fresh_protect _ _ h)) (λ e f. fresh_wipe (fresh_release _ f))

  fresh_detached_by : {d : Draft} (r : Acceptance) (s : Setting) (x : Context) (m : Entry (List ℕ)) (switch_off : Bool)
      → d.solo.context ≡ Some x → IsHigh x r → IsFresh b d
      → IsFreshIf b (serving.detached_by r s x m switch_off d)
  unfolding serving.detached_by
  fresh_detached_by {d} (Ok found) s x m switch_off is high h =
      fresh_detach switch_off
      (fresh_took x found.0 (connect_context s.slot m.station m.enb_ue_id d ∙ is) (high found refl) (fresh_connect s.slot m.station m.enb_ue_id h))
  fresh_detached_by (Err fault) s x m switch_off is high h = some (fresh_turn_away s.slot m.station m.enb_ue_id h)

  fresh_claimed : {d : Draft} (m : Heard (List ℕ)) (s : Setting) (id : ℕ) (e : Entry (List ℕ)) → IsFresh b d
      → IsFresh b (serving.claimed m s id e d)
  unfolding serving.claimed
  fresh_claimed (heards.AttachRequest combined capability esm) s id e h =
      fresh_attach s combined capability esm e.tai (fresh_connect_on id e.station e.enb_ue_id h)
  fresh_claimed _ s id e h = h

  fresh_status : {d : Draft} (cause : Option EmmCause) → IsFresh b d → IsFreshIf b (serving.status_protected cause d)
  unfolding serving.status_protected
  fresh_status cause h = at_some_if cause (λ c _. fresh_protect _ _ h) (some h)

  fresh_registered : {d : Draft} → IsFresh b d → IsFresh b (serving.registered d)
  unfolding serving.registered ended
  fresh_registered h = quiet (fresh_in Registered refl tt h) refl

  fresh_told_emm : {d : Draft} (m : Heard (List ℕ)) (s : Setting) (tai : Tai) → IsFresh b d
      → IsFreshIf b (serving.inner_emm m s tai d)
  unfolding serving.inner_emm serving.attach_completed serving.update_completed
  fresh_told_emm (heards.AttachComplete esm) s tai h =
      either_if _ (some (either _ (fresh_registered (quiet h refl)) (fresh_fall _ h))) (fresh_status _ h)
  fresh_told_emm heards.TrackingAreaUpdateComplete s tai h =
      let r = fresh_registered h in either_if _ (some (either _ (fresh_fall _ r) r)) (fresh_status _ h)
  fresh_told_emm (heards.TrackingAreaUpdateRequest combined) s tai h =
      either_if _ (fresh_update s tai combined false h) (fresh_status _ h)
  fresh_told_emm (heards.DetachRequest switch_off) s tai h = fresh_detach switch_off h
  fresh_told_emm heards.DetachAccept s tai h = either_if _ (some (fresh_wipe (fresh_release _ h))) (fresh_status _ h)
  fresh_told_emm heards.Unasked s tai h = some h
  fresh_told_emm (heards.Unreadable fault) s tai h = fresh_status _ h
  fresh_told_emm _ s tai h = fresh_status _ h

  fresh_reacted : {d : Draft} (r : Reaction (List ℕ)) (s : Setting) → IsFresh b d → IsFreshIf b (serving.reacted r s d)
  unfolding serving.reacted serving.information_came
  fresh_reacted reactions.Nothing s h = some h
  fresh_reacted {d} reactions.Informed s h = at_some_if d.solo.context (λ x _. fresh_accept s _ h) (some h)
  fresh_reacted (reactions.Answer octets) s h = fresh_protect _ octets h

  fresh_told : {d : Draft} (octets : List ℕ) (s : Setting) (tai : Tai) → IsFresh b d
      → IsFreshIf b (serving.inner_message octets s tai d)
  unfolding serving.inner_message serving.inner_esm
  fresh_told octets s tai h = either_if _ (fresh_reacted _ s h) (fresh_told_emm (heard octets) s tai h)

  fresh_told_by : {d : Draft} (r : Acceptance) (s : Setting) (x : Context) (tai : Tai) → d.solo.context ≡ Some x → IsHigh x r
      → IsFresh b d
      → IsFreshIf b (serving.inner_message_by r s x tai d)
  unfolding serving.inner_message_by
  fresh_told_by (Ok found) s x tai is high h = fresh_told found.1 s tai (fresh_took x found.0 is (high found refl) h)
  fresh_told_by (Err fault) s x tai is high h = some h

  -- ---- what ends a connection, and the path switch

  fresh_switched : {d : Draft} (m : UeMessage (List ℕ)) (x : Context) → d.solo.context ≡ Some x → IsFresh b d
      → IsFresh b (connected.switched m x d)
  unfolding connected.switched
  fresh_switched m x is h = fresh_emit m.station _ (quiet (fresh_radio x (connected.hopped x) is h) refl)

  fresh_path_switch : {d : Draft} (m : UeMessage (List ℕ)) → IsFresh b d → IsFresh b (connected.path_switch m d)
  unfolding connected.path_switch connected.not_switched
  fresh_path_switch {d} m h =
      let failed = λ (cause : Cause). fresh_emit m.station (path_switch_failure m.mme_ue_id m.enb_ue_id cause) h in
      either (not (connected.has_connection_id m d)) (failed _) (either (not (is_of_slot m.mme_ue_id)) (failed _)
      (either (is_registered d.solo.phase) (at_some d.solo.context (λ x is. fresh_switched m x is h) h) (failed _)))

  fresh_displaced : {d : Draft} (id : ℕ) → IsFresh b d → IsFresh b (connected.displaced id d)
  unfolding connected.displaced
  fresh_displaced {d} id h = at_some d.solo.connection (λ k _. either _ (fresh_lost h) h) h

  fresh_station_gone : {d : Draft} (station : ℕ) → IsFresh b d → IsFresh b (connected.station_gone station d)
  unfolding connected.station_gone connected.strike
  fresh_station_gone {d} station h =
      at_some d.solo.connection (λ k _. either _ (fresh_lost (quiet h refl)) (quiet h refl)) (quiet h refl)

  fresh_connections_gone : {d : Draft} (station : ℕ) (items : ToReset) → IsFresh b d
      → IsFresh b (connected.connections_gone station items d)
  unfolding connected.connections_gone
  fresh_connections_gone {d} station items h = at_some d.solo.connection (λ k _. either _ (fresh_lost h) h) h

  -- ---- paging, countdowns and a withdrawn subscription

  fresh_emit_each : (message : Pdu (List ℕ)) (es : List ℕ) (d : Draft) → IsFresh b d → IsFresh b (idle.emit_each message es d)
  fresh_emit_each message [] d h = h
  fresh_emit_each message (e ∷ es) d h = fresh_emit_each message es (emit e message None d) (fresh_emit e message h)

  fresh_page : {d : Draft} (s : Setting) (es : List ℕ) → IsFresh b d → IsFresh b (idle.page s es d)
  unfolding idle.page
  fresh_page {d} s es h = at_some d.solo.tmsi (λ t _. fresh_emit_each _ es d h) h

  fresh_data_waits : {d : Draft} (s : Setting) (stations : List StationState) → IsFresh b d
      → IsFresh b (idle.data_waits s stations d)
  unfolding idle.data_waits idle.paged
  fresh_data_waits s stations h = either _ (fresh_start _ _ (fresh_page s _ h)) h

  fresh_lowered : {d : Draft} → IsFresh b d → IsFresh b (idle.lowered d)
  unfolding idle.lowered
  fresh_lowered h = quiet h refl

  fresh_given_up : {d : Draft} (timer : NasTimer) → IsFresh b d → IsFresh b (idle.given_up timer d)
  unfolding idle.given_up ended
  fresh_given_up T3413 h = quiet h refl
  fresh_given_up T3422 h = fresh_fall _ h
  fresh_given_up T3450 h = fresh_fall _ h
  fresh_given_up T3460 h = fresh_fall _ h
  fresh_given_up T3489 h = fresh_fall _ h

  fresh_again : {d : Draft} (r : Repeat) (s : Setting) → IsFresh b d → IsFreshIf b (idle.again r s d)
  unfolding idle.again
  fresh_again (repeats.Nas Plain nas) s h = some (fresh_send nas h)
  fresh_again (repeats.Nas (Under header) nas) s h = fresh_protect header nas h
  fresh_again (repeats.Paging es) s h = some (fresh_page s es h)

  fresh_expired : {d : Draft} (c : Countdown) (s : Setting) → IsFresh b d → IsFreshIf b (idle.expired c s d)
  unfolding idle.expired idle.restarted
  fresh_expired {d} c s h =
      either_if _ (some (fresh_given_up _ h)) (at_some_if d.solo.repeat (λ r _. fresh_again r s (quiet h refl)) (some h))

  fresh_tick : {d : Draft} (s : Setting) → IsFresh b d → IsFreshIf b (idle.tick s d)
  unfolding idle.tick idle.procedure_ticks idle.reachable_ticks_out
  fresh_tick {d} s h =
      let l = fresh_lowered h in
      then (at_some_if (idle.lowered d).solo.procedure (λ c _. either_if _ (fresh_expired c s l) (some l)) (some l))
      (λ e f. at_some e.solo.reachable (λ n _. either _ (fresh_wipe f) f) f)

  fresh_detach_phone : {d : Draft} → IsFresh b d → IsFreshIf b (idle.detach_phone d)
  unfolding idle.detach_phone
  fresh_detach_phone h = then (fresh_protect _ _ (fresh_in Detaching refl tt h)) (λ e f. fresh_start _ _ f)

  fresh_dropped : {d : Draft} → IsFresh b d → IsFresh b (idle.dropped d)
  fresh_dropped h = fresh_wipe (fresh_release _ h)

  fresh_cancelled : {d : Draft} (phase : Phase) → IsFresh b d → IsFreshIf b (idle.cancelled phase d)
  unfolding idle.cancelled
  fresh_cancelled Registered h = either_if _ (fresh_detach_phone h) (some (fresh_wipe h))
  fresh_cancelled Updating h = fresh_detach_phone h
  fresh_cancelled Authenticating h = some (fresh_dropped h)
  fresh_cancelled SecurityMode h = some (fresh_dropped h)
  fresh_cancelled EsmInformation h = some (fresh_dropped h)
  fresh_cancelled Accepting h = some (fresh_dropped h)
  fresh_cancelled Deregistered h = some h
  fresh_cancelled Detaching h = some h

-- ---- messages by which a count is accepted

module _ (whole : WholeIsFresh) (short : ShortIsFresh) {b : Solo} where
  fresh_in_security_mode : {d : Draft} (s : Setting) (nas : List ℕ) → IsFresh b d → IsFreshIf b (attaching.in_security_mode s nas d)
  unfolding attaching.in_security_mode
  fresh_in_security_mode {d} s nas h =
      at_some_if d.solo.context (λ x is. fresh_secured_by _ s x nas is (λ found e. (whole _ _ _ _ found.0 found.1 e).0) h)
      (some (fresh_not_secured nas h))

  fresh_in_later : {d : Draft} (s : Setting) (tai : Tai) (nas : List ℕ) → IsFresh b d → IsFreshIf b (serving.in_later s tai nas d)
  unfolding serving.in_later
  fresh_in_later {d} s tai nas h =
      at_some_if d.solo.context (λ x is. fresh_told_by _ s x tai is (λ found e. (whole _ _ _ _ found.0 found.1 e).0) h) (some h)

  fresh_service : {d : Draft} (s : Setting) (m : Entry (List ℕ)) (octets : List ℕ) → IsFresh b d
      → IsFresh b (serving.service s m octets d)
  unfolding serving.service
  fresh_service {d} s m octets h =
      either _ (at_some d.solo.context (λ x is. fresh_served_by _ s x m is (λ count e. (short _ _ _ _ count e).0) h) (fresh_refuse s.slot m.station m.enb_ue_id _ h))
      (fresh_refuse s.slot m.station m.enb_ue_id _ h)

  fresh_initial_update : {d : Draft} (s : Setting) (m : Entry (List ℕ)) (combined : Bool) → IsFresh b d
      → IsFreshIf b (serving.initial_update s m combined d)
  unfolding serving.initial_update
  fresh_initial_update {d} s m combined h =
      either_if _
      (at_some_if d.solo.context (λ x is. fresh_updated_by _ s x m combined is (λ found e. (whole _ _ _ _ found.0 found.1 e).0) h)
      (some (fresh_refuse s.slot m.station m.enb_ue_id _ h))) (some (fresh_refuse s.slot m.station m.enb_ue_id _ h))

  fresh_initial_detach : {d : Draft} (s : Setting) (m : Entry (List ℕ)) (switch_off : Bool) → IsFresh b d
      → IsFreshIf b (serving.initial_detach s m switch_off d)
  unfolding serving.initial_detach
  fresh_initial_detach {d} s m switch_off h =
      either_if _ (some (fresh_detach_plainly switch_off (fresh_connect s.slot m.station m.enb_ue_id h)))
      (at_some_if d.solo.context (λ x is. fresh_detached_by _ s x m switch_off is (λ found e. (whole _ _ _ _ found.0 found.1 e).0) h)
      (some (fresh_turn_away s.slot m.station m.enb_ue_id h)))

  fresh_entered : {d : Draft} (heard : Heard (List ℕ)) (s : Setting) (m : Entry (List ℕ)) → IsFresh b d
      → IsFreshIf b (serving.entered heard s m d)
  unfolding serving.entered
  fresh_entered (heards.AttachRequest combined capability esm) s m h =
      some (fresh_attach s combined capability esm m.tai (fresh_connect s.slot m.station m.enb_ue_id h))
  fresh_entered (heards.ServiceRequest octets) s m h = some (fresh_service s m octets h)
  fresh_entered (heards.TrackingAreaUpdateRequest combined) s m h = fresh_initial_update s m combined h
  fresh_entered (heards.DetachRequest switch_off) s m h = fresh_initial_detach s m switch_off h
  fresh_entered _ s m h = some h

  fresh_uplink : {d : Draft} (phase : Phase) (s : Setting) (tai : Tai) (nas : List ℕ) → d.solo.phase ≡ phase → IsFresh b d
      → IsFreshIf b (serving.uplink phase s tai nas d)
  unfolding serving.uplink attaching.in_authenticating
  fresh_uplink Deregistered s tai nas is h = some h
  fresh_uplink Authenticating s tai nas is h = either_if _ (fresh_authenticating s _ is h) (some h)
  fresh_uplink SecurityMode s tai nas is h = fresh_in_security_mode s nas h
  fresh_uplink _ s tai nas is h = fresh_in_later s tai nas h

  fresh_on_connection : {d : Draft} (body : UeBody (List ℕ)) (s : Setting) → IsFresh b d
      → IsFreshIf b (messages.on_connection body s d)
  unfolding messages.on_connection
  fresh_on_connection {d} (bodies.Uplink nas tai) s h = fresh_uplink d.solo.phase s tai nas refl h
  fresh_on_connection (bodies.UeContextReleaseRequest cause) s h = some (fresh_fall _ h)
  fresh_on_connection bodies.InitialContextSetupFailure s h = some (fresh_fall _ h)
  fresh_on_connection _ s h = some h

  fresh_checked : {d : Draft} (s : Setting) (m : UeMessage (List ℕ)) → IsFresh b d → IsFreshIf b (messages.checked s m d)
  unfolding messages.checked connected.indicate
  fresh_checked s m h =
      either_if _ (some (fresh_emit m.station _ h)) (either_if _ (fresh_on_connection m.body s h) (some (fresh_emit m.station _ h)))

  fresh_message_of : {d : Draft} (body : UeBody (List ℕ)) (s : Setting) (m : UeMessage (List ℕ)) → IsFresh b d
      → IsFreshIf b (messages.message_of body s m d)
  unfolding messages.message_of
  fresh_message_of bodies.UeContextReleaseComplete s m h = some h
  fresh_message_of bodies.PathSwitch s m h = some (fresh_path_switch m h)
  fresh_message_of _ s m h = fresh_checked s m h

  fresh_row : {d : Draft} (s : Setting) (item : events.Item) → IsFresh b d → IsFreshIf b (steps.row s item d)
  unfolding steps.row serving.initial serving.claim
  fresh_row s events.Nothing h = some h
  fresh_row s (events.Initial m) h = fresh_entered _ s m h
  fresh_row s (events.Claim id m) h = some (fresh_claimed _ s id m h)
  fresh_row s (events.Message m) h = fresh_message_of m.body s m h
  fresh_row s (events.Displaced id) h = some (fresh_displaced id h)
  fresh_row s (events.StationGone station) h = some (fresh_station_gone station h)
  fresh_row s (events.ConnectionsGone station items) h = some (fresh_connections_gone station items h)
  fresh_row s events.Tick h = fresh_tick s h
  fresh_row s (events.Data stations) h = some (fresh_data_waits s stations h)
  fresh_row {d} s events.Cancel h = fresh_cancelled d.solo.phase h

  unless : {d : Draft} (o : Option Draft) → IsFreshIf b o → IsFresh b d → IsFresh b (unwrap_or o d)
  unless None f h = h
  unless (Some e) f h = f.fresh e refl

-- a step that has done nothing yet
fresh_untouched : (b : Solo) → IsFresh b (untouched b)
fresh_untouched b = record {
  onward = le_refl (next_place b.phase b.next_vector);
  used = λ begun. record { in_use = begun; sent = λ m a. a; accepted = λ m a. a };
}

-- each step is fresh
pub fresh_step : WholeIsFresh → ShortIsFresh → (s : Setting) (b : Solo) (item : events.Item) → IsFresh b (steps.solo_step s b item)
unfolding steps.solo_step
fresh_step whole short s b item =
    let u = fresh_untouched b in
    unless whole short _ (fresh_row whole short s item u) (fresh_wipe (fresh_fall _ u))
