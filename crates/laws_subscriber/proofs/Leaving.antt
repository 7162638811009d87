-- A message without a right MAC leaves a registered phone as it is.
use Rattle.std.proofs.Common.{◌≡◌, ℕ, Bool, true, false, not, List, [], ◌∷◌, Option, Some, None, Result, Ok, Err, is_ok, unwrap_or, inl, inr, refl, sym, subst, ◌∙◌, true≢false}
use Rattle.std.proofs.lemmas.Option.{same_Some}
use Rattle.identity_slots.specs.Ids.{is_of_slot}
use Rattle.nas_security.specs.declared.fault.SecurityFault.{SecurityFault}
use Rattle.nas_security.specs.Accepting.{Acceptance, short_accepted}
use Rattle.s1ap_causes.specs.declared.cause.Cause.{Cause}
use Rattle.s1ap_elements.specs.declared.phone.Tai.{Tai}
use Rattle.s1ap_pdus.specs.declared.pdu.Pdu.{Pdu}
use Rattle.mme_types.specs.declared.event.Entry.{Entry}
use Rattle.mme_types.specs.declared.event.UeBody.{UeBody}
use Rattle.mme_types.specs.declared.event.UeBody.TheVariants as bodies
use Rattle.mme_types.specs.declared.event.UeMessage.{UeMessage}
use Rattle.mme_types.specs.declared.stations.StationState.{StationState}
use Rattle.mme_types.specs.Events as events
use Rattle.mme_types.specs.Listed.{ToReset}
use Rattle.mme_signalling.specs.declared.heard.Heard.{Heard}
use Rattle.mme_signalling.specs.declared.heard.Heard.TheVariants as heards
use Rattle.mme_signalling.specs.Hearing.{heard, initial_octets}
use Rattle.mme_signalling.specs.Pdus.{path_switch_failure}
use Rattle.emm_state.specs.declared.draft.Draft.{Draft}
use Rattle.emm_state.specs.declared.setting.Setting.{Setting}
use Rattle.emm_state.specs.declared.solo.Context.{Context}
use Rattle.emm_state.specs.declared.solo.NasTimer.{NasTimer}
use Rattle.emm_state.specs.declared.solo.Phase.{Phase}
use Rattle.emm_state.specs.declared.solo.Phase.TheVariants.{Deregistered, Updating, Registered}
use Rattle.emm_state.specs.declared.solo.Repeat.{Repeat}
use Rattle.emm_state.specs.declared.solo.Solo.{Solo}
use Rattle.emm_state.specs.Phases as phases
use Rattle.emm_state.specs.Actions.{association_counted, disconnected, emit, ended, fall, fallen, is_registered, lost, mac_of, refuse, release, resting, start, turn_away, untouched}
use Rattle.emm_machine.specs.Connected as connected
use Rattle.emm_machine.specs.Messages as messages
use Rattle.emm_machine.specs.Idle as idle
use Rattle.emm_machine.specs.Serving as serving
use Rattle.emm_machine.specs.Serving.{accepted_by_context}
use Rattle.emm_machine.specs.Steps as steps
use Rattle.laws_subscriber.specs.Unproved.{MayMoveOn, StaysRegistered, UnprovedLeaves, begins_attach, is_attach_request, is_no_message, is_path_switch, is_path_switch_body, is_proved_body, is_proved_entry, is_proved_message}
use Rattle.laws_subscriber.specs.Choices.{at_some, either, either_by}

-- ---- what stays

-- the registration stays, and the context as it is
record Keeps (x : Context) (b : Solo) (d : Draft) : Type 0 where
  stays : StaysRegistered b d.solo
  context : d.solo.context ≡ Some x

-- the same, but for a path switch, where the radio keys may move on
record Leaves (x : Context) (b : Solo) (path : Bool) (d : Draft) : Type 0 where
  stays : StaysRegistered b d.solo
  moves : MayMoveOn x d.solo.context
  same : path ≡ false → d.solo.context ≡ Some x

-- no count is spent
record Within (Q : Draft → Type 0) (o : Option Draft) : Type 0 where
  draft : Draft
  is : o ≡ Some draft
  holds : Q draft

here : {Q : Draft → Type 0} {d : Draft} → Q d → Within Q (Some d)
here {d = d} h = record { draft = d; is = refl; holds = h }

unless : {Q : Draft → Type 0} (o : Option Draft) (e : Draft) → Within Q o → Q (unwrap_or o e)
unless {Q} o e w = subst (λ (p : Option Draft). Q (unwrap_or p e)) (sym w.is) w.holds

not_deregistered : (phase : Phase) → is_registered phase ≡ true → phases.is Deregistered phase ≡ true → ⊥
not_deregistered Deregistered r e = true≢false (sym r)
not_deregistered _ r e = true≢false (sym e)

module _ {x : Context} {b : Solo} where
  leaves : {d : Draft} (path : Bool) → Keeps x b d → Leaves x b path d
  leaves path h = record { stays = h.stays; moves = inl h.context; same = λ e. h.context }

  within : {o : Option Draft} (path : Bool) → Within (Keeps x b) o → Within (Leaves x b path) o
  within path w = record { draft = w.draft; is = w.is; holds = leaves path w.holds }

  -- ---- actions

  keeps_emit : {d : Draft} (station : ℕ) (message : Pdu (List ℕ)) → Keeps x b d → Keeps x b (emit station message None d)
  unfolding emit
  keeps_emit station message h = record { stays = h.stays; context = h.context }

  keeps_disconnected : {d : Draft} → Keeps x b d → Keeps x b (disconnected d)
  unfolding disconnected
  keeps_disconnected h = record {
    stays = record { registered = h.stays.registered; bearer = h.stays.bearer; tmsi = h.stays.tmsi; next_vector = h.stays.next_vector; tai = h.stays.tai };
    context = h.context;
  }

  keeps_release : {d : Draft} (cause : Cause) → Keeps x b d → Keeps x b (release cause d)
  unfolding release
  keeps_release {d} cause h =
      at_some (Keeps x b) d.solo.connection (λ k is. keeps_disconnected (keeps_emit k.station _ h)) (λ is. h)

  keeps_counted : {d : Draft} → Keeps x b d → Keeps x b (association_counted d)
  unfolding association_counted
  keeps_counted h = record {
    stays = record { registered = h.stays.registered; bearer = h.stays.bearer; tmsi = h.stays.tmsi; next_vector = h.stays.next_vector; tai = h.stays.tai };
    context = h.context;
  }

  keeps_turn_away : {d : Draft} (slot station enb_ue_id : ℕ) → Keeps x b d → Keeps x b (turn_away slot station enb_ue_id d)
  unfolding turn_away
  keeps_turn_away slot station enb_ue_id h = keeps_emit station _ (keeps_counted h)

  keeps_refuse : {d : Draft} (slot station enb_ue_id : ℕ) (nas : List ℕ) → Keeps x b d
      → Keeps x b (refuse slot station enb_ue_id nas d)
  unfolding refuse
  keeps_refuse slot station enb_ue_id nas h = keeps_emit station _ (keeps_emit station _ (keeps_counted h))

  keeps_resting : {d : Draft} → Keeps x b d → Keeps x b (resting d)
  unfolding resting ended
  keeps_resting h = record {
    stays = record { registered = refl; bearer = h.stays.bearer; tmsi = h.stays.tmsi; next_vector = h.stays.next_vector; tai = h.stays.tai };
    context = h.context;
  }

  keeps_fallen : {d : Draft} → Keeps x b d → Keeps x b (fallen d)
  keeps_fallen {d} h =
      either_by (Keeps x b) (is_registered d.solo.phase) (λ t. keeps_resting h)
      (λ t. absurd (true≢false (sym h.stays.registered ∙ t)))

  keeps_fall : {d : Draft} (cause : Cause) → Keeps x b d → Keeps x b (fall cause d)
  unfolding fall
  keeps_fall cause h = keeps_fallen (keeps_release cause h)

  keeps_lost : {d : Draft} → Keeps x b d → Keeps x b (lost d)
  unfolding lost
  keeps_lost h = keeps_fallen (keeps_disconnected h)

  -- ---- INITIAL UE MESSAGEs

  keeps_served_by : {d : Draft} (r : Result ℕ SecurityFault) (s : Setting) (y : Context) (m : Entry (List ℕ)) → is_ok r ≡ false
      → Keeps x b d
      → Keeps x b (serving.served_by r s y m d)
  unfolding serving.served_by
  keeps_served_by (Ok count) s y m e h = absurd (cc)
  keeps_served_by (Err fault) s y m e h = keeps_refuse s.slot m.station m.enb_ue_id _ h

  keeps_service : {d : Draft} (s : Setting) (m : Entry (List ℕ)) (octets : List ℕ)
      → is_ok (short_accepted (mac_of x) x.security.up_last x.security.ksi octets) ≡ false
      → Keeps x b d → Keeps x b (serving.service s m octets d)
  unfolding serving.service
  keeps_service {d} s m octets e h =
      either (Keeps x b) (is_registered d.solo.phase)
      (at_some (Keeps x b) d.solo.context
      (λ y is. keeps_served_by _ s y m
      (subst (λ (z : Context). is_ok (short_accepted (mac_of z) z.security.up_last z.security.ksi octets) ≡ false) (same_Some x y (sym h.context ∙ is)) e) h)
      (λ is. keeps_refuse s.slot m.station m.enb_ue_id _ h))
      (keeps_refuse s.slot m.station m.enb_ue_id _ h)

  keeps_updated_by : {d : Draft} (r : Acceptance) (s : Setting) (y : Context) (m : Entry (List ℕ)) (combined : Bool)
      → is_ok r ≡ false → Keeps x b d
      → Within (Keeps x b) (serving.updated_by r s y m combined d)
  unfolding serving.updated_by
  keeps_updated_by (Ok found) s y m combined e h = absurd (cc)
  keeps_updated_by (Err fault) s y m combined e h = here (keeps_refuse s.slot m.station m.enb_ue_id _ h)

  keeps_initial_update : {d : Draft} (s : Setting) (m : Entry (List ℕ)) (combined : Bool)
      → is_ok (accepted_by_context x m.nas) ≡ false → Keeps x b d
      → Within (Keeps x b) (serving.initial_update s m combined d)
  unfolding serving.initial_update
  keeps_initial_update {d} s m combined e h =
      either (Within (Keeps x b)) (is_registered d.solo.phase)
      (at_some (Within (Keeps x b)) d.solo.context
      (λ y is. keeps_updated_by _ s y m combined (subst (λ (z : Context). is_ok (accepted_by_context z m.nas) ≡ false) (same_Some x y (sym h.context ∙ is)) e) h)
      (λ is. here (keeps_refuse s.slot m.station m.enb_ue_id _ h)))
      (here (keeps_refuse s.slot m.station m.enb_ue_id _ h))

  keeps_detached_by : {d : Draft} (r : Acceptance) (s : Setting) (y : Context) (m : Entry (List ℕ)) (switch_off : Bool)
      → is_ok r ≡ false → Keeps x b d
      → Within (Keeps x b) (serving.detached_by r s y m switch_off d)
  unfolding serving.detached_by
  keeps_detached_by (Ok found) s y m switch_off e h = absurd (cc)
  keeps_detached_by (Err fault) s y m switch_off e h = here (keeps_turn_away s.slot m.station m.enb_ue_id h)

  keeps_initial_detach : {d : Draft} (s : Setting) (m : Entry (List ℕ)) (switch_off : Bool)
      → is_ok (accepted_by_context x m.nas) ≡ false → Keeps x b d
      → Within (Keeps x b) (serving.initial_detach s m switch_off d)
  unfolding serving.initial_detach
  keeps_initial_detach {d} s m switch_off e h =
      either_by (Within (Keeps x b)) (phases.is Deregistered d.solo.phase)
      (λ t. absurd (not_deregistered d.solo.phase h.stays.registered t))
      (λ t. at_some (Within (Keeps x b)) d.solo.context
      (λ y is. keeps_detached_by _ s y m switch_off (subst (λ (z : Context). is_ok (accepted_by_context z m.nas) ≡ false) (same_Some x y (sym h.context ∙ is)) e) h)
      (λ is. here (keeps_turn_away s.slot m.station m.enb_ue_id h)))

  keeps_entered : {d : Draft} (m : Heard (List ℕ)) (s : Setting) (e : Entry (List ℕ)) → is_proved_entry x e.nas m ≡ false
      → is_attach_request m ≡ false → Keeps x b d
      → Within (Keeps x b) (serving.entered m s e d)
  unfolding serving.entered
  keeps_entered (heards.AttachRequest combined capability esm) s e p a h = absurd (cc)
  keeps_entered (heards.ServiceRequest octets) s e p a h = here (keeps_service s e octets p h)
  keeps_entered (heards.TrackingAreaUpdateRequest combined) s e p a h = keeps_initial_update s e combined p h
  keeps_entered (heards.DetachRequest switch_off) s e p a h = keeps_initial_detach s e switch_off p h
  keeps_entered _ s e p a h = here h

  keeps_claimed : {d : Draft} (m : Heard (List ℕ)) (s : Setting) (id : ℕ) (e : Entry (List ℕ)) → is_attach_request m ≡ false
      → Keeps x b d → Keeps x b (serving.claimed m s id e d)
  unfolding serving.claimed
  keeps_claimed (heards.AttachRequest combined capability esm) s id e a h = absurd (cc)
  keeps_claimed _ s id e a h = h

  -- ---- messages on an association

  keeps_inner_message_by : {d : Draft} (r : Acceptance) (s : Setting) (y : Context) (tai : Tai) → is_ok r ≡ false → Keeps x b d
      → Within (Keeps x b) (serving.inner_message_by r s y tai d)
  unfolding serving.inner_message_by
  keeps_inner_message_by (Ok found) s y tai e h = absurd (cc)
  keeps_inner_message_by (Err fault) s y tai e h = here h

  keeps_in_later : {d : Draft} (s : Setting) (tai : Tai) (nas : List ℕ) → is_ok (accepted_by_context x nas) ≡ false → Keeps x b d
      → Within (Keeps x b) (serving.in_later s tai nas d)
  unfolding serving.in_later
  keeps_in_later {d} s tai nas e h =
      at_some (Within (Keeps x b)) d.solo.context
      (λ y is. keeps_inner_message_by _ s y tai (subst (λ (z : Context). is_ok (accepted_by_context z nas) ≡ false) (same_Some x y (sym h.context ∙ is)) e) h)
      (λ is. here h)

  keeps_uplink : {d : Draft} (phase : Phase) (s : Setting) (tai : Tai) (nas : List ℕ) → is_registered phase ≡ true
      → is_ok (accepted_by_context x nas) ≡ false → Keeps x b d
      → Within (Keeps x b) (serving.uplink phase s tai nas d)
  unfolding serving.uplink
  keeps_uplink Updating s tai nas r e h = keeps_in_later s tai nas e h
  keeps_uplink Registered s tai nas r e h = keeps_in_later s tai nas e h
  keeps_uplink _ s tai nas r e h = absurd (cc)

  keeps_on_connection : {d : Draft} (body : UeBody (List ℕ)) (s : Setting) → is_proved_body x body ≡ false → Keeps x b d
      → Within (Keeps x b) (messages.on_connection body s d)
  unfolding messages.on_connection
  keeps_on_connection {d} (bodies.Uplink nas tai) s e h = keeps_uplink d.solo.phase s tai nas h.stays.registered e h
  keeps_on_connection (bodies.UeContextReleaseRequest cause) s e h = here (keeps_fall _ h)
  keeps_on_connection bodies.InitialContextSetupFailure s e h = here (keeps_fall _ h)
  keeps_on_connection _ s e h = here h

  keeps_indicate : {d : Draft} (cause : Cause) (m : UeMessage (List ℕ)) → Keeps x b d → Keeps x b (connected.indicate cause m d)
  unfolding connected.indicate
  keeps_indicate cause m h = keeps_emit m.station _ h

  keeps_checked : {d : Draft} (s : Setting) (m : UeMessage (List ℕ)) → is_proved_body x m.body ≡ false → Keeps x b d
      → Within (Keeps x b) (messages.checked s m d)
  unfolding messages.checked
  keeps_checked s m e h =
      either (Within (Keeps x b)) _ (here (keeps_indicate _ m h))
      (either (Within (Keeps x b)) _ (keeps_on_connection m.body s e h) (here (keeps_indicate _ m h)))

  leaves_switched : {d : Draft} (m : UeMessage (List ℕ)) → Keeps x b d → Leaves x b true (connected.switched m x d)
  unfolding connected.switched emit
  leaves_switched m h = record {
    stays = record { registered = h.stays.registered; bearer = h.stays.bearer; tmsi = h.stays.tmsi; next_vector = h.stays.next_vector; tai = h.stays.tai };
    moves = inr refl;
    same = λ e. absurd (true≢false e);
  }

  leaves_path_switch : {d : Draft} (m : UeMessage (List ℕ)) → Keeps x b d → Leaves x b true (connected.path_switch m d)
  unfolding connected.path_switch connected.not_switched
  leaves_path_switch {d} m h =
      let failed = λ (cause : Cause). leaves true (keeps_emit m.station (path_switch_failure m.mme_ue_id m.enb_ue_id cause) h) in
      either (Leaves x b true) (not (connected.has_connection_id m d)) (failed _)
      (either (Leaves x b true) (not (is_of_slot m.mme_ue_id)) (failed _)
      (either (Leaves x b true) (is_registered d.solo.phase)
      (at_some (Leaves x b true) d.solo.context
      (λ y is. subst (λ (z : Context). Leaves x b true (connected.switched m z d)) (same_Some x y (sym h.context ∙ is)) (leaves_switched m h)) (λ is. leaves true h))
      (failed _)))

  leaves_message_of : {d : Draft} (body : UeBody (List ℕ)) (s : Setting) (m : UeMessage (List ℕ)) → is_proved_body x m.body ≡ false
      → Keeps x b d
      → Within (Leaves x b (is_path_switch_body body)) (messages.message_of body s m d)
  unfolding messages.message_of
  leaves_message_of bodies.UeContextReleaseComplete s m e h = here (leaves false h)
  leaves_message_of bodies.PathSwitch s m e h = here (leaves_path_switch m h)
  leaves_message_of _ s m e h = within false (keeps_checked s m e h)

  -- ---- what ends a connection without a message, and downlink data

  keeps_displaced : {d : Draft} (id : ℕ) → Keeps x b d → Keeps x b (connected.displaced id d)
  unfolding connected.displaced
  keeps_displaced {d} id h = at_some (Keeps x b) d.solo.connection (λ k is. either (Keeps x b) _ (keeps_lost h) h) (λ is. h)

  keeps_strike : {d : Draft} (station : ℕ) → Keeps x b d → Keeps x b (connected.strike station d)
  unfolding connected.strike
  keeps_strike station h = record {
    stays = record { registered = h.stays.registered; bearer = h.stays.bearer; tmsi = h.stays.tmsi; next_vector = h.stays.next_vector; tai = h.stays.tai };
    context = h.context;
  }

  keeps_station_gone : {d : Draft} (station : ℕ) → Keeps x b d → Keeps x b (connected.station_gone station d)
  unfolding connected.station_gone
  keeps_station_gone {d} station h =
      let r = keeps_strike station h in
      at_some (Keeps x b) (connected.strike station d).solo.connection (λ k is. either (Keeps x b) _ (keeps_lost r) r) (λ is. r)

  keeps_connections_gone : {d : Draft} (station : ℕ) (items : ToReset) → Keeps x b d
      → Keeps x b (connected.connections_gone station items d)
  unfolding connected.connections_gone
  keeps_connections_gone {d} station items h =
      at_some (Keeps x b) d.solo.connection (λ k is. either (Keeps x b) _ (keeps_lost h) h) (λ is. h)

  keeps_start : {d : Draft} (timer : NasTimer) (repeat : Repeat) → Keeps x b d → Keeps x b (start timer repeat d)
  unfolding start
  keeps_start timer repeat h = record {
    stays = record { registered = h.stays.registered; bearer = h.stays.bearer; tmsi = h.stays.tmsi; next_vector = h.stays.next_vector; tai = h.stays.tai };
    context = h.context;
  }

  keeps_emit_each : (message : Pdu (List ℕ)) (es : List ℕ) (d : Draft) → Keeps x b d → Keeps x b (idle.emit_each message es d)
  keeps_emit_each message [] d h = h
  keeps_emit_each message (e ∷ es) d h = keeps_emit_each message es (emit e message None d) (keeps_emit e message h)

  keeps_page : {d : Draft} (s : Setting) (es : List ℕ) → Keeps x b d → Keeps x b (idle.page s es d)
  unfolding idle.page
  keeps_page {d} s es h = at_some (Keeps x b) d.solo.tmsi (λ t is. keeps_emit_each _ es d h) (λ is. h)

  keeps_data_waits : {d : Draft} (s : Setting) (stations : List StationState) → Keeps x b d
      → Keeps x b (idle.data_waits s stations d)
  unfolding idle.data_waits idle.paged
  keeps_data_waits s stations h = either (Keeps x b) _ (keeps_start _ _ (keeps_page s _ h)) h

-- ---- the step

untouched_keeps : (b : Solo) (x : Context) → is_registered b.phase ≡ true → b.context ≡ Some x → Keeps x b (untouched b)
untouched_keeps b x r is =
    record { stays = record { registered = r; bearer = refl; tmsi = refl; next_vector = refl; tai = refl }; context = is }

leaves_row : (s : Setting) (b : Solo) (x : Context) (item : events.Item) → is_registered b.phase ≡ true → b.context ≡ Some x
    → is_proved_message x item ≡ false → begins_attach item ≡ false → is_no_message item ≡ false
    → Within (Leaves x b (is_path_switch item)) (steps.row s item (untouched b))
unfolding steps.row serving.initial serving.claim
leaves_row s b x events.Nothing r is p a n = here (leaves false (untouched_keeps b x r is))
leaves_row s b x (events.Initial m) r is p a n =
    within false (keeps_entered (heard (initial_octets m.nas)) s m p a (untouched_keeps b x r is))
leaves_row s b x (events.Claim id m) r is p a n =
    here (leaves false (keeps_claimed (heard (initial_octets m.nas)) s id m a (untouched_keeps b x r is)))
leaves_row s b x (events.Message m) r is p a n = leaves_message_of m.body s m p (untouched_keeps b x r is)
leaves_row s b x (events.Displaced id) r is p a n = here (leaves false (keeps_displaced id (untouched_keeps b x r is)))
leaves_row s b x (events.StationGone station) r is p a n =
    here (leaves false (keeps_station_gone station (untouched_keeps b x r is)))
leaves_row s b x (events.ConnectionsGone station items) r is p a n =
    here (leaves false (keeps_connections_gone station items (untouched_keeps b x r is)))
leaves_row s b x events.Tick r is p a n = absurd (cc)
leaves_row s b x (events.Data stations) r is p a n = here (leaves false (keeps_data_waits s stations (untouched_keeps b x r is)))
leaves_row s b x events.Cancel r is p a n = absurd (cc)

pub unproved_leaves : UnprovedLeaves
unfolding steps.solo_step
unproved_leaves s solo x item r is p a n =
    let f =
    unless {Q = Leaves x solo (is_path_switch item)} (steps.row s item (untouched solo)) _ (leaves_row s solo x item r is p a n) in
    (f.stays, f.moves, f.same)
