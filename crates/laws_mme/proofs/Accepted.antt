-- What a step accepts is accepted under the context that stood before it.
use Rattle.std.proofs.Common.{◌≡◌, ℕ, ◌^◌, List, [], ◌∷◌, Option, Some, None, nat_lt, refl, sym, subst}
use Rattle.std.specs.Option.{option_map_or}
use Rattle.nas_messages.specs.declared.protection.SecurityHeader.{SecurityHeader}
use Rattle.s1ap_causes.specs.declared.cause.Cause.{Cause}
use Rattle.s1ap_pdus.specs.declared.pdu.Pdu.{Pdu}
use Rattle.mme_types.specs.declared.octets.Mark.{Mark}
use Rattle.mme_types.specs.Events.{Item}
use Rattle.emm_state.specs.declared.draft.Draft.{Draft}
use Rattle.emm_state.specs.declared.draft.Sealed.{Sealed}
use Rattle.emm_state.specs.declared.setting.Setting.{Setting}
use Rattle.emm_state.specs.declared.solo.Context.{Context}
use Rattle.emm_state.specs.declared.solo.NasTimer.{NasTimer}
use Rattle.emm_state.specs.declared.solo.Repeat.{Repeat}
use Rattle.emm_state.specs.declared.solo.Solo.{Solo}
use Rattle.emm_state.specs.Actions.{association_counted, connect, connect_on, disconnected, emit, ended, fall, fallen, is_at, is_registered, leave_old, lost, protect, protect_and_await, refuse, release, resting, seal, sealed_under, send, set_up, set_up_with, start, turn_away, untouched, wipe}
use Rattle.emm_machine.specs.Attaching as attaching
use Rattle.emm_machine.specs.Attaching.{counted_up, keyed, took}
use Rattle.emm_machine.specs.Connected as connected
use Rattle.emm_machine.specs.Idle as idle
use Rattle.emm_machine.specs.Serving as serving
use Rattle.emm_machine.specs.Steps as steps
use Rattle.laws_subscriber.specs.Choices.{Whenever, at_some, either, nothing, some, then}
use Rattle.laws_subscriber.specs.Keeps.{Keeps, Stage}
use Rattle.laws_subscriber.specs.Walk.{step_keeps}

-- nothing, or a pair of this context
abbrev pub AcceptedBy : Option Context → Option Mark → Type 0
AcceptedBy o None = Unit {0}
AcceptedBy None (Some m) = ⊥
AcceptedBy (Some x) (Some m) = m.place ≡ x.place

-- of a step under way from a state
record IsOwn (b : Solo) (d : Draft) : Type 0 where
  own : AcceptedBy b.context d.accepted

module _ {b : Solo} where
  own_emit : {d : Draft} (station : ℕ) (message : Pdu (List ℕ)) (under : Option Mark) → IsOwn b d → IsOwn b (emit station message under d)
  unfolding emit
  own_emit station message under h = record { own = h.own }

  own_send : {d : Draft} (nas : List ℕ) → IsOwn b d → IsOwn b (send nas d)
  unfolding send
  own_send {d} nas h = at_some (IsOwn b) d.solo.connection (λ k is. own_emit _ _ None h) (λ is. h)

  own_disconnected : {d : Draft} → IsOwn b d → IsOwn b (disconnected d)
  unfolding disconnected
  own_disconnected h = record { own = h.own }

  own_release : {d : Draft} (cause : Cause) → IsOwn b d → IsOwn b (release cause d)
  unfolding release
  own_release {d} cause h = at_some (IsOwn b) d.solo.connection (λ k is. own_disconnected (own_emit _ _ None h)) (λ is. h)

  own_leave_old : {d : Draft} (station enb_ue_id : ℕ) → IsOwn b d → IsOwn b (leave_old station enb_ue_id d)
  unfolding leave_old
  own_leave_old {d} station enb_ue_id h =
      at_some (IsOwn b) d.solo.connection (λ k is. either (IsOwn b) (is_at k station enb_ue_id) h (own_emit _ _ None h)) (λ is. h)

  own_connect_on : {d : Draft} (id station enb_ue_id : ℕ) → IsOwn b d → IsOwn b (connect_on id station enb_ue_id d)
  unfolding connect_on
  own_connect_on {d} id station enb_ue_id h =
      let left = own_leave_old station enb_ue_id h in record { own = left.own }

  own_counted : {d : Draft} → IsOwn b d → IsOwn b (association_counted d)
  unfolding association_counted
  own_counted h = record { own = h.own }

  own_connect : {d : Draft} (slot station enb_ue_id : ℕ) → IsOwn b d → IsOwn b (connect slot station enb_ue_id d)
  unfolding connect
  own_connect slot station enb_ue_id h = own_connect_on _ station enb_ue_id (own_counted h)

  own_turn_away : {d : Draft} (slot station enb_ue_id : ℕ) → IsOwn b d → IsOwn b (turn_away slot station enb_ue_id d)
  unfolding turn_away
  own_turn_away slot station enb_ue_id h = own_emit _ _ None (own_counted h)

  own_refuse : {d : Draft} (slot station enb_ue_id : ℕ) (nas : List ℕ) → IsOwn b d → IsOwn b (refuse slot station enb_ue_id nas d)
  unfolding refuse
  own_refuse slot station enb_ue_id nas h = own_emit _ _ None (own_emit _ _ None (own_counted h))

  own_wipe : {d : Draft} → IsOwn b d → IsOwn b (wipe d)
  unfolding wipe
  own_wipe h = record { own = h.own }

  own_resting : {d : Draft} → IsOwn b d → IsOwn b (resting d)
  unfolding resting ended
  own_resting h = record { own = h.own }

  own_fallen : {d : Draft} → IsOwn b d → IsOwn b (fallen d)
  own_fallen {d} h = either (IsOwn b) (is_registered d.solo.phase) (own_resting h) (own_wipe h)

  own_fall : {d : Draft} (cause : Cause) → IsOwn b d → IsOwn b (fall cause d)
  unfolding fall
  own_fall cause h = own_fallen (own_release cause h)

  own_lost : {d : Draft} → IsOwn b d → IsOwn b (lost d)
  unfolding lost
  own_lost h = own_fallen (own_disconnected h)

  own_start : {d : Draft} (timer : NasTimer) (repeat : Repeat) → IsOwn b d → IsOwn b (start timer repeat d)
  unfolding start
  own_start timer repeat h = record { own = h.own }

  sealed_at : (header : SecurityHeader) (nas : List ℕ) (d : Draft) (o : Option Context) → IsOwn b d
      → Whenever (λ (y : Sealed × Draft). IsOwn b y.1)
      (option_map_or (sealed_under header nas d) o (Some (record { form = []; under = None }, d)))
  sealed_at header nas d None h = some h
  sealed_at header nas d (Some x) h =
      either (Whenever (λ (y : Sealed × Draft). IsOwn b y.1)) (nat_lt x.security.down_next (2 ^ 24)) (some (record { own = h.own })) nothing

  own_seal : {d : Draft} (header : SecurityHeader) (nas : List ℕ) → IsOwn b d
      → Whenever (λ (y : Sealed × Draft). IsOwn b y.1) (seal header nas d)
  unfolding seal
  own_seal {d} header nas h = sealed_at header nas d d.solo.context h

  own_protect : {d : Draft} (header : SecurityHeader) (nas : List ℕ) → IsOwn b d → Whenever (IsOwn b) (protect header nas d)
  unfolding protect
  own_protect header nas h =
      then _ (own_seal header nas h) (λ x r. at_some (IsOwn b) x.1.solo.connection (λ k is. own_emit _ _ x.0.under r) (λ is. r))

  own_awaits : {d : Draft} (timer : NasTimer) (header : SecurityHeader) (nas : List ℕ) → IsOwn b d
      → Whenever (IsOwn b) (protect_and_await timer header nas d)
  own_awaits timer header nas h = then _ (own_protect header nas h) (λ e g. own_start timer _ g)

  own_set_up : {d : Draft} (s : Setting) (kenb : List ℕ) (nas : Option (List ℕ)) (under : Option Mark) → IsOwn b d
      → IsOwn b (set_up s kenb nas under d)
  unfolding set_up
  own_set_up {d} s kenb nas under h = at_some (IsOwn b) d.solo.connection (λ k is. own_emit _ _ under h) (λ is. h)

  own_set_up_with : {d : Draft} (s : Setting) (kenb nas : List ℕ) → IsOwn b d → Whenever (IsOwn b) (set_up_with s kenb nas d)
  unfolding set_up_with
  own_set_up_with s kenb nas h = then _ (own_seal _ nas h) (λ x r. own_set_up s kenb (Some x.0.form) x.0.under r)

  own_emit_each : (message : Pdu (List ℕ)) (es : List ℕ) (d : Draft) → IsOwn b d → IsOwn b (idle.emit_each message es d)
  own_emit_each message [] d h = h
  own_emit_each message (e ∷ es) d h = own_emit_each message es (emit e message None d) (own_emit e message None h)

  own_page : {d : Draft} (s : Setting) (es : List ℕ) → IsOwn b d → IsOwn b (idle.page s es d)
  unfolding idle.page
  own_page {d} s es h = at_some (IsOwn b) d.solo.tmsi (λ t is. own_emit_each _ es d h) (λ is. h)

  -- a message is accepted by the context
  own_took : (d : Draft) (x : Context) (count : ℕ) → b.context ≡ Some x → IsOwn b (took (counted_up x count) count d)
  unfolding took
  own_took d x count has = record {
    own = subst (λ (o : Option Context). AcceptedBy o (Some (record { place = x.place; count = count }))) (sym has) refl;
  }

  own_keyed : (d : Draft) (x : Context) (count : ℕ) → b.context ≡ Some x → IsOwn b (keyed (counted_up x count) count d)
  unfolding keyed took
  own_keyed d x count has = record {
    own = subst (λ (o : Option Context). AcceptedBy o (Some (record { place = x.place; count = count }))) (sym has) refl;
  }

module _ (s : Setting) (b : Solo) (item : Item) where
  abbrev P : Stage → Draft → Type 0
  P at d = IsOwn b d

  keeps : Keeps s b item P
  unfolding attaching.requesting attaching.asking attaching.challenged attaching.new_context attaching.activating attaching.given_tmsi serving.active serving.updating serving.registered connected.strike connected.switched idle.paged idle.lowered idle.restarted ended
  keeps = record {
    sends = λ at nas d may to tells h. own_send nas h;
    protects = λ at header nas d may tells h. own_protect header nas h;
    commands = λ v r h. own_awaits _ _ _ h;
    asks_information = λ d h. own_awaits _ _ _ h;
    accepts_update = λ grant d same h. own_awaits _ _ _ h;
    tells_detach = λ d h. own_awaits _ _ _ h;
    sets_up = λ x d has phase h. own_set_up s _ _ _ h;
    accepts_attach = λ x grant session d has same bearer h. then _ (own_set_up_with s _ _ h) (λ e g. own_start _ _ g);
    closes = λ at d may left h. h;
    forgets = λ at cause d may known h. own_wipe (own_release cause h);
    falls = λ at cause d may known h. own_fall cause h;
    loses = λ d h. own_lost h;
    drops = λ is none h. own_wipe h;
    spends = λ h. own_wipe (own_fall _ h);
    refuses = λ m nas is refuses h. own_refuse s.slot m.station m.enb_ue_id nas h;
    turns_away = λ m is h. own_turn_away s.slot m.station m.enb_ue_id h;
    emits = λ m message is may h. own_emit m.station message None h;
    switches = λ m x w h. own_emit m.station _ None (record { own = h.own });
    connects = λ m is h. own_connect s.slot m.station m.enb_ue_id h;
    connects_on = λ id m is h. own_connect_on id m.station m.enb_ue_id h;
    clears = λ combined capability esm tai d asks h. let w = own_wipe h in record { own = w.own };
    asks = λ combined capability esm tai d asks has h. record { own = h.own };
    challenges = λ at v d there takes h. own_start _ _ (own_send _ (record { own = h.own }));
    makes_context = λ v r h. record { own = h.own };
    takes = λ headers x count inner a h. own_took (untouched b) x count a.has;
    keys = λ x count inner phase a told h. own_keyed (untouched b) x count a.has;
    takes_on = λ m x count inner d is has a had h. own_took d x count had;
    serves = λ d registered phase h. record { own = h.own };
    keys_on = λ x count octets d has phase had a h. own_keyed d x count had;
    activates = λ at d may on h. record { own = h.own };
    waits = λ d h. record { own = h.own };
    updates = λ at tai initial d may h. record { own = h.own };
    attaches = λ esm d phase h. record { own = h.own };
    updated = λ d phase h. record { own = h.own };
    detaches = λ is registered linked h. record { own = h.own };
    pages = λ stations is may h. own_start _ _ (own_page s _ h);
    strikes = λ station is h. record { own = h.own };
    lowers = λ is h. record { own = h.own };
    restarts = λ c is h. record { own = h.own };
    pages_again = λ c es is was h. own_page s es h;
    goes_on = λ d is h. h;
    gives_up = λ is h. record { own = h.own };
    fails = λ cause is known h. own_fall cause h;
    passes = λ d is h. h;
    times_out = λ n d is out h. own_wipe h;
  }

pub accepted_by_own : (s : Setting) (b : Solo) (item : Item) → AcceptedBy b.context (steps.solo_step s b item).accepted
accepted_by_own s b item = (step_keeps s b item (keeps s b item) (record { own = tt })).own
