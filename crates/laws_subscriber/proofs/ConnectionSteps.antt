-- The connection after a step: what each action makes of it, from stage to stage.
use Rattle.std.proofs.Common.{◌≡◌, ℕ, inl, inr, true, false, List, [], ◌∷◌, Option, Some, None, is_some, refl, sym, ◌∙◌, ap, subst}
use Rattle.std.specs.Prelude.{◌==◌}
use Rattle.std.specs.Option.{option_map_or}
use Rattle.std.proofs.lemmas.Bool.{eqb-true}
use Rattle.s1ap_pdus.specs.declared.pdu.Pdu.{Pdu}
use Rattle.mme_types.specs.declared.connection.Connection.{Connection}
use Rattle.mme_types.specs.declared.event.UeMessage.{UeMessage}
use Rattle.mme_types.specs.Events as events
use Rattle.emm_state.specs.declared.solo.Context.{Context}
use Rattle.emm_state.specs.declared.draft.Draft.{Draft}
use Rattle.emm_state.specs.declared.setting.Setting.{Setting}
use Rattle.emm_state.specs.declared.solo.Solo.{Solo}
use Rattle.emm_state.specs.Actions.{emit, ended, untouched, wipe}
use Rattle.emm_machine.specs.Attaching as attaching
use Rattle.emm_machine.specs.Connected as connected
use Rattle.emm_machine.specs.Idle as idle
use Rattle.emm_machine.specs.Serving as serving
use Rattle.laws_subscriber.specs.Comes.{ComesSo, ConnectionsComeSo, ends}
use Rattle.laws_subscriber.specs.Choices.{at_some, then}
use Rattle.laws_subscriber.specs.Keeps.{Begun, Ended, ForAttach, ForSynch, IsLeft, IsSwitch, Keeps, Known, MayAccept, Stage, TakesVector, Told, WithInformation, WithKeys, may_close, may_update}
use Rattle.laws_subscriber.specs.Proof.{uplink_nas}
use Rattle.laws_subscriber.specs.Walk.{step_keeps}
use Rattle.laws_subscriber.proofs.Standing.{Stands, stands_connect, stands_connect_on, stands_emit, stands_fall, stands_forgotten, stands_lost, stands_protect, stands_refuse, stands_send, stands_set_up, stands_set_up_with, stands_start, stands_turn_away, stands_wipe}

with_id : (o : Option Connection) (id : ℕ) → option_map_or (λ k. k.id == id) o false ≡ true
    → (old : Connection) × (o ≡ Some old) × (old.id ≡ id)
with_id None id e = absurd (cc)
with_id (Some old) id e = (old, refl, eqb-true old.id id e)

none_in : (o : Option Connection) → is_some o ≡ false → o ≡ None
none_in None e = refl
none_in (Some k) e = absurd (cc)

-- NAS leaves connections
carried_leaves : (item : events.Item) (nas : List ℕ) → uplink_nas item ≡ Some nas → (k : Connection) → ends item k ≡ false
carried_leaves (events.Message m) nas is k = refl
carried_leaves _ nas is k = absurd (cc is)

-- paging leaves it
stands_emit_each : {Q : Option Connection → Type 0} (message : Pdu (List ℕ)) (es : List ℕ) (d : Draft) → Stands Q d
    → Stands Q (idle.emit_each message es d)
stands_emit_each message [] d h = h
stands_emit_each message (e ∷ es) d h = stands_emit_each message es (emit e message None d) (stands_emit e message None h)

stands_page : {Q : Option Connection → Type 0} {d : Draft} (s : Setting) (es : List ℕ) → Stands Q d → Stands Q (idle.page s es d)
unfolding idle.page
stands_page {Q} {d} s es h = at_some (Stands Q) d.solo.tmsi (λ t is. stands_emit_each _ es d h) (λ is. h)

module _ (s : Setting) (solo : Solo) (item : events.Item) where
  -- the connection is the one that was found; past the first stage it comes so
  abbrev At : Stage → Option Connection → Type 0
  At Begun c = c ≡ solo.connection
  At _ c = ComesSo s solo item c

  abbrev P : Stage → Draft → Type 0
  P at d = Stands (At at) d

  left_so : (o : Option Connection) → o ≡ solo.connection → ((k : Connection) → o ≡ Some k → ends item k ≡ false)
      → ComesSo s solo item o
  left_so None is left = tt
  left_so (Some k) is left = inl (sym is, left k refl)

  leaves : {d : Draft} → IsLeft item d.solo → P Begun d → Stands (ComesSo s solo item) d
  leaves {d} left h = record { at = left_so d.solo.connection h.at left }

  -- where the item's kind leaves connections
  leaves_by : {d : Draft} {i : events.Item} → item ≡ i → ((k : Connection) → ends i k ≡ false) → P Begun d
      → Stands (ComesSo s solo item) d
  leaves_by is never h = leaves (λ k there. ap (λ (i : events.Item). ends i k) is ∙ never k) h

  carried : {d : Draft} (nas : List ℕ) → uplink_nas item ≡ Some nas → P Begun d → Stands (ComesSo s solo item) d
  carried nas is h = leaves (λ k there. carried_leaves item nas is k) h

  closes : {d : Draft} (at : Stage) → may_close at ≡ true → IsLeft item d.solo → P at d → P Ended d
  closes Begun may left h = leaves left h
  closes Told may left h = h
  closes _ may left h = absurd (cc may)

  accepts : {d : Draft} (at : Stage) → MayAccept solo item at d → P at d → Stands (ComesSo s solo item) d
  accepts {d} at (WithKeys is) h = subst (λ (a : Stage). Stands (At a) d) is h
  accepts {d} at (WithInformation x count octets is a later now came) h = subst (λ (a : Stage). Stands (At a) d) is h

  updates : {d : Draft} (at : Stage) → may_update at ≡ true → P at d → Stands (ComesSo s solo item) d
  updates Known may h = h
  updates Told may h = h
  updates _ may h = absurd (cc may)

  challenges : {d : Draft} (at : Stage) → TakesVector solo item at d.solo → P at d → Stands (ComesSo s solo item) d
  challenges {d} at (ForAttach is next combined esm request has) h = subst (λ (a : Stage). Stands (At a) d) is h
  challenges {d} at (ForSynch nas is same phase on plain told) h =
      carried nas on.carried (subst (λ (a : Stage). Stands (At a) d) is h)

  new : {i : events.Item} (k : Connection) → item ≡ i → ComesSo s solo i (Some k) → ComesSo s solo item (Some k)
  new k is comes = subst (λ (i : events.Item). ComesSo s solo i (Some k)) (sym is) comes

  switches : (m : UeMessage (List ℕ)) (x : Context) → IsSwitch solo item m x → ComesSo s solo item (Some (connected.connection_of m))
  switches m x w =
      let old = with_id solo.connection m.mme_ue_id w.has in
      new (connected.connection_of m) w.is (inr (inr (inr (old.0, old.1, old.2, w.own, w.body, refl))))

  keeps : Keeps s solo item P
  unfolding attaching.requesting attaching.asking attaching.challenged attaching.new_context attaching.took attaching.keyed attaching.activating attaching.given_tmsi serving.active serving.updating serving.registered connected.switched connected.strike idle.paged idle.lowered idle.restarted ended wipe
  keeps = record {
    sends = λ at nas d says may tells h. stands_send nas h;
    protects = λ at header nas d may tells h. stands_protect header nas h;
    commands = λ v r h. then _ (stands_protect _ _ h) (λ e f. stands_start _ _ f);
    asks_information = λ d h. then _ (stands_protect _ _ h) (λ e f. stands_start _ _ f);
    accepts_update = λ grant d same h. then _ (stands_protect _ _ h) (λ e f. stands_start _ _ f);
    tells_detach = λ d h. then _ (stands_protect _ _ h) (λ e f. stands_start _ _ f);
    sets_up = λ x d has phase h. stands_set_up s _ None None h;
    accepts_attach = λ x grant session d has same bearer h. then _ (stands_set_up_with s _ _ h) (λ e f. stands_start _ _ f);
    closes = λ at d may left h. closes at may left h;
    forgets = λ at cause d may known h. stands_forgotten tt d cause;
    falls = λ at cause d may known h. stands_fall tt d cause;
    loses = λ d h. stands_lost tt d;
    drops = λ is none h. record { at = subst (ComesSo s solo item) (sym (none_in solo.connection none)) tt };
    spends = λ h. stands_wipe (stands_fall tt (untouched solo) _);
    refuses = λ m nas is tells h. stands_refuse _ _ _ _ (leaves_by is (λ k. refl) h);
    turns_away = λ m is h. stands_turn_away _ _ _ (leaves_by is (λ k. refl) h);
    emits = λ m message is may h. stands_emit _ _ None (leaves_by is (λ k. refl) h);
    switches = λ m x w h. stands_emit _ _ None (record { at = switches m x w });
    connects = λ m is h. stands_connect (untouched solo) s.slot m.station m.enb_ue_id (new _ is (inr (inl refl)));
    connects_on = λ id m is h. stands_connect_on (untouched solo) id m.station m.enb_ue_id (new _ is (inr (inr (inl refl))));
    clears = λ combined capability esm tai d asks h. record { at = (stands_wipe h).at };
    asks = λ combined capability esm tai d asks has h. record { at = h.at };
    challenges = λ at v d there takes h. let c = challenges at takes h in stands_start _ _ (stands_send _ (record { at = c.at }));
    makes_context = λ v r h. record { at = (carried r.nas r.on.carried h).at };
    takes = λ headers x count inner a h. record { at = (carried a.nas a.on.carried h).at };
    keys = λ x count inner phase a told h. record { at = (carried a.nas a.on.carried h).at };
    takes_on = λ m x count inner d is has a had h. record { at = h.at };
    serves = λ d registered phase h. record { at = h.at };
    keys_on = λ x count octets d has phase had a h. record { at = h.at };
    activates = λ at d may on h. record { at = (accepts at may h).at };
    waits = λ d h. record { at = h.at };
    updates = λ at tai initial d may h. record { at = (updates at may.stage h).at };
    attaches = λ esm d phase h. record { at = h.at };
    updated = λ d phase h. record { at = h.at };
    detaches = λ is registered linked h. record { at = (leaves_by is (λ k. refl) h).at };
    pages = λ stations is may h. stands_start _ _ (stands_page s _ (leaves_by is (λ k. refl) h));
    strikes = λ station is h. record { at = h.at };
    lowers = λ is h. record { at = (leaves_by is (λ k. refl) h).at };
    restarts = λ c is h. record { at = h.at };
    pages_again = λ c es is was h. stands_page s es h;
    goes_on = λ d is h. h;
    gives_up = λ is h. record { at = h.at };
    fails = λ cause is known h. stands_fall tt _ cause;
    passes = λ d is h. h;
    times_out = λ n d is out h. stands_wipe h;
  }

pub connections_come_so : ConnectionsComeSo
connections_come_so s solo item = (step_keeps s solo item (keeps s solo item) (record { at = refl })).at
