-- A procedure goes on while fewer ticks have passed than are due.
use Rattle.std.proofs.Common.{◌≡◌, ℕ, zero, suc, ◌+◌, ◌-◌, ◌*◌, ◌^◌, ◌<◌, ◌≤◌, true, false, cond, List, [], ◌∷◌, Option, Some, None, unwrap_or, refl, sym, ◌∙◌, ap, subst, true≢false, arith}
use Rattle.std.specs.Prelude.{◌==◌, nat_lt}
use Rattle.std.specs.Option.{option_map_or}
use Rattle.std.proofs.lemmas.Bool.Decides.{nat_tests}
use Rattle.nas_messages.specs.declared.protection.SecurityHeader.{SecurityHeader}
use Rattle.mme_types.specs.Events.{Tick}
use Rattle.mme_signalling.specs.Pdus.{downlink}
use Rattle.emm_state.specs.declared.draft.Draft.{Draft}
use Rattle.emm_state.specs.declared.draft.Sealed.{Sealed}
use Rattle.emm_state.specs.declared.setting.Setting.{Setting}
use Rattle.emm_state.specs.declared.solo.Context.{Context}
use Rattle.emm_state.specs.declared.solo.Countdown.{Countdown}
use Rattle.emm_state.specs.declared.solo.NasTimer.{NasTimer}
use Rattle.emm_state.specs.declared.solo.NasTimer.TheVariants.{T3413, T3422, T3450, T3460, T3489}
use Rattle.emm_state.specs.declared.solo.Phase.{Phase}
use Rattle.emm_state.specs.declared.solo.Phase.TheVariants.{Deregistered, Authenticating, SecurityMode, EsmInformation, Accepting, Updating, Registered, Detaching}
use Rattle.emm_state.specs.declared.solo.Protection.{Protection}
use Rattle.emm_state.specs.declared.solo.Protection.TheVariants.{Plain, Under}
use Rattle.emm_state.specs.declared.solo.Repeat.{Repeat}
use Rattle.emm_state.specs.declared.solo.Repeat.TheVariants as repeats
use Rattle.emm_state.specs.declared.solo.Solo.{Solo}
use Rattle.emm_state.specs.Actions.{emit, protect, seal, sealed_under, send, untouched, wipe}
use Rattle.emm_state.specs.Does.{◌>>=◌}
use Rattle.emm_state.specs.Timers.{ticks_of}
use Rattle.emm_machine.specs.Idle as idle
use Rattle.emm_machine.specs.Steps.{row, solo_step, spent}
use Rattle.emm_machine.specs.Ticks.{ticks_after}
use Rattle.laws_subscriber.specs.Clocked.{IsClocked, IsClockedIn, IsCounting, IsUnderWay, StaysClocked, pages}
use Rattle.laws_subscriber.specs.Ends.{is_under_way, ticks_due}
use Rattle.laws_subscriber.specs.Choices.{at_some, either_by}
use Rattle.laws_mme.specs.Lasting.{HasCounts, LastsUntilDue}

-- ---- what a tick leaves

-- the phase is the same, one tick less is due, and there are counts for what may be sent again
record GoesOn (phase : Phase) (due : ℕ) (x : Solo) : Type 0 where
  same : x.phase ≡ phase
  due_is : ticks_due x.procedure + 1 ≡ due
  counts : HasCounts x.context x.procedure

-- the same of a step that may be stopped
record WentOn (phase : Phase) (due : ℕ) (o : Option Draft) : Type 0 where
  draft : Draft
  is : o ≡ Some draft
  on : GoesOn phase due draft.solo
  unreachable : draft.solo.reachable ≡ None

-- ---- the message is sent again

due_again : (t : NasTimer) (n : ℕ) → 0 < n → ticks_of t + (n - 1) * ticks_of t + 1 ≡ 1 + n * ticks_of t
due_again T3413 n more = omega (arith, more)
due_again T3422 n more = omega (arith, more)
due_again T3450 n more = omega (arith, more)
due_again T3460 n more = omega (arith, more)
due_again T3489 n more = omega (arith, more)

-- a message leaves the state
send_solo : (nas : List ℕ) (d : Draft) → (send nas d).solo ≡ d.solo
unfolding send emit
send_solo nas d = at_some (λ (e : Draft). e.solo ≡ d.solo) d.solo.connection (λ k is. refl) (λ is. refl)

-- the countdown after its message was sent again, once less
abbrev next_round : Countdown → Countdown
next_round c = record { timer = c.timer; left = ticks_of c.timer; repeats = c.repeats - 1 }

-- a tick less leaves the counts
same_counts : (o : Option Context) (c : Countdown) → HasCounts o (Some c) → HasCounts o (Some (idle.lower c))
same_counts None c h = tt
same_counts (Some x) c h = h

fewer_counts : (o : Option Context) (c : Countdown) → HasCounts o (Some c) → HasCounts o (Some (next_round c))
fewer_counts None c h = tt
fewer_counts (Some x) c h = omega (arith, h)

module _ (s : Setting) (c : Countdown) (more : 0 < c.repeats) (d : Draft) (ready : d.solo.procedure ≡ Some (next_round c))
    (unreachable : d.solo.reachable ≡ None) (counts : HasCounts d.solo.context (Some c)) where
  abbrev Due : ℕ
  Due = 1 + c.repeats * ticks_of c.timer

  -- what leaves all but the context
  on_with : (o : Option Context) (x : Solo) → x ≡ record d.solo { context = o } → HasCounts o (Some (next_round c))
      → GoesOn d.solo.phase Due x
  on_with o x is h = record {
    same = ap (λ (y : Solo). y.phase) is;
    due_is = ap (λ (y : Solo). ticks_due y.procedure + 1) is ∙ ap (λ (p : Option Countdown). ticks_due p + 1) ready
        ∙ due_again c.timer c.repeats more;
    counts = subst (λ (y : Solo). HasCounts y.context y.procedure) (sym is) (subst (HasCounts o) (sym ready) h);
  }

  went_with : (o : Option Context) (e : Draft) → e.solo ≡ record d.solo { context = o } → HasCounts o (Some (next_round c))
      → WentOn d.solo.phase Due (Some e)
  went_with o e is h = record {
    draft = e;
    is = refl;
    on = on_with o e.solo is h;
    unreachable = ap (λ (y : Solo). y.reachable) is ∙ unreachable;
  }

  sent_plain : (nas : List ℕ) → WentOn d.solo.phase Due (Some (send nas d))
  sent_plain nas = went_with d.solo.context (send nas d) (send_solo nas d) (fewer_counts d.solo.context c counts)

  -- what is sealed is sent, and leaves the state
  told_solo : (y : Sealed × Draft)
      → (option_map_or (λ k. emit k.station (downlink k y.0.form) y.0.under y.1) y.1.solo.connection y.1).solo ≡ y.1.solo
  unfolding emit
  told_solo y = at_some (λ (e : Draft). e.solo ≡ y.1.solo) y.1.solo.connection (λ k is. refl) (λ is. refl)

  abbrev tell : Option (Sealed × Draft) → Option Draft
  tell o = o >>= λ y. Some (option_map_or (λ k. emit k.station (downlink k y.0.form) y.0.under y.1) y.1.solo.connection y.1)

  below : (down most : ℕ) → nat_lt down most ≡ false → most ≤ down
  below down most e = grind (arith, nat_tests)

  sent_sealed : (header : SecurityHeader) (nas : List ℕ) (o : Option Context) → d.solo.context ≡ o
      → WentOn d.solo.phase Due (tell (option_map_or (sealed_under header nas d) o (Some (record { form = []; under = None }, d))))
  sent_sealed header nas None has =
      went_with d.solo.context _ (told_solo (record { form = []; under = None }, d)) (fewer_counts d.solo.context c counts)
  sent_sealed header nas (Some x) has =
      let left : x.security.down_next + c.repeats ≤ 2 ^ 24 = subst (λ (o : Option Context). HasCounts o (Some c)) has counts in
      either_by (λ (o : Option (Sealed × Draft)). WentOn d.solo.phase Due (tell o)) (nat_lt x.security.down_next (2 ^ 24))
      (λ yes. went_with _ _ (told_solo _) (omega (arith, left, more)))
      (λ no. let full = below x.security.down_next (2 ^ 24) no in absurd (omega (arith, full, left, more)))

  sent_again : (p : Protection) (nas : List ℕ) → WentOn d.solo.phase Due (idle.again (repeats.Nas p nas) s d)
  unfolding idle.again protect seal
  sent_again Plain nas = sent_plain nas
  sent_again (Under header) nas = sent_sealed header nas d.solo.context refl

-- ---- a tick

-- a procedure is under way, with this countdown and this message
abbrev during : Countdown → Protection → List ℕ → Solo → Solo
during c p nas x = record x { procedure = Some c; repeat = Some (repeats.Nas p nas); reachable = None }

less_due : (left rest : ℕ) → 0 < left → left - 1 + rest + 1 ≡ left + rest
less_due left rest more = omega (arith, more)

is_zero : (n : ℕ) → (n == 0) ≡ true → n ≡ 0
is_zero n e = grind (arith, nat_tests)

above_zero : (n : ℕ) → (n == 0) ≡ false → 0 < n
above_zero n e = grind (arith, nat_tests)

last_one : (left : ℕ) → 0 < left → left - 1 ≡ 0 → left ≡ 1
last_one left more none = omega (arith, more, none)

over_now : (t : NasTimer) (left n : ℕ) → left ≡ 1 → n ≡ 0 → 1 < left + n * ticks_of t → ⊥
over_now T3413 left n one none more = absurd (omega (arith, one, none, more))
over_now T3422 left n one none more = absurd (omega (arith, one, none, more))
over_now T3450 left n one none more = absurd (omega (arith, one, none, more))
over_now T3460 left n one none more = absurd (omega (arith, one, none, more))
over_now T3489 left n one none more = absurd (omega (arith, one, none, more))

module _ (s : Setting) (c : Countdown) (p : Protection) (nas : List ℕ) (x : Solo) (some_left : 0 < c.left)
    (more_due : 1 < ticks_due (Some c)) (counts : HasCounts x.context (Some c)) where
  abbrev low : Draft
  low = idle.lowered (untouched (during c p nas x))

  expired_on : c.left - 1 ≡ 0 → WentOn x.phase (ticks_due (Some c)) (idle.expired (idle.lower c) s low)
  unfolding idle.expired idle.restarted idle.lowered
  expired_on last =
      let one = last_one c.left some_left last in
      either_by (WentOn x.phase (ticks_due (Some c))) (c.repeats == 0)
      (λ none. absurd (over_now c.timer c.left c.repeats one (is_zero c.repeats none) more_due))
      (λ more.
      subst (λ (n : ℕ). WentOn x.phase (n + c.repeats * ticks_of c.timer) (idle.again (repeats.Nas p nas) s (idle.restarted (idle.lower c) low)))
      (sym one)
      (sent_again s c (above_zero c.repeats more) (idle.restarted (idle.lower c) low) refl refl counts p nas))

  procedure_on : WentOn x.phase (ticks_due (Some c)) (idle.procedure_ticks s low)
  unfolding idle.procedure_ticks idle.lowered
  procedure_on =
      either_by (WentOn x.phase (ticks_due (Some c))) (c.left - 1 == 0)
      (λ none. expired_on (is_zero (c.left - 1) none))
      (λ more. record {
        draft = low;
        is = refl;
        on = record { same = refl; due_is = less_due c.left (c.repeats * ticks_of c.timer) some_left; counts = same_counts x.context c counts };
        unreachable = refl;
      })

-- the reachable countdown doesn't run
out_on : (phase : Phase) (due : ℕ) (e : Draft) (o : Option ℕ) → o ≡ None → GoesOn phase due e.solo
    → GoesOn phase due (option_map_or (λ n. cond (n == 0) (wipe e) e) o e).solo
out_on phase due e None is h = h
out_on phase due e (Some n) is h = absurd (cc is)

step_on : (s : Setting) (x : Solo) (phase : Phase) (due : ℕ) (o : Option Draft) → WentOn phase due o
    → GoesOn phase due (unwrap_or (o >>= λ e. Some (idle.reachable_ticks_out e)) (spent x)).solo
unfolding idle.reachable_ticks_out
step_on s x phase due o w =
    subst (λ (q : Option Draft). GoesOn phase due (unwrap_or (q >>= λ e. Some (idle.reachable_ticks_out e)) (spent x)).solo) (sym w.is)
    (out_on phase due w.draft w.draft.solo.reachable w.unreachable w.on)

tick_during : (s : Setting) (c : Countdown) (p : Protection) (nas : List ℕ) (x : Solo) → 0 < c.left → 1 < ticks_due (Some c)
    → HasCounts x.context (Some c) → GoesOn x.phase (ticks_due (Some c)) (solo_step s (during c p nas x) Tick).solo
unfolding solo_step row idle.tick
tick_during s c p nas x some_left more_due counts =
    step_on s (during c p nas x) x.phase (ticks_due (Some c)) _ (procedure_on s c p nas x some_left more_due counts)

-- ---- a phase that is under way

-- with its countdown and the NAS message that is sent again
record IsDuring (x : Solo) : Type 0 where
  countdown : Countdown
  protection : Protection
  nas : List ℕ
  procedure : x.procedure ≡ Some countdown
  repeat : x.repeat ≡ Some (repeats.Nas protection nas)
  reachable : x.reachable ≡ None
  left : 0 < countdown.left

counting : (timer : NasTimer) (x : Solo) (procedure : Option Countdown) (repeat : Option Repeat) → pages timer ≡ false
    → x.procedure ≡ procedure → x.repeat ≡ repeat → IsCounting timer procedure repeat → x.reachable ≡ None → IsDuring x
counting timer x None repeat none is again h reachable = absurd h
counting timer x (Some c) None none is again h reachable = absurd h.4
counting timer x (Some c) (Some (repeats.Nas p nas)) none is again h reachable = record {
  countdown = c;
  protection = p;
  nas = nas;
  procedure = is;
  repeat = again;
  reachable = reachable;
  left = h.1;
}
counting timer x (Some c) (Some (repeats.Paging es)) none is again h reachable = absurd (true≢false (h.4 ∙ none))

under_way : (x : Solo) (timer : NasTimer) → pages timer ≡ false → IsUnderWay timer x.connection x.procedure x.repeat x.reachable
    → IsDuring x
under_way x timer none h = counting timer x x.procedure x.repeat none refl refl h.1 h.2

is_during : (x : Solo) (phase : Phase) → is_under_way phase ≡ true → IsClockedIn phase x.connection x.procedure x.repeat x.reachable
    → IsDuring x
is_during x Deregistered on h = absurd (cc on)
is_during x Authenticating on h = under_way x T3460 refl h
is_during x SecurityMode on h = under_way x T3460 refl h
is_during x EsmInformation on h = under_way x T3489 refl h
is_during x Accepting on h = under_way x T3450 refl h
is_during x Updating on h = under_way x T3450 refl h
is_during x Registered on h = absurd (cc on)
is_during x Detaching on h = under_way x T3422 refl h

during_is : (x : Solo) (h : IsDuring x) → x ≡ during h.countdown h.protection h.nas x
during_is x h =
    ap (λ (c : Option Countdown). record x { procedure = c }) h.procedure
    ∙ ap (λ (r : Option Repeat). record x { procedure = Some h.countdown; repeat = r }) h.repeat
    ∙ ap (λ (n : Option ℕ). record x {
      procedure = Some h.countdown;
      repeat = Some (repeats.Nas h.protection h.nas);
      reachable = n;
    }) h.reachable

tick_on : (s : Setting) (x : Solo) → IsClocked x → is_under_way x.phase ≡ true → HasCounts x.context x.procedure
    → 1 < ticks_due x.procedure → GoesOn x.phase (ticks_due x.procedure) (solo_step s x Tick).solo
tick_on s x clocked on counts more =
    let h = is_during x x.phase on clocked in
    let goes = tick_during s h.countdown h.protection h.nas x h.left (subst (λ (p : Option Countdown). 1 < ticks_due p) h.procedure more)
    (subst (HasCounts x.context) h.procedure counts) in
    subst (λ (p : Option Countdown). GoesOn x.phase (ticks_due p) (solo_step s x Tick).solo) (sym h.procedure)
    (subst (λ (y : Solo). GoesOn x.phase (ticks_due (Some h.countdown)) (solo_step s y Tick).solo) (sym (during_is x h)) goes)

-- ---- many ticks

record IsOn (solo : Solo) (n : ℕ) (x : Solo) : Type 0 where
  same : x.phase ≡ solo.phase
  clocked : IsClocked x
  due : ticks_due x.procedure + n ≡ ticks_due solo.procedure
  counts : HasCounts x.context x.procedure

module _ (clocked : StaysClocked) (s : Setting) (solo : Solo) (on : is_under_way solo.phase ≡ true) where
  one_more : (n : ℕ) (x : Solo) → n + 1 < ticks_due solo.procedure → IsOn solo n x → IsOn solo (n + 1) (solo_step s x Tick).solo
  one_more n x less h =
      let due = h.due in
      let goes = tick_on s x h.clocked (ap is_under_way h.same ∙ on) h.counts (omega (arith, due, less)) in
      let now = goes.due_is in
      record {
        same = goes.same ∙ h.same;
        clocked = clocked s x (Tick ∷ []) h.clocked;
        due = omega (arith, now, due);
        counts = goes.counts;
      }

  on_after : (n : ℕ) → n < ticks_due solo.procedure → IsOn solo 0 solo → IsOn solo n (ticks_after s n solo)
  unfolding ticks_after
  on_after zero less h = h
  on_after (suc n) less h =
      let same : n + 1 ≡ suc n = omega arith in
      subst (λ (i : ℕ). IsOn solo i (ticks_after s (suc n) solo)) same
      (one_more n (ticks_after s n solo) (omega (arith, less)) (on_after n (omega (arith, less)) h))

pub lasts_until_due : StaysClocked → LastsUntilDue
lasts_until_due stays s solo n clocked on counts less =
    (on_after stays s solo on n less (record { same = refl; clocked = clocked; due = omega arith; counts = counts })).same
