-- What follows of many ticks: where no countdown ends, to pass n of them is to count down by n.
use Rattle.std.proofs.Common.{◌≡◌, ℕ, zero, suc, ◌+◌, ◌-◌, ◌<◌, ◌==◌, false, Option, Some, None, refl, sym, subst, ap, ◌∙◌, add-one, arith}
use Rattle.std.proofs.lemmas.Bool.Decides.{nat_tests}
use Rattle.mme_types.specs.Events.{Tick}
use Rattle.emm_state.specs.declared.setting.Setting.{Setting}
use Rattle.emm_state.specs.declared.solo.Countdown.{Countdown}
use Rattle.emm_state.specs.declared.solo.Repeat.{Repeat}
use Rattle.emm_state.specs.declared.solo.Solo.{Solo}
use Rattle.emm_state.specs.Actions.{untouched}
use Rattle.emm_state.specs.Taking.{vectors_spent}
use Rattle.emm_network.specs.Idle.{lowered, procedure_ticks, reachable_ticks_out, tick}
use Rattle.emm_machine.specs.Steps.{row, solo_step}
use Rattle.emm_machine.specs.Ticks.{AreAbove, AreTimed, IsAbove, IsGoing, IsRunning, IsTimed, both_less, countdowns, less, procedure_less, solo_aged, ticks_after}
use Rattle.emm_machine.specs.Words.{procedure_left}

abbrev counting : Option Countdown → Option ℕ → Solo → Solo
counting procedure reachable solo = record solo { procedure = procedure; reachable = reachable }

-- ---- one tick

not_last : (n : ℕ) → 1 < n → (n - 1 == 0) ≡ false
not_last n lt = grind (arith, nat_tests)

quiet_at : (s : Setting) (solo : Solo) (procedure : Option Countdown) (reachable : Option ℕ) → IsAbove 1 (procedure_left procedure)
    → IsAbove 1 reachable
    → solo_step s (counting procedure reachable solo) Tick
    ≡ untouched (counting (procedure_less 1 procedure) (less 1 reachable) solo)
unfolding solo_step row tick lowered procedure_ticks reachable_ticks_out
quiet_at s solo None None a b = refl
quiet_at s solo None (Some n) a b = rw (not_last n b) refl
quiet_at s solo (Some c) None a b = rw (not_last c.left a) refl
quiet_at s solo (Some c) (Some n) a b = rw (not_last c.left a, not_last n b) refl

-- where each countdown has more than one tick left, a tick sends and accepts nothing, and counts each down
pub quiet_tick : (s : Setting) (solo : Solo) → AreAbove 1 (countdowns solo) → solo_step s solo Tick ≡ untouched (solo_aged 1 solo)
unfolding countdowns solo_aged
quiet_tick s solo a = quiet_at s solo solo.procedure solo.reachable a.0 a.1

-- ---- many

less_less : (n m : ℕ) (o : Option ℕ) → less m (less n o) ≡ less (n + m) o
less_less n m None = refl
less_less n m (Some k) = ap Some (omega arith)

procedure_less_less : (n m : ℕ) (o : Option Countdown) → procedure_less m (procedure_less n o) ≡ procedure_less (n + m) o
procedure_less_less n m None = refl
procedure_less_less n m (Some c) = ap (λ k. Some (record c { left = k })) (omega arith)

aged_aged : (n m : ℕ) (solo : Solo) → solo_aged m (solo_aged n solo) ≡ solo_aged (n + m) solo
unfolding solo_aged
aged_aged n m solo =
    ap (λ (o : Option Countdown). counting o (less m (less n solo.reachable)) solo) (procedure_less_less n m solo.procedure)
    ∙ ap (λ (o : Option ℕ). counting (procedure_less (n + m) solo.procedure) o solo) (less_less n m solo.reachable)

none_less : (o : Option ℕ) → less 0 o ≡ o
none_less None = refl
none_less (Some n) = ap Some (omega arith)

procedure_none_less : (o : Option Countdown) → procedure_less 0 o ≡ o
procedure_none_less None = refl
procedure_none_less (Some c) = ap (λ k. Some (record c { left = k })) (omega arith)

aged_none : (solo : Solo) → solo_aged 0 solo ≡ solo
unfolding solo_aged
aged_none solo = ap (λ (o : Option Countdown). counting o (less 0 solo.reachable) solo) (procedure_none_less solo.procedure)
    ∙ ap (λ (o : Option ℕ). counting solo.procedure o solo) (none_less solo.reachable)

left_less : (n : ℕ) (o : Option Countdown) → procedure_left (procedure_less n o) ≡ less n (procedure_left o)
left_less n None = refl
left_less n (Some c) = refl

-- and so has each countdown n ticks less
pub countdowns_aged : (n : ℕ) (solo : Solo) → countdowns (solo_aged n solo) ≡ both_less n (countdowns solo)
unfolding countdowns solo_aged
countdowns_aged n solo = ap (λ (o : Option ℕ). (o, less n solo.reachable)) (left_less n solo.procedure)

above_less : (n : ℕ) (o : Option ℕ) → IsAbove (n + 1) o → IsAbove 1 (less n o)
above_less n None h = tt
above_less n (Some k) h = omega arith

above_fewer : (n : ℕ) (o : Option ℕ) → IsAbove (n + 1) o → IsAbove n o
above_fewer n None h = tt
above_fewer n (Some k) h = omega arith

-- where each countdown has more than n ticks left, n ticks count each down by n
pub ticks_are_aged : (s : Setting) (n : ℕ) (solo : Solo) → AreAbove n (countdowns solo) → ticks_after s n solo ≡ solo_aged n solo
unfolding ticks_after
ticks_are_aged s zero solo h = sym (aged_none solo)
ticks_are_aged s (suc n) solo h =
    let more : AreAbove (n + 1) (countdowns solo) = rw add-one h in
    let fewer : AreAbove n (countdowns solo) =
    (above_fewer n (countdowns solo).0 more.0, above_fewer n (countdowns solo).1 more.1) in
    let last : AreAbove 1 (countdowns (solo_aged n solo)) =
    rw countdowns_aged (above_less n (countdowns solo).0 more.0, above_less n (countdowns solo).1 more.1) in
    ap (λ x. (solo_step s x Tick).solo) (ticks_are_aged s n solo fewer) ∙ ap (λ d. d.solo) (quiet_tick s (solo_aged n solo) last)
    ∙ aged_aged n 1 solo ∙ ap (λ k. solo_aged k solo) (add-one n)

-- one tick more
pub ticks_more : (s : Setting) (n : ℕ) (solo : Solo) → ticks_after s (n + 1) solo ≡ (solo_step s (ticks_after s n solo) Tick).solo
unfolding ticks_after
ticks_more s n solo = rw add-one refl

countdowns_later : (s : Setting) (n : ℕ) (solo : Solo) → AreAbove n (countdowns solo)
    → countdowns (ticks_after s n solo) ≡ both_less n (countdowns solo)
countdowns_later s n solo h = ap countdowns (ticks_are_aged s n solo h) ∙ countdowns_aged n solo

above_more : (n : ℕ) (o : Option ℕ) → IsAbove n o → IsAbove 1 (less n o) → IsAbove (n + 1) o
above_more n None h k = tt
above_more n (Some m) h k = omega arith

-- where more than one tick is left after n ticks, more than n + 1 were left
pub above_later : (s : Setting) (n : ℕ) (solo : Solo) → AreAbove n (countdowns solo)
    → AreAbove 1 (countdowns (ticks_after s n solo)) → AreAbove (n + 1) (countdowns solo)
above_later s n solo h later =
    let k : AreAbove 1 (both_less n (countdowns solo)) = rw (countdowns_later s n solo h) at later in
    (above_more n (countdowns solo).0 h.0 k.0, above_more n (countdowns solo).1 h.1 k.1)

-- they spend no vector
pub spent_aged : (n : ℕ) (solo : Solo) → vectors_spent (solo_aged n solo) ≡ vectors_spent solo
unfolding solo_aged
spent_aged n solo = refl

-- ---- countdowns that run

going_timed : (procedure : Option Countdown) (repeat : Option Repeat) → IsGoing procedure repeat
    → IsTimed (procedure_left procedure)
going_timed None repeat h = tt
going_timed (Some c) repeat h = h.0

-- what runs is timed
pub running_timed : (solo : Solo) → IsRunning solo → AreTimed (countdowns solo)
unfolding countdowns
running_timed solo h = (going_timed solo.procedure solo.repeat h.0, h.1)

timed_above : (o : Option ℕ) → IsTimed o → IsAbove 0 o
timed_above None h = tt
timed_above (Some left) h = h.0

-- and has a tick left
pub running_above : (solo : Solo) → IsRunning solo → AreAbove 0 (countdowns solo)
running_above solo h =
    let both = running_timed solo h in (timed_above (countdowns solo).0 both.0, timed_above (countdowns solo).1 both.1)

going_less : (n : ℕ) (procedure : Option Countdown) (repeat : Option Repeat) → IsAbove n (procedure_left procedure)
    → IsGoing procedure repeat
    → IsGoing (procedure_less n procedure) repeat
going_less n None repeat above h = tt
going_less n (Some c) repeat above h = let most = h.0.1 in ((omega arith, omega arith), h.1)

timed_less : (n : ℕ) (o : Option ℕ) → IsAbove n o → IsTimed o → IsTimed (less n o)
timed_less n None above h = tt
timed_less n (Some left) above h = let most = h.1 in (omega arith, omega arith)

-- where each countdown has more than n ticks left, it runs on after n ticks
pub running_later : (s : Setting) (n : ℕ) (solo : Solo) → AreAbove n (countdowns solo) → IsRunning solo
    → IsRunning (ticks_after s n solo)
unfolding countdowns solo_aged
running_later s n solo above h =
    let aged : IsRunning (solo_aged n solo) =
    (going_less n solo.procedure solo.repeat above.0 h.0, timed_less n solo.reachable above.1 h.1) in
    subst IsRunning (sym (ticks_are_aged s n solo above)) aged
