-- What many ticks do: where they don't end T3470, it has that many ticks less.
use Rattle.std.proofs.Common.{◌≡◌, ℕ, zero, suc, ◌+◌, ◌<◌, true, false, Some, [], refl, sym, ◌∙◌, ap, add-one, arith}
use Rattle.std.specs.Prelude.{nat_lt}
use Rattle.std.proofs.lemmas.Bool.Decides.{nat_tests}
use Rattle.stranger_machine.specs.declared.state.Stranger.{Stranger}
use Rattle.stranger_machine.specs.declared.state.Stranger.TheVariants.{Waiting, Held}
use Rattle.stranger_machine.specs.declared.turn.Notice.TheVariants.{Tick}
use Rattle.stranger_machine.specs.Machine.{notes, ticks, waits}
use Rattle.stranger_machine.specs.Ticks.{IsAsleep, ends_in, is_ending, stranger_aged, stranger_ticked}
use Rattle.stranger_machine.specs.Turns.{Turn, stays}

-- where the next tick doesn't end T3470, nothing is sent at it, and a tick less is left
pub quiet_notice : (id : ℕ) (s : Stranger) → is_ending s ≡ false → notes id (Some s) Tick ≡ stays (Some (stranger_aged 1 s)) []
unfolding notes ticks waits
quiet_notice id (Held slot) h = refl
quiet_notice id (Waiting k left repeats) h =
    let more : nat_lt 1 left ≡ true = grind (arith, nat_tests) in
    rw more refl

pub aged_none : (s : Stranger) → stranger_aged 0 s ≡ s
aged_none (Held slot) = refl
aged_none (Waiting k left repeats) = ap (λ n. Waiting k n repeats) (omega arith)

pub aged_again : (n m : ℕ) (s : Stranger) → stranger_aged m (stranger_aged n s) ≡ stranger_aged (n + m) s
aged_again n m (Held slot) = refl
aged_again n m (Waiting k left repeats) = ap (λ i. Waiting k i repeats) (omega arith)

-- one that sleeps a tick longer isn't ended by it
pub asleep_longer : (n : ℕ) (s : Stranger) → IsAsleep (n + 1) s → is_ending (stranger_aged n s) ≡ false
asleep_longer n (Held slot) h = refl
asleep_longer n (Waiting k left repeats) h = let lt : n + 1 < ends_in left = h in grind (arith, nat_tests)

pub asleep_fewer : (n : ℕ) (s : Stranger) → IsAsleep (n + 1) s → IsAsleep n s
asleep_fewer n (Held slot) h = tt
asleep_fewer n (Waiting k left repeats) h = let lt : n + 1 < ends_in left = h in omega arith

-- n ticks that don't end T3470 are n ticks less
pub ticks_are_aged : (id n : ℕ) (s : Stranger) → IsAsleep n s → stranger_ticked id n (Some s) ≡ Some (stranger_aged n s)
unfolding stranger_ticked
ticks_are_aged id zero s h = ap (λ x. Some x) (sym (aged_none s))
ticks_are_aged id (suc n) s h =
    let more : IsAsleep (n + 1) s = rw add-one h in
    ap (λ o. (notes id o Tick).stranger) (ticks_are_aged id n s (asleep_fewer n s more))
    ∙ ap (λ (t : Turn). t.stranger) (quiet_notice id (stranger_aged n s) (asleep_longer n s more))
    ∙ ap (λ x. Some x) (aged_again n 1 s) ∙ ap (λ i. Some (stranger_aged i s)) (add-one n)
