-- A stranger waits while fewer ticks have passed than are due.
use Rattle.std.proofs.Common.{◌≡◌, ℕ, zero, suc, ◌+◌, ◌<◌, ◌≤◌, true, false, Option, Some, None, nat_lt, refl, sym, subst, true≢false, arith}
use Rattle.std.proofs.lemmas.Bool.Decides.{nat_tests}
use Rattle.stranger_machine.specs.declared.state.KeptEntry.{KeptEntry}
use Rattle.stranger_machine.specs.declared.state.Stranger.{Stranger}
use Rattle.stranger_machine.specs.declared.state.Stranger.TheVariants.{Waiting, Held}
use Rattle.stranger_machine.specs.declared.turn.Notice.TheVariants.{Tick}
use Rattle.stranger_machine.specs.Machine as machine
use Rattle.stranger_machine.specs.Machine.{identity_repeats, identity_ticks}
use Rattle.stranger_machine.specs.Ticks.{stranger_ticked}
use Rattle.stranger_machine.specs.Turns.{Turn}
use Rattle.laws_subscriber.specs.Strangers.{IsTimed, is_waiting, stranger_due}
use Rattle.laws_subscriber.specs.Choices.{either_by}
use Rattle.laws_mme.specs.Lasting.{WaitsUntilDue}

-- it waits, is timed, and m ticks are due, of which n have passed
record IsWaitingOn (m n : ℕ) (s : Option Stranger) : Type 0 where
  timed : IsTimed s
  waits : is_waiting s ≡ true
  due : stranger_due s + n ≡ m

more_left : (left : ℕ) → nat_lt 1 left ≡ true → 1 < left
more_left left e = grind (arith, nat_tests)

last_left : (left : ℕ) → nat_lt 1 left ≡ false → left ≤ 1
last_left left e = grind (arith, nat_tests)

more_repeats : (repeats : ℕ) → nat_lt 0 repeats ≡ true → 0 < repeats
more_repeats repeats e = grind (arith, nat_tests)

none_repeats : (repeats : ℕ) → nat_lt 0 repeats ≡ false → repeats ≡ 0
none_repeats repeats e = grind (arith, nat_tests)

waits_on : (m n id : ℕ) (k : KeptEntry) (left repeats : ℕ) → n + 1 < m → IsWaitingOn m n (Some (Waiting k left repeats))
    → IsWaitingOn m (n + 1) (machine.waits id k left repeats).stranger
unfolding machine.waits
waits_on m n id k left repeats less h =
    let some_left = h.timed.0 in
    let most = h.timed.1 in
    let few = h.timed.2 in
    let due = h.due in
    either_by (λ (t : Turn). IsWaitingOn m (n + 1) t.stranger) (nat_lt 1 left)
    (λ e. let more = more_left left e in
    record { timed = (omega (arith, more), omega (arith, most), few); waits = refl; due = omega (arith, more, due) })
    (λ e. let last = last_left left e in either_by (λ (t : Turn). IsWaitingOn m (n + 1) t.stranger) (nat_lt 0 repeats)
    (λ f. let again = more_repeats repeats f in
    record { timed = (omega arith, omega arith, omega (arith, few)); waits = refl; due = omega (arith, again, last, some_left, due) })
    (λ f. let none = none_repeats repeats f in absurd (omega (arith, none, last, due, less))))

tick_on : (m n id : ℕ) (s : Option Stranger) → n + 1 < m → IsWaitingOn m n s → IsWaitingOn m (n + 1) (machine.notes id s Tick).stranger
unfolding machine.notes machine.ticks
tick_on m n id None less h = absurd (true≢false (sym h.waits))
tick_on m n id (Some (Held slot)) less h = absurd (true≢false (sym h.waits))
tick_on m n id (Some (Waiting k left repeats)) less h = waits_on m n id k left repeats less h

on_after : (m id : ℕ) (s : Option Stranger) (n : ℕ) → n < m → IsWaitingOn m 0 s → IsWaitingOn m n (stranger_ticked id n s)
unfolding stranger_ticked
on_after m id s zero less h = h
on_after m id s (suc n) less h =
    let same : n + 1 ≡ suc n = omega arith in
    subst (λ (i : ℕ). IsWaitingOn m i (stranger_ticked id (suc n) s)) same
    (tick_on m n id (stranger_ticked id n s) (omega (arith, less)) (on_after m id s n (omega (arith, less)) h))

pub waits_until_due : WaitsUntilDue
waits_until_due id s n timed waits less =
    (on_after (stranger_due s) id s n less (record { timed = timed; waits = waits; due = omega arith })).waits
