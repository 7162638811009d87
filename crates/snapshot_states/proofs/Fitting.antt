-- A state that fits is sound, clocked and in use.
use Rattle.std.proofs.Common.{◌≡◌, ℕ, refl, arith}
use Rattle.std.specs.Prelude.{◌&&◌, Bool, true, false, not, if◌then◌else◌, nat_le, nat_lt, Option, Some, None, IsSome, is_none, is_some}
use Rattle.std.proofs.lemmas.Bool.Decides.{nat_tests}
use Rattle.mme_types.specs.declared.connection.Connection.{Connection}
use Rattle.emm_state.specs.declared.solo.Countdown.{Countdown}
use Rattle.emm_state.specs.declared.solo.NasTimer.{NasTimer}
use Rattle.emm_state.specs.declared.solo.NasTimer.TheVariants.{T3413, T3422, T3450, T3460, T3489}
use Rattle.emm_state.specs.declared.solo.Phase.{Phase}
use Rattle.emm_state.specs.declared.solo.Phase.TheVariants.{Deregistered, Authenticating, SecurityMode, EsmInformation, Accepting, Updating, Registered, Detaching}
use Rattle.emm_state.specs.declared.solo.Repeat.{Repeat}
use Rattle.emm_state.specs.declared.solo.Solo.{Solo}
use Rattle.emm_state.specs.Timers.{repeats_of, ticks_of}
use Rattle.laws_subscriber.specs.Clocked.{IsAtRest, IsAwaited, IsClocked, IsClockedIn, IsCounting, IsKeptFor, IsPagedAtMost, IsUnderWay, NoneRuns, is_paging, pages}
use Rattle.snapshot_states.specs.Fit.{is, is_at_rest, is_awaited, is_clocked, is_counting, is_kept_for, is_paged_at_most, is_under_way, none_runs}

-- ---- both of two, and one of none

pub both : (a b : Bool) → a && b ≡ true → (a ≡ true) × (b ≡ true)
both true b h = (refl, h)
both false b h = cc

is_nothing : {A : Type 0} (o : Option A) → is_none o ≡ true → o ≡ None
is_nothing None h = refl
is_nothing (Some x) h = cc

is_something : {A : Type 0} (o : Option A) → is_some o ≡ true → IsSome o
is_something None h = absurd (cc)
is_something (Some x) h = h

-- ---- countdowns

same_timer : (s t : NasTimer) → is s t ≡ true → t ≡ s
same_timer T3413 T3413 h = refl
same_timer T3422 T3422 h = refl
same_timer T3450 T3450 h = refl
same_timer T3460 T3460 h = refl
same_timer T3489 T3489 h = refl
same_timer s t h = cc

pub turned : (b : Bool) → not b ≡ true → b ≡ false
turned false h = refl
turned true h = cc

kept_by : (p : Bool) (again : Bool) → (if p then again else not again) ≡ true → again ≡ p
kept_by true again h = h
kept_by false again h = turned again h

kept_for : (timer : NasTimer) (repeat : Option Repeat) → is_kept_for timer repeat ≡ true → IsKeptFor timer repeat
kept_for timer None h = absurd (cc)
kept_for timer (Some again) h = kept_by (pages timer) (is_paging again) h

counting : (timer : NasTimer) (c : Option Countdown) (repeat : Option Repeat) → is_counting timer c repeat ≡ true
    → IsCounting timer c repeat
counting timer None repeat h = absurd (cc)
counting timer (Some c) repeat h =
    let a = both (is timer c.timer) _ h in
    let b = both (nat_lt 0 c.left) _ a.1 in
    let d = both (nat_le c.left (ticks_of timer)) _ b.1 in
    let e = both (nat_le c.repeats (repeats_of timer)) _ d.1 in
    let some = b.0 in
    let long = d.0 in
    let few = e.0 in (
      same_timer timer c.timer a.0,
      grind (arith, nat_tests),
      grind (arith, nat_tests),
      grind (arith, nat_tests),
      kept_for timer repeat e.1,
    )

under_way : (timer : NasTimer) (s : Solo) → is_under_way timer s ≡ true
    → IsUnderWay timer s.connection s.procedure s.repeat s.reachable
under_way timer s h =
    let a = both (is_some s.connection) _ h in
    let b = both (is_counting timer s.procedure s.repeat) _ a.1 in
    (is_something s.connection a.0, counting timer s.procedure s.repeat b.0, is_nothing s.reachable b.1)

nothing_runs : (s : Solo) → none_runs s ≡ true → NoneRuns s.procedure s.repeat s.reachable
nothing_runs s h =
    let a = both (is_none s.procedure) _ h in
    let b = both (is_none s.repeat) _ a.1 in
    (is_nothing s.procedure a.0, is_nothing s.repeat b.0, is_nothing s.reachable b.1)

paged : (c : Option Countdown) (repeat : Option Repeat) → is_paged_at_most c repeat ≡ true → IsPagedAtMost c repeat
paged None repeat h = is_nothing repeat h
paged (Some c) repeat h = counting T3413 (Some c) repeat h

awaited : (o : Option ℕ) → is_awaited o ≡ true → IsAwaited o
awaited None h = absurd (cc)
awaited (Some left) h =
    let a = both (nat_lt 0 left) _ h in
    let some = a.0 in
    let long = a.1 in
    (grind (arith, nat_tests), grind (arith, nat_tests))

at_rest : (k : Option Connection) (s : Solo) → is_at_rest k s ≡ true → IsAtRest k s.procedure s.repeat s.reachable
at_rest (Some k) s h = nothing_runs s h
at_rest None s h =
    let a = both (is_paged_at_most s.procedure s.repeat) _ h in
    (paged s.procedure s.repeat a.0, awaited s.reachable a.1)

clocked_in : (phase : Phase) (s : Solo) → is_clocked phase s ≡ true
    → IsClockedIn phase s.connection s.procedure s.repeat s.reachable
clocked_in Deregistered s h =
    let a = both (is_none s.connection) _ h in (is_nothing s.connection a.0, nothing_runs s a.1)
clocked_in Authenticating s h = under_way T3460 s h
clocked_in SecurityMode s h = under_way T3460 s h
clocked_in EsmInformation s h = under_way T3489 s h
clocked_in Accepting s h = under_way T3450 s h
clocked_in Updating s h = under_way T3450 s h
clocked_in Registered s h = at_rest s.connection s h
clocked_in Detaching s h = under_way T3422 s h

pub clocked : (s : Solo) → is_clocked s.phase s ≡ true → IsClocked s
clocked s h = clocked_in s.phase s h
