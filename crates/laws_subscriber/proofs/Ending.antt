-- What is due is over once its ticks have passed.
use Rattle.std.proofs.Common.{◌≡◌, ℕ, zero, suc, ◌+◌, ◌-◌, ◌*◌, ◌≤◌, Bool, true, false, Option, Some, None, refl, sym, subst, ap, ◌∙◌, true≢false, arith}
use Rattle.mme_types.specs.declared.connection.Connection.{Connection}
use Rattle.emm_state.specs.declared.setting.Setting.{Setting}
use Rattle.emm_state.specs.declared.solo.Countdown.{Countdown}
use Rattle.emm_state.specs.declared.solo.NasTimer.{NasTimer}
use Rattle.emm_state.specs.declared.solo.NasTimer.TheVariants.{T3413, T3422, T3450, T3460, T3489}
use Rattle.emm_state.specs.declared.solo.Phase.{Phase}
use Rattle.emm_state.specs.declared.solo.Phase.TheVariants.{Deregistered, Authenticating, SecurityMode, EsmInformation, Accepting, Updating, Registered, Detaching}
use Rattle.emm_state.specs.declared.solo.Repeat.{Repeat}
use Rattle.emm_state.specs.declared.solo.Solo.{Solo}
use Rattle.emm_state.specs.Timers.{reachable_ticks, repeats_of, ticks_of}
use Rattle.emm_machine.specs.Ticks.{IsGoing, IsTimed, ticks_after}
use Rattle.laws_subscriber.specs.Clocked.{ClockedRuns, IsAwaited, IsClocked, IsClockedIn, IsCounting, IsPagedAtMost}
use Rattle.laws_subscriber.specs.Ends.{AllElseEnds, EndsInTime, EndsWhenDue, IdleEnds, is_under_way, longest_in, longest_registration, ticks_due}
use Rattle.laws_subscriber.proofs.Ticking.{IsWaiting, IsWithin, within_due, within_tick}

abbrev pub Within : ℕ → Bool → ℕ → Solo → Type 0
Within m told j solo = IsWithin m told j solo.phase solo.connection solo.procedure solo.repeat solo.reachable

pub fewer : (told : Bool) (solo : Solo) (m i j k : ℕ) → m ≡ i → j ≡ k → Within m told j solo → Within i told k solo
fewer told solo m i j k same_m same_j h =
    subst (λ (x : ℕ). Within x told k solo) same_m (subst (λ (y : ℕ). Within m told y solo) same_j h)

within_after : (s : Setting) (n : ℕ) (solo : Solo) (m : ℕ) (told : Bool) (j : ℕ) → Within m told j solo
    → Within (m - n) told (j - n) (ticks_after s n solo)
unfolding ticks_after
within_after s zero solo m told j h = fewer told solo m (m - 0) j (j - 0) (omega arith) (omega arith) h
within_after s (suc n) solo m told j h =
    fewer told (ticks_after s (suc n) solo) ((m - n) - 1) (m - suc n) ((j - n) - 1) (j - suc n) (omega arith) (omega arith)
    (within_tick s (ticks_after s n solo) (m - n) told (j - n) (within_after s n solo m told j h)).holds

-- ---- nothing due

over : (timer : NasTimer) (p : Option Countdown) (r : Option Repeat) → IsCounting timer p r → ticks_due p ≤ 0 → ⊥
over timer None r h due = h
over timer (Some x) r h due = let left = h.1 in omega arith

pub settled_in : (phase : Phase) (c : Option Connection) (p : Option Countdown) (r : Option Repeat) (n : Option ℕ)
    → IsClockedIn phase c p r n → ticks_due p ≤ 0
    → (is_under_way phase ≡ false) × (p ≡ None)
settled_in Deregistered c p r n h due = (refl, h.1.0)
settled_in Authenticating c p r n h due = absurd (over T3460 p r h.1 due)
settled_in SecurityMode c p r n h due = absurd (over T3460 p r h.1 due)
settled_in EsmInformation c p r n h due = absurd (over T3489 p r h.1 due)
settled_in Accepting c p r n h due = absurd (over T3450 p r h.1 due)
settled_in Updating c p r n h due = absurd (over T3450 p r h.1 due)
settled_in Registered (Some k) p r n h due = (refl, h.0)
settled_in Registered None None r n h due = (refl, refl)
settled_in Registered None (Some x) r n h due = absurd (over T3413 (Some x) r h.0 due)
settled_in Detaching c p r n h due = absurd (over T3422 p r h.1 due)

pub ends_when_due : EndsWhenDue
ends_when_due s solo n h due =
    let none_left : ticks_due solo.procedure - n ≡ 0 = omega arith in
    let after = within_after s n solo (ticks_due solo.procedure) false 0 (within_due solo _ h (omega arith)) in
    let e = ticks_after s n solo in
    settled_in e.phase e.connection e.procedure e.repeat e.reachable after.0
    (subst (λ (m : ℕ). ticks_due e.procedure ≤ m) none_left after.1)

-- ---- the most that is due

most_of : (timer : NasTimer) (left repeats : ℕ) → left ≤ ticks_of timer → repeats ≤ repeats_of timer
    → left + repeats * ticks_of timer ≤ ticks_of timer + repeats_of timer * ticks_of timer
most_of T3413 left repeats l r = omega arith
most_of T3422 left repeats l r = omega arith
most_of T3450 left repeats l r = omega arith
most_of T3460 left repeats l r = omega arith
most_of T3489 left repeats l r = omega arith

counting_most : (timer : NasTimer) (p : Option Countdown) (r : Option Repeat) → IsCounting timer p r
    → ticks_due p ≤ ticks_of timer + repeats_of timer * ticks_of timer
counting_most timer None r h = absurd h
counting_most timer (Some x) r h =
    subst (λ (t : NasTimer). x.left + x.repeats * ticks_of t ≤ ticks_of timer + repeats_of timer * ticks_of timer) (sym h.0)
    (most_of timer x.left x.repeats h.2 h.3)

none_due : (p : Option Countdown) → p ≡ None → ticks_due p ≤ 0
none_due None none = omega arith
none_due (Some x) none = absurd (cc)

pub most_in : (phase : Phase) (c : Option Connection) (p : Option Countdown) (r : Option Repeat) (n : Option ℕ)
    → IsClockedIn phase c p r n → ticks_due p ≤ longest_in phase
most_in Deregistered c p r n h = none_due p h.1.0
most_in Authenticating c p r n h = counting_most T3460 p r h.1
most_in SecurityMode c p r n h = counting_most T3460 p r h.1
most_in EsmInformation c p r n h = counting_most T3489 p r h.1
most_in Accepting c p r n h = counting_most T3450 p r h.1
most_in Updating c p r n h = counting_most T3450 p r h.1
most_in Registered (Some k) p r n h = let none = none_due p h.0 in omega arith
most_in Registered None None r n h = omega arith
most_in Registered None (Some x) r n h = counting_most T3413 (Some x) r h.0
most_in Detaching c p r n h = counting_most T3422 p r h.1

pub ends_in_time : EndsInTime
ends_in_time s solo n h long =
    let most = most_in solo.phase solo.connection solo.procedure solo.repeat solo.reachable h in ends_when_due s solo n h (omega arith)

-- ---- a phone that is forgotten

pub forgotten : (phase : Phase) (c : Option Connection) (p : Option Countdown) (r : Option Repeat) (n : Option ℕ)
    → IsClockedIn phase c p r n → IsWaiting true 0 phase p n
    → phase ≡ Deregistered
forgotten Deregistered c p r n h w = refl
forgotten Registered (Some k) p r None h w = absurd (true≢false w)
forgotten Registered (Some k) p r (Some i) h w = absurd (cc)
forgotten Registered None p r None h w = absurd (true≢false w)
forgotten Registered None p r (Some i) h w = let left = h.1.0 in let none = w refl in absurd (omega arith)
forgotten _ c p r n h w = let none = w refl in absurd (omega arith)

pub waits_in : (phase : Phase) (c : Option Connection) (p : Option Countdown) (r : Option Repeat) (n : Option ℕ) (j : ℕ)
    → IsClockedIn phase c p r n → (phase ≡ Registered → c ≡ None)
    → (is_under_way phase ≡ true → longest_registration ≤ j) → reachable_ticks ≤ j → IsWaiting true j phase p n
waits_in Deregistered c p r n j h idle long most = tt
waits_in Registered (Some k) p r n j h idle long most = let none : Some k ≡ None = idle refl in absurd (cc)
waits_in Registered None p r None j h idle long most = absurd h.1
waits_in Registered None p r (Some i) j h idle long most = λ yes. let few = h.1.1 in omega arith
waits_in Authenticating c p r n j h idle long most =
    λ yes. let due = counting_most T3460 p r h.1 in let far = long refl in omega arith
waits_in SecurityMode c p r n j h idle long most =
    λ yes. let due = counting_most T3460 p r h.1 in let far = long refl in omega arith
waits_in EsmInformation c p r n j h idle long most =
    λ yes. let due = counting_most T3489 p r h.1 in let far = long refl in omega arith
waits_in Accepting c p r n j h idle long most = λ yes. let due = counting_most T3450 p r h.1 in let far = long refl in omega arith
waits_in Updating c p r n j h idle long most = λ yes. let due = counting_most T3450 p r h.1 in let far = long refl in omega arith
waits_in Detaching c p r n j h idle long most = λ yes. let due = counting_most T3422 p r h.1 in let far = long refl in omega arith

ends_by : (s : Setting) (solo : Solo) (n j : ℕ) → IsClocked solo → (solo.phase ≡ Registered → solo.connection ≡ None)
    → (is_under_way solo.phase ≡ true → longest_registration ≤ j)
    → reachable_ticks ≤ j → j ≤ n → (ticks_after s n solo).phase ≡ Deregistered
ends_by s solo n j h idle long most past =
    let none_left : j - n ≡ 0 = omega arith in
    let after =
    within_after s n solo (ticks_due solo.procedure) true j
    (h, omega arith, waits_in solo.phase solo.connection solo.procedure solo.repeat solo.reachable j h idle long most) in
    let e = ticks_after s n solo in
    forgotten e.phase e.connection e.procedure e.repeat e.reachable after.0
    (subst (λ (k : ℕ). IsWaiting true k e.phase e.procedure e.reachable) none_left after.2)

pub idle_ends : IdleEnds
idle_ends s solo n h registered idle past =
    ends_by s solo n reachable_ticks h (λ is. idle)
    (λ way. absurd (true≢false (sym way ∙ ap is_under_way registered))) (omega arith) past

pub all_else_ends : AllElseEnds
all_else_ends s solo n h idle past = ends_by s solo n longest_registration h idle (λ way. omega arith) (omega arith) past

-- ---- a countdown that runs is in time

short : (timer : NasTimer) → ticks_of timer ≤ reachable_ticks
short T3413 = omega arith
short T3422 = omega arith
short T3450 = omega arith
short T3460 = omega arith
short T3489 = omega arith

going : (timer : NasTimer) (p : Option Countdown) (r : Option Repeat) → IsCounting timer p r → IsGoing p r
going timer None r h = absurd h
going timer (Some x) None h = absurd h.4
going timer (Some x) (Some r) h = let most = short timer in let left = h.2 in ((h.1, omega arith), refl)

none_going : (p : Option Countdown) (r : Option Repeat) → p ≡ None → IsGoing p r
none_going None r none = tt
none_going (Some x) r none = absurd (cc)

none_timed : (n : Option ℕ) → n ≡ None → IsTimed n
none_timed None none = tt
none_timed (Some k) none = absurd (cc)

paged_going : (p : Option Countdown) (r : Option Repeat) → IsPagedAtMost p r → IsGoing p r
paged_going None r h = tt
paged_going (Some x) r h = going T3413 (Some x) r h

awaited_timed : (n : Option ℕ) → IsAwaited n → IsTimed n
awaited_timed None h = absurd h
awaited_timed (Some k) h = h

running_in : (phase : Phase) (c : Option Connection) (p : Option Countdown) (r : Option Repeat) (n : Option ℕ)
    → IsClockedIn phase c p r n → IsGoing p r × IsTimed n
running_in Deregistered c p r n h = (none_going p r h.1.0, none_timed n h.1.2)
running_in Authenticating c p r n h = (going T3460 p r h.1, none_timed n h.2)
running_in SecurityMode c p r n h = (going T3460 p r h.1, none_timed n h.2)
running_in EsmInformation c p r n h = (going T3489 p r h.1, none_timed n h.2)
running_in Accepting c p r n h = (going T3450 p r h.1, none_timed n h.2)
running_in Updating c p r n h = (going T3450 p r h.1, none_timed n h.2)
running_in Registered (Some k) p r n h = (none_going p r h.0, none_timed n h.2)
running_in Registered None p r n h = (paged_going p r h.0, awaited_timed n h.1)
running_in Detaching c p r n h = (going T3422 p r h.1, none_timed n h.2)

pub clocked_runs : ClockedRuns
clocked_runs solo h = running_in solo.phase solo.connection solo.procedure solo.repeat solo.reachable h
