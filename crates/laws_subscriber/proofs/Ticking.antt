-- A tick keeps the countdowns as the phase has them, and takes one from what is due; so does every run.
use Rattle.std.proofs.Common.{◌≡◌, ℕ, ◌+◌, ◌-◌, ◌*◌, ◌<◌, ◌≤◌, ◌==◌, Bool, true, false, [], ◌∷◌, Option, Some, None, IsSome, is_some, unwrap_or, if◌then◌else◌, refl, sym, subst, ap, ◌∙◌, true≢false, arith}
use Rattle.std.specs.Option.{option_map_or}
use Rattle.std.proofs.lemmas.Bool.Decides.{nat_tests}
use Rattle.mme_types.specs.declared.connection.Connection.{Connection}
use Rattle.mme_types.specs.Events as events
use Rattle.emm_state.specs.declared.draft.Draft.{Draft}
use Rattle.emm_state.specs.declared.setting.Setting.{Setting}
use Rattle.emm_state.specs.declared.solo.Countdown.{Countdown}
use Rattle.emm_state.specs.declared.solo.NasTimer.{NasTimer}
use Rattle.emm_state.specs.declared.solo.NasTimer.TheVariants.{T3413, T3422, T3450, T3460, T3489}
use Rattle.emm_state.specs.declared.solo.Phase.{Phase}
use Rattle.emm_state.specs.declared.solo.Phase.TheVariants.{Deregistered, Authenticating, SecurityMode, EsmInformation, Accepting, Updating, Registered, Detaching}
use Rattle.emm_state.specs.declared.solo.Repeat.{Repeat}
use Rattle.emm_state.specs.declared.solo.Solo.{Solo}
use Rattle.emm_state.specs.Actions.{ended, untouched, wipe}
use Rattle.emm_state.specs.Does.{◌>>=◌}
use Rattle.emm_state.specs.Timers.{reachable_ticks, ticks_of}
use Rattle.emm_machine.specs.Idle as idle
use Rattle.emm_machine.specs.Steps as steps
use Rattle.laws_subscriber.specs.Clocked.{IsClocked, IsClockedIn, IsCounting, IsUnderWay, StaysClocked}
use Rattle.laws_subscriber.specs.Ends.{ticks_due}
use Rattle.laws_subscriber.specs.Choices.{Whenever, at_some, either_by, some}
use Rattle.laws_subscriber.proofs.Clocked.{Clocks, Holds, clocked_by, full, gone_spent, gone_wipe, kept_again, rests_fall}

-- ---- the reachable countdown, last in a tick

-- it may have no tick left, where the phone has no connection
abbrev After : Clocks → Clocks
After Q phase c p r None = Q phase c p r None
After Q phase c p r (Some n) = (0 < n → Q phase c p r (Some n)) × (c ≡ None)

above_zero : (n : ℕ) → (n == 0) ≡ false → 0 < n
above_zero n e = grind (arith, nat_tests)

is_zero : (n : ℕ) → (n == 0) ≡ true → n ≡ 0
is_zero n e = grind (arith, nat_tests)

module _ (Q : Clocks) (gone : Q Deregistered None None None None) where
  out_at : (e : Draft) (n : Option ℕ) → e.solo.reachable ≡ n
      → After Q e.solo.phase e.solo.connection e.solo.procedure e.solo.repeat n
      → Holds Q (option_map_or (λ k. if k == 0 then wipe e else e) n e)
  out_at e None is h =
      record { holds = subst (λ (o : Option ℕ). Q e.solo.phase e.solo.connection e.solo.procedure e.solo.repeat o) (sym is) h }
  out_at e (Some k) is h =
      either_by (Holds Q) (k == 0) (λ zero. gone_wipe Q gone (record { holds = h.1 }))
      (λ more. record { holds = subst (λ (o : Option ℕ). Q e.solo.phase e.solo.connection e.solo.procedure e.solo.repeat o) (sym is) (h.0 (above_zero k more)) })

  out : (e : Draft) → Holds (After Q) e → Holds Q (idle.reachable_ticks_out e)
  unfolding idle.reachable_ticks_out
  out e h = out_at e e.solo.reachable refl h.holds

  ticked : (solo : Solo) (o : Option Draft) → Whenever (Holds (After Q)) o
      → Holds Q (unwrap_or (o >>= λ e. Some (idle.reachable_ticks_out e)) (steps.spent solo))
  ticked solo None h = gone_spent Q gone solo
  ticked solo (Some e) h = out e (h.at e refl)

  tick_of : (s : Setting) (solo : Solo) → Whenever (Holds (After Q)) (idle.procedure_ticks s (idle.lowered (untouched solo)))
      → Holds Q (steps.solo_step s solo events.Tick)
  unfolding steps.solo_step steps.row idle.tick
  tick_of s solo h = ticked solo (idle.procedure_ticks s (idle.lowered (untouched solo))) h

-- ---- a procedure's countdown that has ended

expired_to : (P : Clocks) (x : Countdown) (s : Setting) (d : Draft) → IsSome d.solo.repeat
    → (x.repeats ≡ 0 → Holds P (idle.given_up x.timer d))
    → (0 < x.repeats → Holds P (idle.restarted x d)) → Whenever (Holds P) (idle.expired x s d)
unfolding idle.expired
expired_to P x s d there over again =
    either_by (Whenever (Holds P)) (x.repeats == 0) (λ zero. some (over (is_zero x.repeats zero)))
    (λ more. at_some (Whenever (Holds P)) d.solo.repeat
    (λ r is. kept_again r s (again (above_zero x.repeats more))) (λ none. absurd (true≢false (sym there ∙ ap (λ (o : Option Repeat). is_some o) none))))

paging_over : (P : Clocks) (t : NasTimer) (d : Draft) → t ≡ T3413 → Holds P (ended d) → Holds P (idle.given_up t d)
unfolding idle.given_up
paging_over P T3413 d is h = h
paging_over P T3422 d is h = absurd (cc)
paging_over P T3450 d is h = absurd (cc)
paging_over P T3460 d is h = absurd (cc)
paging_over P T3489 d is h = absurd (cc)

procedure_over : (P : Clocks) → P Deregistered None None None None → P Registered None None None (Some reachable_ticks)
    → (t : NasTimer) (d : Draft) → (t ≡ T3413 → ⊥)
    → Holds P (idle.given_up t d)
unfolding idle.given_up
procedure_over P gone rest T3413 d not = absurd (not refl)
procedure_over P gone rest T3422 d not = rests_fall P gone rest _ d
procedure_over P gone rest T3450 d not = rests_fall P gone rest _ d
procedure_over P gone rest T3460 d not = rests_fall P gone rest _ d
procedure_over P gone rest T3489 d not = rests_fall P gone rest _ d

-- ---- what is due

due_less : (left rest m : ℕ) → 0 < left → left + rest ≤ m → (left - 1) + rest ≤ m - 1
due_less left rest m more h = omega arith

due_again : (t : NasTimer) (left repeats m : ℕ) → 0 < left → 0 < repeats → left + repeats * ticks_of t ≤ m
    → ticks_of t + (repeats - 1) * ticks_of t ≤ m - 1
due_again T3413 left repeats m some_left more h = omega arith
due_again T3422 left repeats m some_left more h = omega arith
due_again T3450 left repeats m some_left more h = omega arith
due_again T3460 left repeats m some_left more h = omega arith
due_again T3489 left repeats m some_left more h = omega arith

longer_less : (left rest j : ℕ) → 0 < left → (left + rest) + reachable_ticks ≤ j → ((left - 1) + rest) + reachable_ticks ≤ j - 1
longer_less left rest j more h = omega arith

longer_again : (t : NasTimer) (left repeats j : ℕ) → 0 < left → 0 < repeats → (left + repeats * ticks_of t) + reachable_ticks ≤ j
    → (ticks_of t + (repeats - 1) * ticks_of t) + reachable_ticks ≤ j - 1
longer_again t left repeats j some_left more h =
    let less = due_again t left repeats (j - reachable_ticks) some_left more (omega arith) in omega arith

-- where it is to end: deregistered, or on its way there with n ticks at most
abbrev pub IsWaiting : Bool → ℕ → Phase → Option Countdown → Option ℕ → Type 0
IsWaiting told j Deregistered p n = Unit {0}
IsWaiting told j Registered p None = told ≡ false
IsWaiting told j Registered p (Some k) = told ≡ true → k ≤ j
IsWaiting told j _ p n = told ≡ true → ticks_due p + reachable_ticks ≤ j

-- clocked, so much due at most, and so long at most until it is forgotten where it is told to end
abbrev pub IsWithin : ℕ → Bool → ℕ → Clocks
IsWithin m told j phase c p r n = IsClockedIn phase c p r n × (ticks_due p ≤ m) × IsWaiting told j phase p n

pub gone_within : (m : ℕ) (told : Bool) (j : ℕ) → IsWithin m told j Deregistered None None None None
gone_within m told j = ((refl, (refl, refl, refl)), omega arith, tt)

-- ---- by phase

abbrev framed : Phase → Option Connection → Option Countdown → Option Repeat → Option ℕ → Solo → Solo
framed phase c p r n solo = record solo { phase = phase; connection = c; procedure = p; repeat = r; reachable = n }

-- what is to be shown of a tick in these
abbrev Ticks : Setting → Solo → ℕ → Bool → ℕ → Clocks
Ticks s solo m told j phase c p r n =
    Whenever (Holds (After (IsWithin (m - 1) told (j - 1))))
    (idle.procedure_ticks s (idle.lowered (untouched (framed phase c p r n solo))))

counting_lower : (timer : NasTimer) (x : Countdown) (r : Repeat) → IsCounting timer (Some x) (Some r) → 0 < x.left - 1
    → IsCounting timer (Some (idle.lower x)) (Some r)
counting_lower timer x r h more = let most = h.2 in (h.0, more, omega arith, h.3, h.4)

counting_again : (timer : NasTimer) (x : Countdown) (r : Repeat) → IsCounting timer (Some x) (Some r)
    → IsCounting timer (Some (record { timer = x.timer; left = ticks_of x.timer; repeats = x.repeats - 1 })) (Some r)
counting_again timer x r h =
    let most = h.3 in (h.0, full x.timer, subst (λ (t : NasTimer). ticks_of x.timer ≤ ticks_of t) h.0 (omega arith), omega arith, h.4)

gone_ticks : (s : Setting) (solo : Solo) (m : ℕ) (told : Bool) (j : ℕ) (c : Option Connection) (p : Option Countdown) (r : Option Repeat) (n : Option ℕ)
    → IsWithin m told j Deregistered c p r n → Ticks s solo m told j Deregistered c p r n
unfolding idle.procedure_ticks idle.lowered
gone_ticks s solo m told j None None None None h = some (record { holds = gone_within (m - 1) told (j - 1) })
gone_ticks s solo m told j (Some k) p r n h = absurd (cc)
gone_ticks s solo m told j None (Some x) r n h = absurd (cc)
gone_ticks s solo m told j None None (Some x) n h = absurd (cc)
gone_ticks s solo m told j None None None (Some k) h = absurd (cc)

rest_ticks : (s : Setting) (solo : Solo) (m : ℕ) (told : Bool) (j : ℕ) (c : Option Connection) (p : Option Countdown) (r : Option Repeat) (n : Option ℕ)
    → IsWithin m told j Registered c p r n → Ticks s solo m told j Registered c p r n
unfolding idle.procedure_ticks idle.lowered idle.restarted ended
rest_ticks s solo m told j (Some k) None None None h = some (record { holds = ((refl, refl, refl), omega arith, h.2) })
rest_ticks s solo m told j (Some k) (Some x) r n h = absurd (cc)
rest_ticks s solo m told j (Some k) None (Some x) n h = absurd (cc)
rest_ticks s solo m told j (Some k) None None (Some i) h = absurd (cc)
rest_ticks s solo m told j None p r None h = absurd h.0.1
rest_ticks s solo m told j None None r (Some n) h =
    let most = h.0.1.1 in
    some (record { holds = (λ more. ((h.0.0, (more, omega arith)), omega arith, λ yes. let few = h.2 yes in omega arith), refl) })
rest_ticks s solo m told j None (Some x) None (Some n) h = absurd h.0.0.4
rest_ticks s solo m told j None (Some x) (Some r) (Some n) h =
    let most = h.0.1.1 in
    let left = h.0.0.1 in
    let due = h.1 in
    let P = After (IsWithin (m - 1) told (j - 1)) in
    either_by (Whenever (Holds P)) (x.left - 1 == 0)
    (λ zero. expired_to P (idle.lower x) s _ refl
    (λ last. paging_over P x.timer _ h.0.0.0
    (record { holds = (λ more. ((refl, (more, omega arith)), omega arith, λ yes. let few = h.2 yes in omega arith), refl) }))
    (λ again. record { holds = (λ more. ((counting_again T3413 x r h.0.0, (more, omega arith)), due_again x.timer x.left x.repeats m left again due, λ yes. let few = h.2 yes in omega arith), refl) }))
    (λ more. some (record {
      holds = (λ above. ((counting_lower T3413 x r h.0.0 (above_zero (x.left - 1) more), (above, omega arith)), due_less x.left (x.repeats * ticks_of x.timer) m left due, λ yes. let few = h.2 yes in omega arith), refl);
    }))

way_ticks : (phase : Phase) (timer : NasTimer) → ((c : Option Connection) (p : Option Countdown) (r : Option Repeat) (n : Option ℕ) → IsUnderWay timer c p r n → IsClockedIn phase c p r n)
    → ((told : Bool) (j : ℕ) (p : Option Countdown) (n : Option ℕ) → (told ≡ true → ticks_due p + reachable_ticks ≤ j) → IsWaiting told j phase p n) → (timer ≡ T3413 → ⊥)
    → (s : Setting) (solo : Solo) (m : ℕ) (told : Bool) (j : ℕ) (c : Option Connection) (p : Option Countdown) (r : Option Repeat)
    (n : Option ℕ)
    → IsUnderWay timer c p r n → ticks_due p ≤ m → (told ≡ true → ticks_due p + reachable_ticks ≤ j)
    → Ticks s solo m told j phase c p r n
unfolding idle.procedure_ticks idle.lowered idle.restarted
way_ticks phase timer clocked waits not s solo m told j None p r n h due long = absurd (true≢false (sym h.0))
way_ticks phase timer clocked waits not s solo m told j (Some k) None r n h due long = absurd h.1
way_ticks phase timer clocked waits not s solo m told j (Some k) (Some x) None n h due long = absurd h.1.4
way_ticks phase timer clocked waits not s solo m told j (Some k) (Some x) (Some r) (Some n) h due long = absurd (cc)
way_ticks phase timer clocked waits not s solo m told j (Some k) (Some x) (Some r) None h due long =
    let left = h.1.1 in
    let P = After (IsWithin (m - 1) told (j - 1)) in
    either_by (Whenever (Holds P)) (x.left - 1 == 0)
    (λ zero. expired_to P (idle.lower x) s _ refl
    (λ last. procedure_over P (gone_within (m - 1) told (j - 1))
    (λ more. ((refl, (more, omega arith)), omega arith, λ yes. let wait = long yes in omega arith), refl) x.timer _ (λ is. not (sym h.1.0 ∙ is)))
    (λ again. record {
      holds = (
        clocked _ _ _ _ (refl, counting_again timer x r h.1, refl),
        due_again x.timer x.left x.repeats m left again due,
        waits told (j - 1) _ None (λ yes. let wait = long yes in longer_again x.timer x.left x.repeats j left again wait),
      );
    }))
    (λ more. some (record {
      holds = (
        clocked _ _ _ _ (refl, counting_lower timer x r h.1 (above_zero (x.left - 1) more), refl),
        due_less x.left (x.repeats * ticks_of x.timer) m left due,
        waits told (j - 1) _ None (λ yes. let wait = long yes in longer_less x.left (x.repeats * ticks_of x.timer) j left wait),
      );
    }))

ticks_in : (s : Setting) (solo : Solo) (m : ℕ) (told : Bool) (j : ℕ) (phase : Phase) (c : Option Connection) (p : Option Countdown) (r : Option Repeat) (n : Option ℕ)
    → IsWithin m told j phase c p r n → Ticks s solo m told j phase c p r n
ticks_in s solo m told j Deregistered c p r n h = gone_ticks s solo m told j c p r n h
ticks_in s solo m told j Authenticating c p r n h =
    way_ticks Authenticating T3460 (λ c p r n w. w) (λ told j p n long. long) (λ is. cc) s solo m told j c p r n h.0 h.1 h.2
ticks_in s solo m told j SecurityMode c p r n h =
    way_ticks SecurityMode T3460 (λ c p r n w. w) (λ told j p n long. long) (λ is. cc) s solo m told j c p r n h.0 h.1 h.2
ticks_in s solo m told j EsmInformation c p r n h =
    way_ticks EsmInformation T3489 (λ c p r n w. w) (λ told j p n long. long) (λ is. cc) s solo m told j c p r n h.0 h.1 h.2
ticks_in s solo m told j Accepting c p r n h =
    way_ticks Accepting T3450 (λ c p r n w. w) (λ told j p n long. long) (λ is. cc) s solo m told j c p r n h.0 h.1 h.2
ticks_in s solo m told j Updating c p r n h =
    way_ticks Updating T3450 (λ c p r n w. w) (λ told j p n long. long) (λ is. cc) s solo m told j c p r n h.0 h.1 h.2
ticks_in s solo m told j Registered c p r n h = rest_ticks s solo m told j c p r n h
ticks_in s solo m told j Detaching c p r n h =
    way_ticks Detaching T3422 (λ c p r n w. w) (λ told j p n long. long) (λ is. cc) s solo m told j c p r n h.0 h.1 h.2

-- ---- the step, and runs of it

pub within_tick : (s : Setting) (solo : Solo) (m : ℕ) (told : Bool) (j : ℕ)
    → IsWithin m told j solo.phase solo.connection solo.procedure solo.repeat solo.reachable
    → Holds (IsWithin (m - 1) told (j - 1)) (steps.solo_step s solo events.Tick)
within_tick s solo m told j h =
    tick_of (IsWithin (m - 1) told (j - 1)) (gone_within (m - 1) told (j - 1)) s solo
    (ticks_in s solo m told j solo.phase solo.connection solo.procedure solo.repeat solo.reachable h)

not_told : (phase : Phase) (p : Option Countdown) (n : Option ℕ) → IsWaiting false 0 phase p n
not_told Deregistered p n = tt
not_told Registered p None = refl
not_told Registered p (Some k) = λ yes. absurd (true≢false (sym yes))
not_told _ p n = λ yes. absurd (true≢false (sym yes))

-- what is clocked has as much due as it has
pub within_due : (solo : Solo) (m : ℕ) → IsClocked solo → ticks_due solo.procedure ≤ m
    → IsWithin m false 0 solo.phase solo.connection solo.procedure solo.repeat solo.reachable
within_due solo m h due = (h, due, not_told solo.phase solo.procedure solo.reachable)

clocked_step : (s : Setting) (solo : Solo) (item : events.Item) → IsClocked solo → IsClocked (steps.solo_step s solo item).solo
clocked_step s solo events.Tick h =
    (within_tick s solo (ticks_due solo.procedure) false 0 (within_due solo _ h (omega arith))).holds.0
clocked_step s solo events.Nothing h = (clocked_by s solo events.Nothing refl h).holds
clocked_step s solo (events.Initial m) h = (clocked_by s solo (events.Initial m) refl h).holds
clocked_step s solo (events.Claim id m) h = (clocked_by s solo (events.Claim id m) refl h).holds
clocked_step s solo (events.Message m) h = (clocked_by s solo (events.Message m) refl h).holds
clocked_step s solo (events.Displaced id) h = (clocked_by s solo (events.Displaced id) refl h).holds
clocked_step s solo (events.StationGone station) h = (clocked_by s solo (events.StationGone station) refl h).holds
clocked_step s solo (events.ConnectionsGone station items) h =
    (clocked_by s solo (events.ConnectionsGone station items) refl h).holds
clocked_step s solo (events.Data stations) h = (clocked_by s solo (events.Data stations) refl h).holds
clocked_step s solo events.Cancel h = (clocked_by s solo events.Cancel refl h).holds

pub stays_clocked : StaysClocked
stays_clocked s solo [] h = h
stays_clocked s solo (item ∷ items) h = stays_clocked s (steps.solo_step s solo item).solo items (clocked_step s solo item h)
