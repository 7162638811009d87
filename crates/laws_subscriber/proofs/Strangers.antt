-- A stranger that waits is closed in time.
use Rattle.std.proofs.Common.{◌≡◌, ℕ, zero, suc, ◌+◌, ◌-◌, ◌*◌, ◌<◌, ◌≤◌, ◌==◌, ◌&&◌, true, false, List, [], ◌∷◌, Option, Some, None, nat_lt, refl, sym, subst, true≢false, arith}
use Rattle.std.proofs.lemmas.Bool.Decides.{nat_tests}
use Rattle.identity_slots.specs.declared.profile.Profile.{Profile}
use Rattle.identity_slots.specs.Ids.{station_in}
use Rattle.identity_slots.specs.Provisioned.{slot_of_imsi}
use Rattle.mme_types.specs.declared.event.Entry.{Entry}
use Rattle.mme_types.specs.declared.event.UeBody.{UeBody}
use Rattle.mme_types.specs.declared.event.UeBody.TheVariants as bodies
use Rattle.mme_types.specs.declared.event.UeMessage.{UeMessage}
use Rattle.stranger_machine.specs.declared.state.KeptEntry.{KeptEntry}
use Rattle.stranger_machine.specs.declared.state.Stranger.{Stranger}
use Rattle.stranger_machine.specs.declared.state.Stranger.TheVariants.{Waiting, Held}
use Rattle.stranger_machine.specs.declared.turn.Notice.{Notice}
use Rattle.stranger_machine.specs.declared.turn.Notice.TheVariants.{Tick, Gone, Listed}
use Rattle.stranger_machine.specs.Machine as machine
use Rattle.stranger_machine.specs.Machine.{Input, Welcome, identity_repeats, identity_ticks}
use Rattle.stranger_machine.specs.Ticks.{stranger_ticked}
use Rattle.stranger_machine.specs.Turns.{Turn}
use Rattle.laws_subscriber.specs.Ends.{longest_procedure}
use Rattle.laws_subscriber.specs.Strangers.{ClosedInTime, ClosedWhenDue, IsTimed, StaysTimed, TickTakesOne, is_waiting, stranger_due}
use Rattle.laws_subscriber.specs.Choices.{either, either_by}

-- after a turn it is timed
record Timed (t : Turn) : Type 0 where
  pub timed : IsTimed t.stranger

-- ---- what begins, and messages

timed_welcomed : (id : ℕ) (k : KeptEntry) (w : Welcome) → Timed (machine.welcomed id k w)
unfolding machine.welcomed
timed_welcomed id k machine.Ask = record { timed = (omega arith, omega arith, omega arith) }
timed_welcomed id k (machine.Refuse nas) = record { timed = tt }
timed_welcomed id k machine.TurnAway = record { timed = tt }

timed_begins : (id : ℕ) (s : Option Stranger) (m : Entry (List ℕ)) → Timed (machine.begins id s m)
unfolding machine.begins
timed_begins id s m = record { timed = (timed_welcomed id _ _).timed }

timed_claimed : (o : Option ℕ) (id : ℕ) (k : KeptEntry) → Timed (machine.claimed_by o id k)
unfolding machine.claimed_by
timed_claimed None id k = record { timed = tt }
timed_claimed (Some slot) id k = record { timed = tt }

timed_identified : (o : Option (List ℕ)) (ps : List Profile) (id : ℕ) (k : KeptEntry) (s : Stranger) → IsTimed (Some s)
    → Timed (machine.identified o ps id k s)
unfolding machine.identified
timed_identified None ps id k s h = record { timed = h }
timed_identified (Some imsi) ps id k s h = timed_claimed (slot_of_imsi imsi ps) id k

timed_own : (body : UeBody (List ℕ)) (ps : List Profile) (id : ℕ) (k : KeptEntry) (s : Stranger) → IsTimed (Some s)
    → Timed (machine.receives_own body ps id k s)
unfolding machine.receives_own
timed_own (bodies.Uplink nas tai) ps id k s h = timed_identified _ ps id k s h
timed_own (bodies.UeContextReleaseRequest cause) ps id k s h = record { timed = tt }
timed_own _ ps id k s h = record { timed = h }

timed_pair : (ps : List Profile) (m : UeMessage (List ℕ)) (k : KeptEntry) (s : Stranger) → IsTimed (Some s)
    → Timed (machine.checked_for_pair ps m k s)
unfolding machine.checked_for_pair
timed_pair ps m k s h =
    either Timed (k.station == m.station && k.enb_ue_id == m.enb_ue_id) (timed_own m.body ps m.mme_ue_id k s h)
    (record { timed = h })

timed_waiting : (body : UeBody (List ℕ)) (ps : List Profile) (m : UeMessage (List ℕ)) (k : KeptEntry) (s : Stranger)
    → IsTimed (Some s)
    → Timed (machine.receives_waiting body ps m k s)
unfolding machine.receives_waiting
timed_waiting bodies.UeContextReleaseComplete ps m k s h = record { timed = h }
timed_waiting bodies.PathSwitch ps m k s h = record { timed = h }
timed_waiting _ ps m k s h = timed_pair ps m k s h

timed_receives : (ps : List Profile) (s : Option Stranger) (m : UeMessage (List ℕ)) → IsTimed s → Timed (machine.receives ps s m)
unfolding machine.receives
timed_receives ps None m h = record { timed = tt }
timed_receives ps (Some (Held slot)) m h = record { timed = tt }
timed_receives ps (Some (Waiting k left repeats)) m h = timed_waiting m.body ps m k (Waiting k left repeats) h

-- ---- what comes to all

-- after a tick it is timed, with that much due at most, and it isn't held
record Ticked (m : ℕ) (t : Turn) : Type 0 where
  pub timed : IsTimed t.stranger
  pub due : stranger_due t.stranger ≤ m
  pub unheld : (s : Stranger) → t.stranger ≡ Some s → is_waiting (Some s) ≡ true

more_left : (left : ℕ) → nat_lt 1 left ≡ true → 1 < left
more_left left e = grind (arith, nat_tests)

last_left : (left : ℕ) → nat_lt 1 left ≡ false → left ≤ 1
last_left left e = grind (arith, nat_tests)

more_repeats : (repeats : ℕ) → nat_lt 0 repeats ≡ true → 0 < repeats
more_repeats repeats e = grind (arith, nat_tests)

same_some : (s t : Stranger) → ◌≡◌ {A = Option Stranger} (Some s) (Some t) → is_waiting (Some s) ≡ true → is_waiting (Some t) ≡ true
same_some s t same h = subst (λ (o : Option Stranger). is_waiting o ≡ true) same h

ticked_waits : (id : ℕ) (k : KeptEntry) (left repeats m : ℕ) → IsTimed (Some (Waiting k left repeats))
    → left + repeats * identity_ticks ≤ m
    → Ticked (m - 1) (machine.waits id k left repeats)
unfolding machine.waits
ticked_waits id k left repeats m h due =
    let some_left = h.0 in
    let most = h.1 in
    let few = h.2 in
    either_by (Ticked (m - 1)) (nat_lt 1 left)
    (λ e. let more = more_left left e in record { timed = (omega arith, omega arith, few); due = omega arith; unheld = λ s is. same_some _ s is refl })
    (λ e. let last = last_left left e in either_by (Ticked (m - 1)) (nat_lt 0 repeats)
    (λ f. let again = more_repeats repeats f in
    record { timed = (omega arith, omega arith, omega arith); due = omega arith; unheld = λ s is. same_some _ s is refl })
    (λ f. record { timed = tt; due = omega arith; unheld = λ s is. absurd (cc) }))

timed_ticks : (id : ℕ) (s : Option Stranger) → IsTimed s → Timed (machine.ticks id s)
unfolding machine.ticks
timed_ticks id None h = record { timed = tt }
timed_ticks id (Some (Held slot)) h = record { timed = tt }
timed_ticks id (Some (Waiting k left repeats)) h =
    record { timed = (ticked_waits id k left repeats (left + repeats * identity_ticks) h (omega arith)).timed }

timed_notes : (id : ℕ) (s : Option Stranger) (notice : Notice) → IsTimed s → Timed (machine.notes id s notice)
unfolding machine.notes machine.loses machine.unlists
timed_notes id s Tick h = timed_ticks id s h
timed_notes id s (Gone e) h = either Timed (station_in id == e) (record { timed = tt }) (record { timed = h })
timed_notes id s (Listed e items) h = either Timed (machine.is_meant id e items) (record { timed = tt }) (record { timed = h })

timed_step : (ps : List Profile) (id : ℕ) (s : Option Stranger) (input : Input) → IsTimed s
    → Timed (machine.stranger_step ps id s input)
unfolding machine.stranger_step
timed_step ps id s machine.Nothing h = record { timed = h }
timed_step ps id s (machine.Begins m) h = timed_begins id s m
timed_step ps id s (machine.Receives m) h = timed_receives ps s m h
timed_step ps id s (machine.Notes notice) h = timed_notes id s notice h

pub stays_timed : StaysTimed
stays_timed ps id s [] h = h
stays_timed ps id s (input ∷ inputs) h =
    stays_timed ps id (machine.stranger_step ps id s input).stranger inputs (timed_step ps id s input h).timed

-- ---- ticks

pub tick_takes_one : TickTakesOne
unfolding machine.notes machine.ticks
tick_takes_one id None m h due = omega arith
tick_takes_one id (Some (Held slot)) m h due = omega arith
tick_takes_one id (Some (Waiting k left repeats)) m h due = (ticked_waits id k left repeats m h due).due

-- it is timed, with so much due at most, and isn't held
record Closing (m : ℕ) (s : Option Stranger) : Type 0 where
  pub timed : IsTimed s
  pub due : stranger_due s ≤ m
  pub unheld : (x : Stranger) → s ≡ Some x → is_waiting (Some x) ≡ true

closing_tick : (id : ℕ) (s : Option Stranger) (m : ℕ) → Closing m s → Closing (m - 1) (machine.notes id s Tick).stranger
unfolding machine.notes machine.ticks
closing_tick id None m h = record { timed = tt; due = omega arith; unheld = λ x is. absurd (cc) }
closing_tick id (Some (Held slot)) m h = absurd (true≢false (sym (h.unheld (Held slot) refl)))
closing_tick id (Some (Waiting k left repeats)) m h =
    let t = ticked_waits id k left repeats m h.timed h.due in record { timed = t.timed; due = t.due; unheld = t.unheld }

closing_after : (id n : ℕ) (s : Option Stranger) (m : ℕ) → Closing m s → Closing (m - n) (stranger_ticked id n s)
unfolding stranger_ticked
closing_after id zero s m h = let same : m ≡ m - 0 = omega arith in subst (λ (i : ℕ). Closing i s) same h
closing_after id (suc n) s m h =
    let same : (m - n) - 1 ≡ m - suc n = omega arith in
    subst (λ (i : ℕ). Closing i (stranger_ticked id (suc n) s)) same
    (closing_tick id (stranger_ticked id n s) (m - n) (closing_after id n s m h))

closed : (s : Option Stranger) → Closing 0 s → s ≡ None
closed None h = refl
closed (Some (Held slot)) h = absurd (true≢false (sym (h.unheld (Held slot) refl)))
closed (Some (Waiting k left repeats)) h = let some_left = h.timed.0 in let due = h.due in absurd (omega arith)

pub closed_when_due : ClosedWhenDue
closed_when_due id s n h waits due =
    let none_left : stranger_due s - n ≡ 0 = omega arith in
    closed (stranger_ticked id n s)
    (subst (λ (i : ℕ). Closing i (stranger_ticked id n s)) none_left (closing_after id n s (stranger_due s) (record {
      timed = h;
      due = omega arith;
      unheld = λ x is. subst (λ (o : Option Stranger). is_waiting o ≡ true) is waits;
    })))

most_due : (s : Option Stranger) → IsTimed s → stranger_due s ≤ longest_procedure
most_due None h = omega arith
most_due (Some (Held slot)) h = omega arith
most_due (Some (Waiting k left repeats)) h = let most = h.1 in let few = h.2 in omega arith

pub closed_in_time : ClosedInTime
closed_in_time id s n h waits long = let most = most_due s h in closed_when_due id s n h waits (omega arith)
