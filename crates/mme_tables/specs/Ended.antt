-- What a tick makes of those whose T3470 it ends, and what always holds of a table.
use Rattle.std.specs.Prelude.{ℕ, ◌+◌, ◌-◌, ◌<◌, ◌≤◌, nat_le, if◌then◌else◌, Bool, false, List, [], ◌∷◌, Option, Some, None, option_map}
use Rattle.sorted_list.specs.Ordered.{Every}
use Rattle.stranger_machine.specs.declared.state.Stranger.{Stranger}
use Rattle.stranger_machine.specs.declared.state.Stranger.TheVariants.{Waiting, Held}
use Rattle.stranger_machine.specs.declared.turn.Notice.TheVariants.{Tick}
use Rattle.stranger_machine.specs.Machine.{notes}
use Rattle.stranger_machine.specs.Table.{passed, stays_open}
use Rattle.stranger_machine.specs.Ticks.{IsAsleep, ends_in}
use Rattle.mme_tables.specs.declared.sleeper.Sleeper.{Sleeper}
use Rattle.mme_tables.specs.StrangerRows.{AreRows, AreSleeping, Row, sleeper_at, sleeper_now, with_row}

-- the clock at which its T3470 ends, if it waits
abbrev pub deadline_in : ℕ → Stranger → Option ℕ
deadline_in touched (Waiting k left repeats) = Some (touched + ends_in left)
deadline_in touched (Held slot) = None

abbrev pub deadline_of : Sleeper → Option ℕ
deadline_of s = deadline_in s.touched s.stranger

-- the tick at the clock `next` ends it
abbrev pub is_met : ℕ → Option ℕ → Bool
is_met next None = false
is_met next (Some deadline) = nat_le deadline next

-- the ids of those whom it ends
abbrev pub met_ids : ℕ → List Row → List ℕ
met_ids next [] = []
met_ids next (r ∷ rs) = if is_met next (deadline_of r.sleeper) then r.id ∷ met_ids next rs else met_ids next rs

-- touched by it
abbrev pub touched_at : ℕ → Stranger → Sleeper
touched_at next x = record { stranger = x; touched = next }

-- what it leaves of one whom it ends
abbrev pub sleeper_ended : ℕ → ℕ → Sleeper → Option Sleeper
sleeper_ended id next s = option_map (touched_at next) (notes id (Some (sleeper_now (next - 1) s)) Tick).stranger

-- the same in two: whether it stays open, and what it is then
abbrev pub stays_ticked : ℕ → ℕ → Sleeper → Bool
stays_ticked id next s = stays_open Tick (record { id = id; stranger = sleeper_now (next - 1) s })

abbrev pub sleeper_ticked : ℕ → ℕ → Sleeper → Sleeper
sleeper_ticked id next s =
    record { stranger = (passed Tick (record { id = id; stranger = sleeper_now (next - 1) s })).stranger; touched = next }

abbrev pub row_if : ℕ → Option Sleeper → List Row → List Row
row_if id None rs = rs
row_if id (Some s) rs = record { id = id; sleeper = s } ∷ rs

-- those whom it ends have taken it, the others are as they were
abbrev pub all_ended : ℕ → List Row → List Row
all_ended next [] = []
all_ended next (r ∷ rs) =
    if is_met next (deadline_of r.sleeper) then row_if r.id (sleeper_ended r.id next r.sleeper) (all_ended next rs) else r
    ∷ all_ended next rs

-- and so the one with the id, if there is one
abbrev pub ended_if : ℕ → ℕ → Option Sleeper → List Row → List Row
ended_if id next None rs = rs
ended_if id next (Some s) rs = with_row id (sleeper_ended id next s) rs

abbrev pub ended_at : ℕ → ℕ → List Row → List Row
ended_at id next rs = ended_if id next (sleeper_at id rs) rs

-- before the tick, no earlier one ended its T3470
pub record IsEnding (next : ℕ) (s : Sleeper) : Type 0 where
  pub past : s.touched < next
  pub asleep : IsAsleep (next - 1 - s.touched) s.stranger

abbrev pub IsEndingIf : ℕ → Option Sleeper → Type 0
IsEndingIf next None = Unit {0}
IsEndingIf next (Some s) = IsEnding next s

-- the tick is under way: it has been touched by it, or sleeps until it
pub record IsAround (next : ℕ) (s : Sleeper) : Type 0 where
  pub past : s.touched ≤ next
  pub asleep : IsAsleep (next - 1 - s.touched) s.stranger

abbrev pub AreAround : ℕ → List Row → Type 0
AreAround next rs = Every (λ r. IsAround next r.sleeper) rs

-- what always holds of a table: no tick has ended the T3470 of a stranger since it was touched
pub record AreStrangers (clock : ℕ) (rs : List Row) : Type 0 where
  pub rows : AreRows rs
  pub sleeping : AreSleeping clock rs
