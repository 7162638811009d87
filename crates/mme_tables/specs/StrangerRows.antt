-- Strangers as they were when they were last touched, and as they are now.
use Rattle.std.specs.Prelude.{ℕ, ◌-◌, ◌<◌, ◌≤◌, ◌^◌, List, map, Option, Some, None, option_map}
use Rattle.sorted_list.specs.Ordered.{Rising, Every, at, put, without}
use Rattle.stranger_machine.specs.declared.state.Stranger.{Stranger}
use Rattle.stranger_machine.specs.declared.table.Known.{Known}
use Rattle.stranger_machine.specs.Ticks.{IsAsleep, stranger_aged}
use Rattle.mme_tables.specs.declared.sleeper.Sleeper.{Sleeper}

-- a stranger that isn't closed, by its id
pub record Row : Type 0 where
  pub id : ℕ
  pub sleeper : Sleeper

abbrev pub row_id : Row → ℕ
row_id r = r.id

abbrev pub sleeper_at : ℕ → List Row → Option Sleeper
sleeper_at id rs = option_map (λ r. r.sleeper) (at row_id id rs)

-- the one with the id is that one from now on, or is gone
abbrev pub with_row : ℕ → Option Sleeper → List Row → List Row
with_row id None rs = without row_id id rs
with_row id (Some s) rs = put row_id (record { id = id; sleeper = s }) rs

-- by rising id, each of 32 bits
pub record AreRows (rs : List Row) : Type 0 where
  pub rising : Rising row_id rs
  pub small : Every (λ r. r.id < 2 ^ 32) rs

-- ---- as they are now

-- the stranger after the ticks since it was touched
abbrev pub sleeper_now : ℕ → Sleeper → Stranger
sleeper_now clock s = stranger_aged (clock - s.touched) s.stranger

abbrev pub known_now : ℕ → Row → Known
known_now clock r = record { id = r.id; stranger = sleeper_now clock r.sleeper }

abbrev pub all_now : ℕ → List Row → List Known
all_now clock rs = map (known_now clock) rs

-- no tick has ended its T3470 since it was touched
pub record IsSleeping (clock : ℕ) (s : Sleeper) : Type 0 where
  pub past : s.touched ≤ clock
  pub asleep : IsAsleep (clock - s.touched) s.stranger

abbrev pub AreSleeping : ℕ → List Row → Type 0
AreSleeping clock rs = Every (λ r. IsSleeping clock r.sleeper) rs

-- touched now
abbrev pub awakened : ℕ → Sleeper → Sleeper
awakened clock s = record { stranger = sleeper_now clock s; touched = clock }
