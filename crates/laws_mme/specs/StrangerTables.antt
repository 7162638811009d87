-- What ticks and notices make of strangers.
use Rattle.std.specs.Prelude.{◌≡◌, ◌==◌, ℕ, true, false, List, [], Option, Some, if◌then◌else◌}
use Rattle.identity_slots.specs.declared.profile.Profile.{Profile}
use Rattle.sorted_list.specs.Ordered.{Rising}
use Rattle.stranger_machine.specs.declared.state.Stranger.{Stranger}
use Rattle.stranger_machine.specs.declared.table.Known.{Known}
use Rattle.stranger_machine.specs.declared.turn.Notice.{Notice}
use Rattle.stranger_machine.specs.declared.turn.Notice.TheVariants.{Tick}
use Rattle.stranger_machine.specs.Machine.{Input, Nothing, Notes, is_of_station, notes, stranger_step}
use Rattle.stranger_machine.specs.Table.{known_id, noted, stranger_at, with_input}
use Rattle.stranger_machine.specs.Ticks.{IsAsleep, is_ending, stranger_aged, stranger_ticked}
use Rattle.stranger_machine.specs.Turns.{stays}

-- ---- one stranger

-- n ticks that don't end T3470 are n ticks less
abbrev pub StrangerTicksAreAged : Type 0
StrangerTicksAreAged = (id n : ℕ) (s : Stranger) → IsAsleep n s → stranger_ticked id n (Some s) ≡ Some (stranger_aged n s)

-- a tick that doesn't end T3470 is a tick less, and nothing is sent
abbrev pub QuietNotice : Type 0
QuietNotice = (id : ℕ) (s : Stranger) → is_ending s ≡ false → notes id (Some s) Tick ≡ stays (Some (stranger_aged 1 s)) []

-- nothing is sent at what happens to a station
abbrev pub StationSilent : Type 0
StationSilent = (id : ℕ) (s : Option Stranger) (notice : Notice) → is_of_station notice ≡ true → (notes id s notice).sent ≡ []

-- ---- all of them, by rising id

-- where one takes an input, each goes as its own machine, the others with nothing
abbrev pub OneTurns : Type 0
OneTurns =
    (ps : List Profile) (id n : ℕ) (input : Input) (ks : List Known) → Rising known_id ks
    → stranger_at id (with_input ps n input ks)
    ≡ (stranger_step ps id (stranger_at id ks) (if n == id then input else Nothing)).stranger

-- and so at a notice to all
abbrev pub AllTurn : Type 0
AllTurn =
    (ps : List Profile) (id : ℕ) (notice : Notice) (ks : List Known) → Rising known_id ks
    → stranger_at id (noted notice ks) ≡ (stranger_step ps id (stranger_at id ks) (Notes notice)).stranger
