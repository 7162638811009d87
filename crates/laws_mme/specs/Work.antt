-- How much a step sends.
use Rattle.std.specs.Prelude.{◌≤◌, ℕ, max, length, Option, Some}
use Rattle.mme_types.specs.Events.{Item, Nothing, Initial, Claim, Message, Displaced, StationGone, ConnectionsGone, Tick, Data, Cancel}
use Rattle.emm_state.specs.declared.setting.Setting.{Setting}
use Rattle.emm_state.specs.declared.solo.Repeat.{Repeat}
use Rattle.emm_state.specs.declared.solo.Repeat.TheVariants as repeats
use Rattle.emm_state.specs.declared.solo.Solo.{Solo}
use Rattle.emm_machine.specs.Steps.{solo_step}

-- the stations that paging goes to once more
abbrev pub paged_again : Option Repeat → ℕ
paged_again (Some (repeats.Paging es)) = length es
paged_again _ = 0

-- the most messages that an item makes a subscriber's machine send
abbrev pub most_sent : Solo → Item → ℕ
most_sent solo (Initial m) = 3
most_sent solo (Claim id m) = 3
most_sent solo (Message m) = 2
most_sent solo Tick = max 1 (paged_again solo.repeat)
most_sent solo (Data stations) = length stations
most_sent solo Cancel = 1
most_sent solo Nothing = 0
most_sent solo (Displaced id) = 0
most_sent solo (StationGone station) = 0
most_sent solo (ConnectionsGone station items) = 0

abbrev pub SendsAtMost : Type 0
SendsAtMost = (s : Setting) (solo : Solo) (item : Item) → length (solo_step s solo item).sent ≤ most_sent solo item
