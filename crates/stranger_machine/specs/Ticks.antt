-- Many ticks at once of a stranger, where they don't end its T3470.
use Rattle.std.specs.Prelude.{ℕ, zero, suc, ◌+◌, ◌-◌, ◌<◌, nat_lt, not, Bool, false, Option}
use Rattle.stranger_machine.specs.declared.state.Stranger.{Stranger}
use Rattle.stranger_machine.specs.declared.state.Stranger.TheVariants.{Waiting, Held}
use Rattle.stranger_machine.specs.declared.turn.Notice.TheVariants.{Tick}
use Rattle.stranger_machine.specs.Machine.{notes}

-- what a stranger is after n ticks
unfoldable pub stranger_ticked : ℕ → ℕ → Option Stranger → Option Stranger
stranger_ticked id zero s = s
stranger_ticked id (suc n) s = (notes id (stranger_ticked id n s) Tick).stranger

-- the ticks until a countdown ends: one with no tick left ends at the next tick
abbrev pub ends_in : ℕ → ℕ
ends_in left = left - 1 + 1

-- n ticks don't end its T3470
abbrev pub IsAsleep : ℕ → Stranger → Type 0
IsAsleep n (Waiting k left repeats) = n < ends_in left
IsAsleep n (Held slot) = Unit {0}

-- n ticks less left; one that is held is as it is
abbrev pub stranger_aged : ℕ → Stranger → Stranger
stranger_aged n (Waiting k left repeats) = Waiting k (left - n) repeats
stranger_aged n (Held slot) = Held slot

-- the next tick ends its T3470
abbrev pub is_ending : Stranger → Bool
is_ending (Waiting k left repeats) = not (nat_lt 1 left)
is_ending (Held slot) = false
