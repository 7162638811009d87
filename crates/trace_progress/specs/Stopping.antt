-- What has become of the MME, and of how far a trace has got, where what a line does stops before its end.
use Rattle.std.specs.Prelude.{◌≡◌, ◌⊎◌, ℕ, ◌≤◌, List, length, take, Ok}
use Rattle.mme_core.specs.World.{World, world_run}
use Rattle.mme_core.specs.declared.event.Event.{Event}
use Rattle.trace_progress.specs.declared.progress.Progress.{Progress}
use Rattle.trace_progress.specs.declared.progress.Progress.TheVariants.{Running}
use Rattle.trace_progress.specs.Effects.{running}
use Rattle.trace_progress.specs.Acts.{IsUnmade}

-- ---- the MME

-- the MME has taken the first of these events, and no other
abbrev pub HasTaken : List Event → World → World → Type 0
HasTaken events before after = (n : ℕ) × (n ≤ length events) × (after ≡ world_run before (take n events))

-- it has taken some events, one after another, and nothing else
abbrev pub HasTakenEvents : World → World → Type 0
HasTakenEvents before after = (events : List Event) × (after ≡ world_run before events)

-- ---- how far the trace has got

-- the MME that a line speaks to runs, and this has become of it
abbrev pub RunsOn : (World → World → Type 0) → Progress → Progress → Type 0
RunsOn R old new = (before : World) × (after : World) × (running old ≡ Ok before) × (new ≡ Running after) × R before after

-- the trace stands where it stood; or nothing is left of what the MME was to be made of; or the MME runs, and this has become of it
abbrev pub StopsWith : (World → World → Type 0) → Progress → Progress → Type 0
StopsWith R old new = (new ≡ old) ⊎ (IsUnmade old new ⊎ RunsOn R old new)
