-- How far a trace has come where memory for what it does is refused.
use Rattle.std.specs.Prelude.{◌≡◌, List, [], Result, Ok}
use Rattle.trace_words.specs.declared.line.Line.{Line}
use Rattle.trace_words.specs.declared.fault.TraceFault.{TraceFault}
use Rattle.trace_words.specs.Kept.{kept_line}
use Rattle.trace_progress.specs.declared.progress.Progress.{Progress}
use Rattle.trace_progress.specs.Effects.{effect_of}
use Rattle.trace_progress.specs.Stopping.{HasTakenEvents, StopsWith}

-- as far as it got with events
abbrev pub IsFurther : Progress → Progress → Type 0
IsFurther old new = StopsWith HasTakenEvents old new

-- or the line that is kept was taken, which writes nothing
abbrev pub HasTakenLine : List (Result Line TraceFault) → Progress → Progress → Type 0
HasTakenLine kept old new = (line : Line) × (kept ≡ kept_line line) × (effect_of old line ≡ Ok (new, []))
