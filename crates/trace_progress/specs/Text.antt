-- From the octets of a trace to the octets of its answers.
use Rattle.std.specs.Prelude.{ℕ, ◌+◌, ◌==◌, List, [], ◌∷◌, ◌++◌, Option, Some, None, Ok, Err, if◌then◌else◌}
use Rattle.std.specs.List.{onto_first}
use Rattle.trace_words.specs.Trace.{line_of, ◌>>=◌}
use Rattle.trace_words.specs.declared.fault.TraceFault.{TraceFault}
use Rattle.trace_progress.specs.declared.progress.Progress.{Progress}
use Rattle.trace_progress.specs.declared.progress.Progress.TheVariants.{Nothing}
use Rattle.trace_progress.specs.Effects.{Effect, effect_of}

-- how many LFs there are
abbrev pub breaks : List ℕ → ℕ
breaks [] = 0
breaks (c ∷ cs) = if c == 10 then 1 + breaks cs else breaks cs

-- the lines of a text: each ends with LF, and the last may lack it
unfoldable pub lines_of : List ℕ → List (List ℕ)
lines_of [] = []
lines_of (c ∷ cs) = if c == 10 then [] ∷ lines_of cs else onto_first c (lines_of cs)

abbrev pub line_effect : Progress → List ℕ → Effect
line_effect progress text = line_of text >>= effect_of progress

-- a text, and the fault that ended it with its line
pub record Played : Type 0 where
  pub text : List ℕ
  pub fault : Option (ℕ × TraceFault)

abbrev pub prepended : List ℕ → Played → Played
prepended text played = record { text = text ++ played.text; fault = played.fault }

abbrev pub played_text : List ℕ → Option (ℕ × TraceFault) → Played
played_text text fault = record { text = text; fault = fault }

abbrev pub then_play : ℕ → Effect → (Progress → Played) → Played
then_play line (Ok done) rest = prepended done.1 (rest done.0)
then_play line (Err fault) rest = played_text [] (Some (line, fault))

-- the lines from this one on, which has this number
unfoldable pub play : Progress → ℕ → List (List ℕ) → Played
play progress line [] = played_text [] None
play progress line (text ∷ texts) = then_play line (line_effect progress text) (λ new. play new (line + 1) texts)

-- a whole trace
abbrev pub played_of : List ℕ → Played
played_of octets = play Nothing 1 (lines_of octets)
