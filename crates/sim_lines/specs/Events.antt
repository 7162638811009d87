-- The lines of a script that are events, and no questions.
use Rattle.std.specs.Prelude.{IsTrue}
use Rattle.trace_words.specs.declared.line.Line.{Line}
use Rattle.trace_words.specs.declared.line.Line.TheVariants.{Show}
use Rattle.sim_lines.specs.Faults.{is_for_mme}

-- something happens, to a station or to a subscriber: what is for the MME, but for a question
abbrev pub IsEventLine : Line → Type 0
IsEventLine (Show imsi) = ⊥
IsEventLine line = IsTrue (is_for_mme line)
