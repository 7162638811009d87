-- What is written is a line that is read again.
use Rattle.std.specs.Prelude.{◌≡◌, ℕ, ◌==◌, Bool, true, false, cond, List, [], ◌∷◌, Ok}
use Rattle.trace_words.specs.declared.line.Line.{Line}
use Rattle.trace_words.specs.Trace.{line_of, line_text}

-- no LF
abbrev pub is_unbroken : List ℕ → Bool
is_unbroken [] = true
is_unbroken (c ∷ cs) = cond (c == 10) false (is_unbroken cs)

-- a line whose text is read as the line
pub record IsRewritten (line : Line) : Type 0 where
  pub again : line_of (line_text line) ≡ Ok line
  pub unbroken : is_unbroken (line_text line) ≡ true

-- each line that some text says
abbrev pub WrittenIsRead : Type 0
WrittenIsRead = (text : List ℕ) (line : Line) → line_of text ≡ Ok line → IsRewritten line
