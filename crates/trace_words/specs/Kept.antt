-- Which lines a simulation passes on from its script to the trace that it writes.
use Rattle.std.specs.Prelude.{ℕ, ◌==◌, ◌||◌, Bool, true, false, cond, List, [], ◌∷◌, codes, Result, Ok}
use Rattle.std.specs.List.{slice_split}
use Rattle.std.specs.Str.{bytes_eq}
use Rattle.trace_words.specs.declared.line.Line.{Line}
use Rattle.trace_words.specs.declared.line.Line.TheVariants.{Skip, Mme, Sub, Vec, Up, Lost, In, Tick, Data, Cancel, Show}
use Rattle.trace_words.specs.declared.fault.TraceFault.{TraceFault}
use Rattle.trace_words.specs.Trace.{line_of}

-- what is provisioned, what comes from outside, and questions
abbrev pub is_kept_word : List ℕ → Bool
is_kept_word word =
    bytes_eq word (codes "mme") || bytes_eq word (codes "sub") || bytes_eq word (codes "vec")
    || bytes_eq word (codes "data") || bytes_eq word (codes "cancel") || bytes_eq word (codes "show")

abbrev pub begins_kept : List (List ℕ) → Bool
begins_kept [] = false
begins_kept (word ∷ fields) = is_kept_word word

-- whether the first word of a line is such a word
abbrev pub is_kept_text : List ℕ → Bool
is_kept_text text = begins_kept (slice_split (λ c. c == 32) text)

-- the same of what a line says
abbrev pub is_kept_line : Line → Bool
is_kept_line Skip = false
is_kept_line (Mme m) = true
is_kept_line (Sub p) = true
is_kept_line (Vec i v) = true
is_kept_line (Up e) = false
is_kept_line (Lost e) = false
is_kept_line (In e octets) = false
is_kept_line (Tick n) = false
is_kept_line (Data i) = true
is_kept_line (Cancel i) = true
is_kept_line (Show i) = true

-- the kept lines of some, as they are read
abbrev pub kept_in : List (List ℕ) → List (Result Line TraceFault)
kept_in [] = []
kept_in (text ∷ texts) = cond (is_kept_text text) (line_of text ∷ kept_in texts) (kept_in texts)

-- what one line adds to them
abbrev pub kept_line : Line → List (Result Line TraceFault)
kept_line line = cond (is_kept_line line) (Ok line ∷ []) []
