-- What of a printed text is an owner's: the lines that begin with its name.
use Rattle.std.specs.Prelude.{ℕ, ◌==◌, ◌&&◌, Bool, true, false, List, [], ◌∷◌, ◌++◌, codes, filter, map}
use Rattle.std.specs.Fmt.{decimal}
use Rattle.mme_answering.specs.declared.out.Owner.{Owner}
use Rattle.mme_core.specs.Laws.{in_order}
use Rattle.mme_core.specs.Projection.{Told}
use Rattle.trace_words.specs.Trace.{octets_text}
use Rattle.trace_answers.specs.Words.{owner_text}
use Rattle.trace_progress.specs.Text.{lines_of}

-- whether a text begins with these octets
abbrev pub begins_with : List ℕ → List ℕ → Bool
begins_with [] text = true
begins_with (c ∷ cs) [] = false
begins_with (c ∷ cs) (d ∷ ds) = c == d && begins_with cs ds

-- `out s3 ` for the subscriber of slot 3, `out x0.7 ` for the stranger with the number 7 at station 0, `out e0 ` for station 0
abbrev pub lines_for : Owner → List ℕ → List (List ℕ)
lines_for owner text = filter (begins_with (owner_text owner)) (lines_of text)

-- the line of a message: for whom it is, to which station it goes, and its octets in hex
abbrev pub told_line : Owner → Told → List ℕ
told_line owner m = owner_text owner ++ (decimal m.station ++ codes " ") ++ octets_text m.octets

-- the lines of what an owner is told at each event
abbrev pub told_lines : Owner → List (List Told) → List (List ℕ)
told_lines owner ms = map (told_line owner) (in_order ms)
