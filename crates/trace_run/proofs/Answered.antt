-- The texts of answers, one after another.
use Rattle.std.proofs.Common.{subst, ◌≡◌, ℕ, ◌+◌, ◌<◌, List, ◌++◌, length, Err, take, drop, get_or, sym, ap, ◌∙◌}
use Rattle.std.proofs.lemmas.List.{take-append-drop}
use Rattle.mme_core.specs.mme_answering.declared.out.Out.{Out}
use Rattle.trace_progress.specs.declared.fault.PlayFault.{PlayFault}
use Rattle.trace_progress.specs.declared.fault.PlayFault.TheVariants.{Trace, Read, Write, NoMemory}
use Rattle.trace_answers.specs.Words.{answers_of, out_text}
use Rattle.trace_answers.specs.WordLaws.{answers_of-append, answers_of-more}
use Rattle.trace_progress.specs.Acts.{IsPrefix, Puts}
use Rattle.trace_progress.specs.FrontLaws.{IsPrefix-of, IsPrefix-after, IsPrefix-more}

pub answers_of-front : (outs : List Out) (i : ℕ) (out : Out) → i < length outs → out ≡ get_or outs i out
    → IsPrefix (answers_of (take i outs) ++ out_text out) (answers_of outs)
answers_of-front outs i out h e = (
  answers_of (drop (i + 1) outs),
  ap answers_of (sym (take-append-drop (i + 1) outs)) ∙ answers_of-append (take (i + 1) outs) (drop (i + 1) outs)
      ∙ ap (λ v. v ++ answers_of (drop (i + 1) outs)) (answers_of-more outs i out h e),
)

front_of-front : (front text all : List ℕ) → IsPrefix front text → IsPrefix text all → IsPrefix front all
front_of-front front text all p q = IsPrefix-of front (text ++ q.0) all (sym q.1) (IsPrefix-more front text q.0 p)

-- a text that is not wholly written, after one that is
pub Puts-after : (A B : Type 0) (before text all written : List ℕ) (fault : PlayFault) → IsPrefix (before ++ text) all
    → Puts {A = A} text (Err fault) written → Puts {A = B} all (Err fault) (before ++ written)
Puts-after A B before text all written NoMemory p h =
    front_of-front (before ++ written) (before ++ text) all (IsPrefix-after before written text h) p
Puts-after A B before text all written Write p h =
    front_of-front (before ++ written) (before ++ text) all (IsPrefix-after before written text h) p
Puts-after A B before text all written Read p h = absurd h
Puts-after A B before text all written (Trace line fault) p h = absurd h

-- a fault leaves as much of a text that is the same
pub Puts-same : (A B : Type 0) (text other written : List ℕ) (fault : PlayFault) → text ≡ other
    → Puts {A = A} text (Err fault) written → Puts {A = B} other (Err fault) written
Puts-same A B text other written NoMemory e h = subst (IsPrefix written) e h
Puts-same A B text other written Write e h = subst (IsPrefix written) e h
Puts-same A B text other written Read e h = absurd h
Puts-same A B text other written (Trace line fault) e h = absurd h
