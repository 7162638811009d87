-- What calls print, one after another.
use Rattle.std.proofs.Common.{◌≡◌, ℕ, List, [], Result, Ok, Err, OnOk, sym, subst}
use Rattle.trace_words.specs.declared.line.Line.{Line}
use Rattle.trace_words.specs.declared.fault.TraceFault.{TraceFault}
use Rattle.trace_words.specs.Kept.{kept_line}
use Rattle.trace_progress.specs.declared.progress.Progress.{Progress}
use Rattle.sim_printing.specs.Printed.{AddsComments, IsBegun, PrintsOn}
use Rattle.sim_printing.specs.PrintLaws.{Prints-none, Prints-then, Prints-comments}

pub PrintsOn-then : (a b c : Progress) (s t u : List ℕ) (kept : List (Result Line TraceFault)) → PrintsOn a s b t kept
    → PrintsOn b t c u [] → PrintsOn a s c u kept
PrintsOn-then a b c s t u kept p q = (q.0, Prints-then a b c s t u kept p.1 q.1)

-- what the last call answers
pub PrintsOn-on : {E : Type 0} (result : Result (Unit {0}) E) (a b c : Progress) (s t u : List ℕ)
    (kept : List (Result Line TraceFault)) → PrintsOn a s b t kept → OnOk result (PrintsOn b t c u [])
    → OnOk result (PrintsOn a s c u kept)
PrintsOn-on (Ok x) a b c s t u kept p h = PrintsOn-then a b c s t u kept p h
PrintsOn-on (Err e) a b c s t u kept p h = h

-- nothing is printed
pub PrintsOn-none : (progress : Progress) (out : List ℕ) → IsBegun progress → PrintsOn progress out progress out []
PrintsOn-none progress out h = (h, Prints-none progress out)

-- a comment that answers nothing
pub PrintsOn-remark : (progress : Progress) (before after : List ℕ) → IsBegun progress → AddsComments before after []
    → PrintsOn progress before progress after []
PrintsOn-remark progress before after h adds = (h, Prints-comments progress before after adds)

-- the line that was played
pub PrintsOn-line : {E : Type 0} (result : Result (Unit {0}) E) (line same : Line) (old new : Progress) (before after : List ℕ)
    → line ≡ same
    → OnOk result (PrintsOn old before new after (kept_line same)) → OnOk result (PrintsOn old before new after (kept_line line))
PrintsOn-line result line same old new before after e h =
    subst (λ (v : Line). OnOk result (PrintsOn old before new after (kept_line v))) (sym e) h
