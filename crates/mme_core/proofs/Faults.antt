-- One event more, and its fault.
use Rattle.std.proofs.Common.{◌≡◌, List, [], ◌∷◌, ◌++◌, length, Bool, true, false, Result, Err, subst, arith}
use Rattle.std.specs.Prelude.{if◌then◌else◌, IfSome}
use Rattle.mme_core.specs.declared.event.Event.{Event}
use Rattle.mme_core.specs.declared.event.StepFault.{StepFault}
use Rattle.mme_answering.specs.declared.out.Out.{Out}
use Rattle.mme_core.specs.Faults.{HasEachFault, replied}
use Rattle.mme_core.specs.World.{World, event_fault, events_taken, is_no_memory, world_after, world_run}

-- the first event is taken, or left out
run_from : (b : Bool) (w now : World) (e : Event) (es : List Event) → now ≡ world_run w (if b then es else e ∷ es)
    → now ≡ world_run (if b then w else world_after w e) es
run_from true w now e es h = h
run_from false w now e es h = h

pub faults_push : (w now : World) (es : List Event) (rs : List (Result (List Out) StepFault)) (e : Event) (r : Result (List Out) StepFault) → length es ≡ length rs → HasEachFault w es rs
    → now ≡ world_run w (events_taken es rs) → IfSome (event_fault now.sight e) (λ fault. r ≡ Err fault)
    → HasEachFault w (es ++ e ∷ []) (rs ++ r ∷ [])
faults_push w now [] [] e r len h at own =
    (subst (λ (v : World). IfSome (event_fault v.sight e) (λ fault. r ≡ Err fault)) at own, tt)
faults_push w now [] (y ∷ rs) e r len h at own = absurd (omega arith)
faults_push w now (x ∷ es) [] e r len h at own = absurd (omega arith)
faults_push w now (x ∷ es) (y ∷ rs) e r len h at own = (h.0, faults_push (replied y x w) now es rs e r (omega arith) h.1 (run_from (is_no_memory y) w now x (events_taken es rs) at) own)
