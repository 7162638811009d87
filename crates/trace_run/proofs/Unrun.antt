-- Where no MME runs, nothing is written.
use Rattle.std.proofs.Common.{◌≡◌, ℕ, Bool, Result, Err, refl}
use Rattle.mme_core.specs.World.{World}
use Rattle.trace_words.specs.declared.fault.TraceFault.{TraceFault}
use Rattle.trace_progress.specs.declared.fault.PlayFault.{PlayFault}
use Rattle.trace_progress.specs.declared.fault.PlayFault.TheVariants.{Trace, Read, Write, NoMemory}
use Rattle.trace_progress.specs.declared.progress.Progress.{Progress}
use Rattle.trace_progress.specs.Acts.{Runs}
use Rattle.trace_run.specs.Watching.{failed_after_play}

pub failed-unrun : (failed : Bool) (number : ℕ) (wanted : Result World TraceFault) (fault : PlayFault) (new : Progress)
    → Runs number wanted (Err fault) new → failed ≡ failed_after_play {A = Unit {0}} failed (Err fault)
failed-unrun failed number wanted (Trace line fault) new runs = refl
failed-unrun failed number wanted NoMemory new runs = refl
failed-unrun failed number wanted Write new runs = absurd runs
failed-unrun failed number wanted Read new runs = absurd runs
