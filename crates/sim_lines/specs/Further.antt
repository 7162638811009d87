-- What is left of a call that prints, also where memory is refused to it.
use Rattle.std.specs.Prelude.{ℕ, List}
use Rattle.trace_progress.specs.Acts.{IsPrefix}
use Rattle.trace_progress.specs.declared.progress.Progress.{Progress}
use Rattle.sim_printing.specs.Stopped.{IsFurther}

-- the trace is as far as it got, and the output is what it was with something after it
pub record GoesFurther (old : Progress) (before : List ℕ) (new : Progress) (after : List ℕ) : Type 0 where
  pub trace : IsFurther old new
  pub output : IsPrefix before after
