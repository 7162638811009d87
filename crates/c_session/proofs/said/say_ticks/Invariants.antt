use Rattle.std.proofs.Common.{ℕ, List}
use Rattle.c_session.specs.Texts.{Adds}
use Rattle.c_session.proofs.SaidTicks.{Ticking}
use Rattle.c_session.proofs.said.say_ticks.Given as goal

abbrev pub invariant-loop-tick : goal.invariant-loop-tick
invariant-loop-tick l =
    (written : List ℕ) × Ticking l.initial.mme l.tick l.mme written × Adds l.room l.initial.answers.items written l.answers.items
