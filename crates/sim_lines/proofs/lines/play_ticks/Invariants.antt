use Rattle.std.proofs.Common.{[]}
use Rattle.sim_printing.specs.Printed.{PrintsOn}
use Rattle.sim_lines.specs.Further.{GoesFurther}
use Rattle.sim_lines.specs.Plays.{TakesTicks}
use Rattle.sim_lines.specs.Turns.{scene_of}
use Rattle.sim_lines.proofs.lines.play_ticks.Given as goal

abbrev pub invariant-loop-tick : goal.invariant-loop-tick
invariant-loop-tick l = record {
  printed : PrintsOn l.initial.script.progress l.initial.out.items l.script.progress l.out.items [];
  goes : GoesFurther l.initial.script.progress l.initial.out.items l.script.progress l.out.items;
  taken : TakesTicks l._tick (scene_of l.initial.script l.initial.out.items) (scene_of l.script l.out.items);
}
