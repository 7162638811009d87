use Rattle.std.proofs.Common.{[]}
use Rattle.sim_printing.specs.Printed.{PrintsOn}
use Rattle.sim_lines.specs.Further.{GoesFurther}
use Rattle.sim_lines.specs.Turns.{scene_of}
use Rattle.sim_lines.proofs.Playing.{QueueStands}
use Rattle.sim_lines.proofs.turns.play_queue.Given as goal

abbrev pub invariant-loop-turn : goal.invariant-loop-turn
invariant-loop-turn l = record {
  printed : PrintsOn l.initial.script.progress l.initial.out.items l.script.progress l.out.items [];
  goes : GoesFurther l.initial.script.progress l.initial.out.items l.script.progress l.out.items;
  stands :
      QueueStands l.initial.queue.items (scene_of l.initial.script l.initial.out.items) l.turn l.queue.items
      (scene_of l.script l.out.items);
}
