use Rattle.sim_lines.proofs.Further.{stays}
use Rattle.sim_lines.specs.Turns.{scene_of}
use Rattle.sim_lines.proofs.Playing.{PlaysAnswers-queue}
use Rattle.sim_lines.proofs.turns.play_answers.Goals as goal

pub returns-in_err-deliver-clause-goes : goal.returns-in_err-deliver-clause-goes
returns-in_err-deliver-clause-goes c = stays

pub returns-clause-plays : goal.returns-clause-plays
returns-clause-plays c =
    PlaysAnswers-queue c.play_queue.result c.args.sent c.args.script.now.progress c.args.script.now.crowd c.deliver.new.crowd
    c.args.out.now.items c.new-queue.result.items c.deliver.new.queue.items (scene_of c.play_queue.new.script c.play_queue.new.out.items)
    c.new-queue.ensures.items c.in_ok-deliver.ensures.crowd c.in_ok-deliver.ensures.queue c.play_queue.ensures.plays
