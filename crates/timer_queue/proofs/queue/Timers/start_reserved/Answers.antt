use Rattle.std.proofs.Common.{ap, ◌∙◌}
use Rattle.timer_queue.specs.Countdowns.{timer_of, ticks_left, started}
use Rattle.timer_queue.proofs.Changes.{started_again, stopped_is_off}
use Rattle.timer_queue.proofs.queue.Timers.start_reserved.Goals as goal

pub start_stopped-requires-clause-off : goal.start_stopped-requires-clause-off
start_stopped-requires-clause-off c =
    ap (ticks_left c.args.owner c.args.kind) c.stop.ensures.running
    ∙ stopped_is_off (timer_of c.args.owner c.args.kind) c.args.self.now.running c.clock.ensures.order

pub returns-clause-running : goal.returns-clause-running
returns-clause-running c =
    c.start_stopped.ensures.running ∙ ap (started c.args.owner c.args.kind c.args.ticks) c.stop.ensures.running
    ∙ started_again (timer_of c.args.owner c.args.kind) c.args.ticks c.args.self.now.running c.clock.ensures.order
