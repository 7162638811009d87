use Rattle.std.proofs.Common.{◌∙◌, ap}
use Rattle.timer_queue.specs.declared.timer.Kind.TheVariants.{Reachable}
use Rattle.timer_queue.specs.declared.timer.TimerOwner.TheVariants.{Subscriber}
use Rattle.timer_queue.specs.Countdowns.{ticks_left}
use Rattle.mme_tables.specs.SlotLaws.{retimed_beside}
use Rattle.mme_tables.proofs.timing.retime.Goals as goal

pub retime_one-requires-2-clause-known : goal.retime_one-requires-2-clause-known
retime_one-requires-2-clause-known c =
    ap (ticks_left (Subscriber c.args.slot) Reachable) c.retime_one.ensures.running
    ∙ retimed_beside c.args.slot c.args.left.0 c.args.timers.now.running c.ranges.slot.fits c.clock.ensures.order
    ∙ c.requires.known.1
