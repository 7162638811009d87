use Rattle.std.proofs.Common.{take, arith}
use Rattle.std.proofs.lemmas.List.{take_all}
use Rattle.sim_lines.proofs.Playing.{Delivers-all, Delivers-more, Delivers-none}
use Rattle.sim_lines.proofs.turns.deliver_each.Goals as goal

pub loop-message-init : goal.loop-message-init
loop-message-init c = Delivers-none c.args.crowd.now c.args.queue.now.items

pub loop-message-preserved : goal.loop-message-preserved
loop-message-preserved c =
    Delivers-more c.args.sent.now c.loop-message.message-index c.message-item.result c.as_slice.result.now c.args.crowd.now
    c.loop-message.crowd c.deliver.new.self c.args.queue.now.items c.loop-message.queue.items c.deliver.new.queue.items
    (omega arith) c.message-item.is c.as_slice.ensures c.loop-message.invariant c.in_ok-deliver.ensures.ok
    c.in_ok-deliver.ensures.sent

pub returns : goal.returns
returns c =
    let i = c.loop-message.message-index in
    let sent = c.args.sent.now in
    let done =
    Delivers-all sent (take i sent) c.args.crowd.now c.loop-message.crowd c.args.queue.now.items c.loop-message.queue.items
    (take_all i sent (omega arith)) c.loop-message.invariant in
    record { crowd = done.crowd; queue = done.queued }
