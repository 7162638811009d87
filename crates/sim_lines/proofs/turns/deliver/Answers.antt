use Rattle.std.proofs.Common.{◌≡◌, ◌++◌, OnOk, subst}
use Rattle.sim_crowd.specs.Hearing.{Delivered}
use Rattle.sim_lines.proofs.Playing.{delivering_sent-is}
use Rattle.sim_lines.proofs.turns.deliver.Goals as goal

pub returns-clause-crowd : goal.returns-clause-crowd
returns-clause-crowd c =
    let is = delivering_sent-is c.args.sent c.in-Some.outs c.as_slice.result.now c.args.crowd.now c.in-Some.is c.as_slice.ensures in
    subst (λ (d : Delivered). OnOk c.deliver_each.result (c.deliver_each.new.crowd ≡ d.crowd)) is c.deliver_each.ensures.crowd

pub returns-clause-queue : goal.returns-clause-queue
returns-clause-queue c =
    let is = delivering_sent-is c.args.sent c.in-Some.outs c.as_slice.result.now c.args.crowd.now c.in-Some.is c.as_slice.ensures in
    let all = c.deliver_each.new.queue.items in
    subst (λ (d : Delivered). OnOk c.deliver_each.result (all ≡ c.args.queue.now.items ++ d.sent)) is c.deliver_each.ensures.queue
