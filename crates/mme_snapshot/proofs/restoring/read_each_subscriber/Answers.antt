use Rattle.std.proofs.Common.{Some, arith}
use Rattle.std.proofs.lemmas.Result.{err_from_is_err_and}
use Rattle.mme_snapshot.specs.Restored.{subscriber_at_place}
use Rattle.mme_snapshot.proofs.Repeating.{ends, goes_on, is_done}
use Rattle.mme_snapshot.proofs.restoring.read_each_subscriber.Goals as goal

pub loop-preserved : goal.loop-preserved
loop-preserved c =
    let many = c.loop.invariant.many in
    let more = c.in_ok-building.ensures.count in
    record {
      so_far = goes_on (subscriber_at_place (Some c.args.most)) c.args.count c.loop.counter (c.loop.building, c.loop.reader)
          (c.in_ok-building.building, c.read_subscriber.new.reader) _ c.loop-test.true c.in_ok-building.ensures.ok c.loop.invariant.so_far;
      many = omega (arith, many, more);
    }

pub returns-in_err-building-clause-refused : goal.returns-in_err-building-clause-refused
returns-in_err-building-clause-refused c =
    let p = err_from_is_err_and c.from_residual.result c.from_residual.ensures.1 in
    rw (p.1, p.2) (λ known.
    ends (subscriber_at_place (Some c.args.most)) c.in_err-building.field-0.0 c.args.count c.loop.counter
    (c.loop.building, c.loop.reader) _ c.loop-test.true (c.in_err-building.ensures.refused known) c.loop.invariant.so_far)

pub returns-clause-ok : goal.returns-clause-ok
returns-clause-ok c =
    is_done (subscriber_at_place (Some c.args.most)) c.args.count c.loop.counter (c.loop.building, c.loop.reader) _
    (let t = c.loop-test.false in omega (arith, t)) c.loop.invariant.so_far
