use Rattle.std.proofs.Common.{sym, arith}
use Rattle.std.proofs.lemmas.Result.{err_from_is_err_and}
use Rattle.per_bits.specs.Writing.{write_at}
use Rattle.snapshot_formats.specs.Formats.{saved_vector}
use Rattle.mme_snapshot.specs.Stored.{stored_vector}
use Rattle.mme_snapshot.proofs.VectorsWritten.{ends, goes_on, is_done}
use Rattle.mme_snapshot.proofs.stored.write_each_vector.Goals as goal

pub returns-in_err-write_vector : goal.returns-in_err-write_vector
returns-in_err-write_vector c =
    let vs = c.args.stored.now.subscriber.now.setting.vectors in
    let p = err_from_is_err_and c.from_residual.result c.from_residual.ensures.1 in
    rw (p.1, p.2)
    (ends (write_at saved_vector) stored_vector vs c.in_err-write_vector.field-0.0 c.loop-place.place c.in-Some.vector.now
    c.loop-place.writer _ (sym c.in-Some.ensures) c.in_err-write_vector.ensures c.loop-place.invariant)

pub loop-place-preserved : goal.loop-place-preserved
loop-place-preserved c =
    let vs = c.args.stored.now.subscriber.now.setting.vectors in
    goes_on (write_at saved_vector) stored_vector vs c.loop-place.place c.in-Some.vector.now c.loop-place.writer
    c.write_vector.new.writer _ (sym c.in-Some.ensures) c.in_ok-write_vector.ensures c.loop-place.invariant

pub returns : goal.returns
returns c =
    let vs = c.args.stored.now.subscriber.now.setting.vectors in
    is_done (write_at saved_vector) stored_vector vs c.loop-place.place c.loop-place.writer _
    (let t = c.loop-place-test.false in let all = c.requires.all in omega (arith, t, all)) c.loop-place.invariant
