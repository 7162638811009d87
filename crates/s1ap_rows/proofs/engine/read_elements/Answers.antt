use Rattle.std.proofs.lemmas.Result.{err_from_is_err_and}
use Rattle.s1ap_rows.specs.Reading.{elements_at}
use Rattle.s1ap_rows.proofs.Gathering.{goes_on, ends_syntax, ends_put, is_done}
use Rattle.s1ap_rows.proofs.engine.read_elements.Goals as goal

pub returns-in_err-id : goal.returns-in_err-id
returns-in_err-id g c =
    let rs = g.M.Message.rows in
    let p = err_from_is_err_and c.from_residual.result c.from_residual.ensures.1 in
    rw (p.1, p.2)
    (ends_syntax rs c.args.count c.loop.counter (g.M.Message.slots c.loop.message) c.loop.reader c.in_err-id.field-0.0
    (elements_at rs c.args.count
    (g.M.Message.slots c.args.message.now) c.args.reader.now) c.loop-test.true c.in_err-id.ensures c.loop.invariant)

pub returns-in_err-put : goal.returns-in_err-put
returns-in_err-put g c =
    let rs = g.M.Message.rows in
    let p = err_from_is_err_and c.from_residual-in_err-put.result c.from_residual-in_err-put.ensures.1 in
    rw (p.1, p.2)
    (ends_put c.in_err-put.field-0.0 rs c.args.count c.loop.counter (g.M.Message.slots c.loop.message) c.loop.reader _ _
    (elements_at rs c.args.count (g.M.Message.slots c.args.message.now) c.args.reader.now) c.loop-test.true c.in_ok-id.ensures
    c.in_err-put.ensures.reads c.loop.invariant)

pub loop-preserved : goal.loop-preserved
loop-preserved g c =
    let rs = g.M.Message.rows in
    goes_on rs c.args.count c.loop.counter (g.M.Message.slots c.loop.message) c.loop.reader _ _ (g.M.Message.slots c.put.new.self) _
    (elements_at rs c.args.count (g.M.Message.slots c.args.message.now) c.args.reader.now) c.loop-test.true c.in_ok-id.ensures
    c.in_ok-put.ensures.reads c.loop.invariant

pub returns : goal.returns
returns g c =
    let rs = g.M.Message.rows in
    is_done rs c.args.count c.loop.counter (g.M.Message.slots c.loop.message) c.loop.reader
    (elements_at rs c.args.count (g.M.Message.slots c.args.message.now) c.args.reader.now) c.loop-test.false c.loop.invariant
