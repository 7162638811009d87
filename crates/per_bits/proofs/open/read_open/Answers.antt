use Rattle.std.proofs.lemmas.Result.{err_from_is_err_and}
use Rattle.per_bits.specs.Reading.{read_at}
use Rattle.per_bits.proofs.Passing.{inside_fails, inside_ok}
use Rattle.per_bits.proofs.open.read_open.Goals as goal

pub returns-in_err-value : goal.returns-in_err-value
returns-in_err-value g c =
    let p = err_from_is_err_and c.from_residual-in_err-value.result c.from_residual-in_err-value.ensures.1 in
    rw (p.1, p.2)
    (inside_fails c.in_err-value.field-0.0
    (read_at g.T.Element.format) c.args.reader.now c.in_ok-octets.octets.now c.take_open.new.reader c.in_ok-octets.ensures
    c.in_err-value.ensures)

pub returns : goal.returns
returns g c =
    inside_ok (read_at g.T.Element.format) c.args.reader.now c.in_ok-octets.octets.now c.take_open.new.reader
    (g.T.Element.view c.in_ok-value.value) c.in_ok-octets.ensures c.in_ok-value.ensures
