use Rattle.std.proofs.Common.{arith}
use Rattle.per_streams.specs.WholeOctets.{bits_below, field_ok}
use Rattle.per_bits.proofs.field.take_kept.Goals as goal

pub returns-clause-exact : goal.returns-clause-exact
returns-clause-exact g c = field_ok g.row.N c.args.reader.now c.in_ok-number.number c.take_bits.new.self c.in_ok-number.ensures

pub returns-clause-kept : goal.returns-clause-kept
returns-clause-kept g c =
    let few = c.if-this-gt64.false in
    (omega (arith, few), bits_below g.row.N c.args.reader.now c.in_ok-number.number c.take_bits.new.self c.in_ok-number.ensures)
