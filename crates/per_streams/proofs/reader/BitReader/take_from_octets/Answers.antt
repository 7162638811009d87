use Rattle.std.proofs.Common.{ℕ, ◌+◌, ◌-◌, ◌*◌, ◌/◌, ◌<◌, refl, arith}
use Rattle.std.proofs.lemmas.Grind.{one_shifted}
use Rattle.std.proofs.lemmas.Result.{err_from_is_err_and}
use Rattle.per_streams.specs.WholeOctets.{octets_short, number_ends, left_back}
use Rattle.per_streams.proofs.reader.BitReader.take_from_octets.Goals as goal

pub returns-in_err-number : goal.returns-in_err-number
returns-in_err-number c =
    let p = err_from_is_err_and c.from_residual.result c.from_residual.ensures.1 in
    rw (p.1, p.2) (octets_short c.args.count c.args.self.now c.in_err-number.field-0.0 c.requires.octets c.in_err-number.ensures)

pub leave-requires-clause-whole : goal.leave-requires-clause-whole
leave-requires-clause-whole c =
    let ends = number_ends (8 * ((c.args.count + 7) / 8)) _ _ _ c.in_ok-number.ensures in omega (arith, ends, c.requires.whole)

pub leave-requires-clause-before : goal.leave-requires-clause-before
leave-requires-clause-before c =
    let ends = number_ends (8 * ((c.args.count + 7) / 8)) _ _ _ c.in_ok-number.ensures in omega (arith, ends)

pub returns : goal.returns
returns c =
    let whole : ℕ = 8 * ((c.args.count + 7) / 8) in
    let few : whole - c.args.count < 64 = omega arith in
    rw (c.leave.ensures, (one_shifted (whole - c.args.count) 18446744073709551615 refl few).0)
    (left_back whole c.args.count _ c.args.self.now c.number_here.new.self (omega arith) c.in_ok-number.ensures)
