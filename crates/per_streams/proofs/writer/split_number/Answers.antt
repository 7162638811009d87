use Rattle.std.proofs.Common.{◌-◌, ◌<◌, refl, arith}
use Rattle.std.proofs.lemmas.Grind.{one_shifted}
use Rattle.std.proofs.Math.Pow.{pow_mono}
use Rattle.per_streams.specs.PartLaws.{bits-split}
use Rattle.per_streams.proofs.writer.split_number.Goals as goal

pub returns-clause-parts : goal.returns-clause-parts
returns-clause-parts c =
    let k = c.args.left - c.args.some in
    let few : k < 64 = let r = c.requires.some in let o = c.requires.left in omega (arith, r, o) in
    rw (one_shifted k 18446744073709551615 refl few).0
    (bits-split c.args.left c.args.some c.args.number c.requires.most c.requires.fits).0

pub returns-clause-part : goal.returns-clause-part
returns-clause-part c = (bits-split c.args.left c.args.some c.args.number c.requires.most c.requires.fits).1

pub overflow_cast-result-2 : goal.overflow_cast-result-2
overflow_cast-result-2 c =
    let part = (bits-split c.args.left c.args.some c.args.number c.requires.most c.requires.fits).1 in
    let octet = pow_mono {i = c.args.some} {j = 8} c.requires.octet in
    omega (arith, part, octet)
