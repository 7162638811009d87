use Rattle.std.proofs.Common.{◌-◌, ◌<◌, refl, arith}
use Rattle.std.proofs.lemmas.Grind.{one_shifted}
use Rattle.per_streams.specs.PartLaws.{filled_fits}
use Rattle.per_streams.proofs.writer.filled.Goals as goal

pub overflow_mul-result : goal.overflow_mul-result
overflow_mul-result c =
    let few : 8 - c.args.used < 16 = omega arith in
    rw (one_shifted (8 - c.args.used) 65535 refl few).0
    (omega (arith, (filled_fits c.args.used c.args.number c.requires.used c.requires.fits).0))

pub overflow_cast-result-2 : goal.overflow_cast-result-2
overflow_cast-result-2 c =
    let few : 8 - c.args.used < 16 = omega arith in
    rw (one_shifted (8 - c.args.used) 65535 refl few).0
    (omega (arith, (filled_fits c.args.used c.args.number c.requires.used c.requires.fits).0))

pub returns : goal.returns
returns c =
    let few : 8 - c.args.used < 16 = omega arith in
    rw (one_shifted (8 - c.args.used) 65535 refl few).0
    (filled_fits c.args.used c.args.number c.requires.used c.requires.fits).1
