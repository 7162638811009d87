use Rattle.std.proofs.Common.{◌<◌, refl, arith}
use Rattle.std.proofs.lemmas.Grind.{one_shifted}
use Rattle.per_streams.specs.PartLaws.{bits-join, joined_fits}
use Rattle.per_streams.proofs.writer.joined.Goals as goal

pub overflow_add-result : goal.overflow_add-result
overflow_add-result c =
    let few : c.args.some < 16 = let r = c.requires.some in omega (arith, r) in
    rw (one_shifted c.args.some 65535 refl few).0
    (omega (
      arith,
      (joined_fits c.args.used c.args.some c.args.current c.args.part c.requires.used c.requires.some c.requires.fits
          c.requires.part).1,
    ))

pub returns-clause-bits : goal.returns-clause-bits
returns-clause-bits c =
    let few : c.args.some < 16 = let r = c.requires.some in omega (arith, r) in
    rw (one_shifted c.args.some 65535 refl few).0
    (bits-join c.args.used c.args.some c.args.current c.args.part c.requires.fits c.requires.part)

pub returns-clause-fits : goal.returns-clause-fits
returns-clause-fits c =
    let few : c.args.some < 16 = let r = c.requires.some in omega (arith, r) in
    rw (one_shifted c.args.some 65535 refl few).0
    (joined_fits c.args.used c.args.some c.args.current c.args.part c.requires.used c.requires.some c.requires.fits
    c.requires.part).0
