use Rattle.std.proofs.Common.{◌-◌, ◌<◌, refl, arith}
use Rattle.std.proofs.lemmas.Grind.{one_shifted}
use Rattle.per_streams.specs.PartLaws.{bits-split}
use Rattle.per_streams.proofs.reader.split.Goals as goal

pub returns-clause-parts : goal.returns-clause-parts
returns-clause-parts c =
    let k = c.args.left - c.args.some in
    let few : k < 8 = let r = c.requires.some in let o = c.requires.octet in omega (arith, r, o) in
    rw (one_shifted k 255 refl few).0 (bits-split c.args.left c.args.some c.args.current c.requires.most c.requires.fits).0

pub returns-clause-part : goal.returns-clause-part
returns-clause-part c = (bits-split c.args.left c.args.some c.args.current c.requires.most c.requires.fits).1
