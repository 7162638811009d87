use Rattle.std.proofs.Common.{◌≡◌, ◌-◌, ◌*◌, ◌%◌, eqb, length, arith, ap, ◌∙◌}
use Rattle.per_streams.specs.BitLaws.{spent}
use Rattle.per_streams.proofs.reader.BitReader.is_spent.Goals as goal

pub returns : goal.returns
returns c =
    let r = c.self.inside in
    let i = c.self.invariant in
    let at : 8 * r.begun - r.left ≡ c.args.self.now.at = ap (λ p. p.at) c.self.view_is in
    let whole : (8 * r.begun - r.left) % 8 ≡ 0 = omega (arith, at, c.requires) in
    spent r.begun r.left r.current r.octets.now i.1 i.2 whole i.0 ∙ ap (λ p. eqb (length p.rest) 0) c.self.view_is
