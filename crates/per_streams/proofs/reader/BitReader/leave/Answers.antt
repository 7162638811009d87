use Rattle.std.proofs.Common.{◌≡◌, ◌-◌, ◌*◌, refl, ap, arith}
use native.Mathlib.Nat.{sub-zero}
use Rattle.per_streams.specs.Bits.{Place, bits}
use Rattle.per_streams.proofs.reader.BitReader.leave.Goals as goal

pub returns : goal.returns
unfolding bits
returns c =
    let r = c.self.inside in
    let i = c.self.invariant in
    let at : 8 * r.begun - r.left ≡ c.args.self.now.at = ap (λ (p : Place). p.at) c.self.view_is in
    let none : r.left ≡ 0 = omega (arith, at, c.requires.whole, i.1, i.2) in
    rw (← c.self.view_is, none, sub-zero (8 * r.begun)) refl
