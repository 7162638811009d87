use Rattle.std.proofs.Common.{IsSome, sym, subst, arith}
use Rattle.per_streams.specs.Bits.{Place}
use Rattle.per_streams.specs.TwoOctets.{two_at, passed}
use Rattle.per_streams.proofs.reader.BitReader.pass_two.Goals as goal

pub invariant_of-self : goal.invariant_of-self
invariant_of-self c =
    let r = c.self.inside in
    let i = c.self.invariant in
    let stand = subst (λ (p : Place). IsSome (two_at p)) (sym c.self.view_is) c.requires in
    let k = passed r.octets.now r.begun r.left r.current i.4 i.1 i.2 i.0 stand in
    (k.0, i.1, omega (arith, i.2), i.3, i.4)

pub returns : goal.returns
returns c =
    let r = c.self.inside in
    let i = c.self.invariant in
    let stand = subst (λ (p : Place). IsSome (two_at p)) (sym c.self.view_is) c.requires in
    rw (← c.self.view_is) (passed r.octets.now r.begun r.left r.current i.4 i.1 i.2 i.0 stand).1
