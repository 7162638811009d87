use Rattle.std.proofs.Common.{◌<◌, ◌≤◌, ◌*◌, ◌-◌, ◌≡◌, length, refl, ap, sym, ◌∙◌, arith, drop}
use Rattle.per_streams.specs.Bits.{Place, octet_bits}
use Rattle.per_streams.specs.BitLaws.{no_bit}
use Rattle.per_streams.specs.PartLaws.{fresh_octet, fresh_part, later_part}
use Rattle.per_streams.proofs.reader.BitReader.take_part.Goals as goal

pub returns-then-self : goal.returns-then-self
returns-then-self c =
    let r = c.self.inside in (
      refl,
      sym (ap (λ (p : Place). p.rest) c.self.view_is)
          ∙ no_bit r.octets.now r.begun r.current r.left c.if-self-eq0.true c.if-self.true,
    )

pub returns-then-most-ge8 : goal.returns-then-most-ge8
returns-then-most-ge8 c =
    let r = c.self.inside in
    let i = c.self.invariant in
    let lt : r.begun < length r.octets.now = omega (arith, i.0, c.if-self.false) in (
      omega arith,
      c.if-most-ge8.true,
      omega arith,
      rw (← c.self.view_is) (fresh_octet r.octets.now r.begun r.current r.left c.if-self-eq0.true lt i.4),
      (λ whole. omega (arith, whole, c.if-most-ge8.true)),
    )

pub returns-then-self-eq0 : goal.returns-then-self-eq0
returns-then-self-eq0 c =
    let r = c.self.inside in
    let i = c.self.invariant in
    let lt : r.begun < length r.octets.now = omega (arith, i.0, c.if-self.false) in
    let few = c.if-most-ge8.false in
    let most = c.requires in
    let s = c.split-part.ensures in
    let some = c.args.most in
    let le : some ≤ 8 = omega (arith, few) in (
      most,
      omega arith,
      le,
      rw (← c.self.view_is)
          (fresh_part r.octets.now r.begun r.current r.left some c.split-part.result.0 c.split-part.result.1
          c.if-self-eq0.true lt le s.part s.parts),
      (λ _. refl),
    )

pub returns : goal.returns
returns c =
    let r = c.self.inside in
    let i = c.self.invariant in
    let m = c.min-some.ensures in
    let most = c.requires in
    let none = c.if-self-eq0.false in
    let s = c.split-part-2.ensures in
    let some = c.min-some.result in
    let le : some ≤ r.left = omega (arith, m) in (
      omega (arith, m, most, none),
      omega (arith, m),
      (let few = i.1 in omega (arith, m, few)),
      rw (← c.self.view_is)
          (later_part r.begun r.current r.left some c.split-part-2.result.0 c.split-part-2.result.1
          (octet_bits (drop r.begun r.octets.now)) le i.2 s.part s.parts),
      (λ whole. let at : 8 * r.begun - r.left ≡ c.args.self.now.at = ap (λ (p : Place). p.at) c.self.view_is in
          omega (arith, m, whole, at, none, i.1, i.2)),
    )
