use Rattle.std.proofs.Common.{◌-◌, ◌*◌, ◌<◌, length, ap, arith, ◌∙◌}
use Rattle.per_streams.specs.Bits.{first_bit}
use Rattle.per_streams.specs.BitLaws.{no_bit, next_octet, place_is}
use Rattle.per_streams.proofs.reader.BitReader.take_bit.Goals as goal

pub returns-then-self : goal.returns-then-self
returns-then-self c =
    let r = c.self.inside in
    rw (← c.self.view_is)
    (ap (first_bit (8 * r.begun - r.left)) (no_bit r.octets.now r.begun r.current r.left c.if-self-eq0.true c.if-self.true))

pub returns-then-self-eq0 : goal.returns-then-self-eq0
returns-then-self-eq0 c =
    let r = c.self.inside in
    let lt : r.begun < length r.octets.now = let i = c.self.invariant in omega (arith, i.0, c.if-self.false) in
    rw (← c.self.view_is) (
    ap (first_bit (8 * r.begun - r.left))
    (next_octet r.octets.now r.begun r.current r.left c.split_bit-bit.result.0 c.split_bit-bit.result.1 c.if-self-eq0.true lt
    c.split_bit-bit.ensures.parts)
    ∙ place_is _ _ _ (omega (arith, c.if-self-eq0.true)))
