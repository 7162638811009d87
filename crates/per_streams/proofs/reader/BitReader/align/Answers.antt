use Rattle.std.proofs.Common.{drop, ◌∙◌, refl}
use Rattle.per_streams.specs.Bits.{octet_bits}
use Rattle.per_streams.specs.BitLaws.{align_zero, align_other, at_octet}
use Rattle.per_streams.proofs.reader.BitReader.align.Goals as goal

pub returns-then-self-ne0 : goal.returns-then-self-ne0
returns-then-self-ne0 c =
    let r = c.self.inside in
    let i = c.self.invariant in
    rw (← c.self.view_is)
    (align_other r.begun r.left r.current (octet_bits (drop r.begun r.octets.now)) i.1 i.2 i.3 c.if-self-ne0.true)

pub returns : goal.returns
returns c =
    let r = c.self.inside in
    let i = c.self.invariant in
    rw (← c.self.view_is)
    (align_zero r.begun r.left r.current (octet_bits (drop r.begun r.octets.now)) i.1 i.2 c.if-self-ne0.false
    ∙ at_octet r.begun r.current (octet_bits (drop r.begun r.octets.now)) refl)
