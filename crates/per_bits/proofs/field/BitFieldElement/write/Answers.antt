use Rattle.std.proofs.Common.{arith}
use Rattle.per_bits.specs.Kept.{length-kept}
use Rattle.per_bits.proofs.FieldLaws.{wrote_near, wrote_far}
use Rattle.per_bits.proofs.field.BitFieldElement.write.Goals as goal

pub returns-then-this-lt17 : goal.returns-then-this-lt17
returns-then-this-lt17 g c =
    let put = c.put_kept.ensures in
    wrote_near g.row.N _ _ _ _ _ c.self.view_is (length-kept c.self.inside.kept c.self.invariant) (omega arith) put.ok put.memory

pub returns-in_ok-align : goal.returns-in_ok-align
returns-in_ok-align g c =
    let put = c.put_kept-else-this-lt17.ensures in
    wrote_far g.row.N _ _ _ _ _ _ c.self.view_is (length-kept c.self.inside.kept c.self.invariant) (omega arith)
    c.in_ok-align.ensures.ok put.ok put.memory
