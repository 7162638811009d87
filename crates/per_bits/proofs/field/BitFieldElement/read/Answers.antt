use Rattle.std.proofs.Common.{arith}
use Rattle.per_bits.proofs.FieldLaws.{read_near, read_far}
use Rattle.per_bits.proofs.field.BitFieldElement.read.Goals.{then-this-ge17+in_ok-align, else-this-ge17}
use Rattle.per_bits.proofs.field.BitFieldElement.read.Goals as goal

pub returns : goal.returns
returns g c =
    let e = c.in_ok-kept.ensures.exact in
    elim c.if-this-ge17.branch [
      | then-this-ge17+in_ok-align w ↦
          read_far g.row.N _ _ _ _ (omega arith) w.in_ok-align.ensures (rw w.reader-is at e)
      | else-this-ge17 w ↦ read_near g.row.N _ _ _ (omega arith) (rw w.reader-is at e)
    ]
