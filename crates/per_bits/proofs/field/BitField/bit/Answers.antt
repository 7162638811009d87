use Rattle.per_bits.proofs.FieldLaws.{bit_of_number}
use Rattle.per_bits.proofs.field.BitField.bit.Goals as goal

pub returns-in-Number : goal.returns-in-Number
returns-in-Number g c =
    bit_of_number c.self.inside.kept c.args.i c.in-Number.number c.args.self.now c.in-Number.is c.self.invariant c.self.view_is
    c.requires
