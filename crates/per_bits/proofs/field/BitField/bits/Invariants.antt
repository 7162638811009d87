use Rattle.std.proofs.Common.{◌≡◌, length, take}
use Rattle.per_bits.proofs.field.BitField.bits.Given as goal

abbrev pub invariant-loop-i : goal.invariant-loop-i
invariant-loop-i g l = record { long : length l.bits ≡ g.row.N; so_far : take l.i l.bits ≡ take l.i l.self }
