use Rattle.std.proofs.Common.{◌≡◌, take}
use Rattle.per_streams.specs.Bits.{value}
use Rattle.per_bits.proofs.field.number_of.Given as goal

abbrev pub invariant-loop-bit : goal.invariant-loop-bit
invariant-loop-bit g l = l.number ≡ value (take l.bit-index l.bit-items)
