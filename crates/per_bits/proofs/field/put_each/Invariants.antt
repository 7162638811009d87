use Rattle.std.proofs.Common.{◌≡◌, ◌++◌, take}
use Rattle.per_bits.proofs.field.put_each.Given as goal

abbrev pub invariant-loop-bit : goal.invariant-loop-bit
invariant-loop-bit l = l.writer ≡ l.initial.writer ++ take l.bit-index l.field
