use Rattle.std.proofs.Common.{◌≡◌, ◌-◌, take, length}
use Rattle.per_streams.specs.Bits.{bit_at}
use Rattle.per_streams.specs.Each.{times}
use Rattle.per_streams.specs.Times.{with_front}
use Rattle.per_bits.proofs.field.take_each.Given as goal

abbrev pub invariant-loop-bit : goal.invariant-loop-bit
invariant-loop-bit l =
    with_front (take l.bit-index l.bit-items) (times bit_at (length l.initial.bit-items - l.bit-index) l.reader)
    ≡ times bit_at (length l.initial.bit-items) l.initial.reader
