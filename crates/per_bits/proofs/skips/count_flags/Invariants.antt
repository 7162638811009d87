use Rattle.per_streams.specs.Bits.{bit_at}
use Rattle.per_streams.specs.Each.{times}
use Rattle.per_bits.proofs.Passing.{Flags}
use Rattle.per_bits.proofs.skips.count_flags.Given as goal

abbrev pub invariant-loop : goal.invariant-loop
invariant-loop l = Flags l.some l.counter l.reader l.count (times bit_at l.count l.initial.reader)
