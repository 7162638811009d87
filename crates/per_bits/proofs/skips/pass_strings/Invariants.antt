use Rattle.std.proofs.Common.{◌≡◌, ◌-◌}
use Rattle.per_streams.specs.Bits.{open_at}
use Rattle.per_streams.specs.Each.{times}
use Rattle.per_bits.proofs.Passing.{unkept}
use Rattle.per_bits.proofs.skips.pass_strings.Given as goal

abbrev pub invariant-loop : goal.invariant-loop
invariant-loop l = unkept (times open_at (l.count - l.counter) l.reader) ≡ unkept (times open_at l.count l.initial.reader)
