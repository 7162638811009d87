use Rattle.std.proofs.Common.{◌≡◌, ◌-◌}
use Rattle.per_streams.specs.Each.{times}
use Rattle.per_bits.specs.Reading.{read_at}
use Rattle.per_bits.specs.Formats.{raw}
use Rattle.per_bits.proofs.Passing.{unkept}
use Rattle.per_bits.proofs.skips.pass_raw.Given as goal

abbrev pub invariant-loop : goal.invariant-loop
invariant-loop l =
    unkept (times (read_at raw) (l.count - l.counter) l.reader) ≡ unkept (times (read_at raw) l.count l.initial.reader)
