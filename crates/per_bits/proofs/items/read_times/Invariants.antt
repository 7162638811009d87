use Rattle.std.proofs.Common.{◌≡◌, ◌-◌, map}
use Rattle.per_bits.specs.Reading.{read_at}
use Rattle.per_streams.specs.Each.{times}
use Rattle.per_streams.specs.Times.{with_front}
use Rattle.per_bits.proofs.items.read_times.Given as goal

abbrev pub invariant-loop : goal.invariant-loop
invariant-loop g l =
    with_front (map g.T.Element.view l.values.items) (times (read_at g.T.Element.format) (l.count - l.counter) l.reader)
    ≡ times (read_at g.T.Element.format) l.count l.initial.reader
