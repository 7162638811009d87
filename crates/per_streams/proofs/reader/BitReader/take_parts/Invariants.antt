use Rattle.std.proofs.Common.{◌≡◌, ◌-◌, ◌^◌, ◌<◌, ◌≤◌}
use Rattle.per_streams.specs.Bits.{number_bits_at}
use Rattle.per_streams.specs.PartLaws.{continued}
use Rattle.per_streams.proofs.reader.BitReader.take_parts.Given as goal

abbrev pub invariant-loop-wanted : goal.invariant-loop-wanted
invariant-loop-wanted l = record {
  so_far : continued l.number l.wanted (number_bits_at l.wanted l.self) ≡ number_bits_at l.count l.initial.self;
  fits : l.number < 2 ^ (l.count - l.wanted);
  most : l.wanted ≤ l.count;
}

abbrev pub decreases-loop-wanted : goal.decreases-loop-wanted
decreases-loop-wanted l = l.wanted
