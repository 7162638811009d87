use Rattle.std.proofs.Common.{◌≡◌, ◌++◌, ◌<◌, ◌≤◌, ◌^◌}
use Rattle.per_streams.specs.Bits.{bits}
use Rattle.per_streams.proofs.writer.BitWriter.put_parts.Given as goal

abbrev pub invariant-loop-wanted : goal.invariant-loop-wanted
invariant-loop-wanted l = record {
  left : l.self ++ bits l.wanted l.rest ≡ l.initial.self ++ bits l.count l.number;
  fits : l.rest < 2 ^ l.wanted;
  most : l.wanted ≤ 64;
}

abbrev pub decreases-loop-wanted : goal.decreases-loop-wanted
decreases-loop-wanted l = l.wanted
