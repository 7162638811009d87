use Rattle.std.proofs.Common.{◌≡◌, ◌++◌, take}
use Rattle.per_streams.specs.Bits.{octet_bits}
use Rattle.per_streams.proofs.writer.BitWriter.put_each.Given as goal

abbrev pub invariant-loop-octet : goal.invariant-loop-octet
invariant-loop-octet l = l.self ≡ l.initial.self ++ octet_bits (take l.octet-index l.octets)
