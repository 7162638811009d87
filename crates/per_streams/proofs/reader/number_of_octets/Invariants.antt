use Rattle.std.proofs.Common.{◌≡◌, take}
use Rattle.per_streams.specs.Bits.{value, octet_bits}
use Rattle.per_streams.proofs.reader.number_of_octets.Given as goal

abbrev pub invariant-loop-octet : goal.invariant-loop-octet
invariant-loop-octet l = l.number ≡ value (octet_bits (take l.octet-index l.octets))
