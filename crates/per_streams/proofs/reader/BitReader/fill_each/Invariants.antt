use Rattle.std.proofs.Common.{◌≡◌, ◌-◌, ◌*◌, ◌≤◌, take, length}
use Rattle.per_streams.specs.Bits.{number_bits_at}
use Rattle.per_streams.specs.Each.{times}
use Rattle.per_streams.specs.Times.{with_front}
use Rattle.per_streams.proofs.reader.BitReader.fill_each.Given as goal

abbrev pub invariant-loop-octet : goal.invariant-loop-octet
invariant-loop-octet l = record {
  so_far : with_front (take l.octet-index l.octet-items) (times (number_bits_at 8) (length l.initial.octet-items - l.octet-index) l.self)
      ≡ times (number_bits_at 8) (length l.initial.octet-items) l.initial.self;
  room : 8 * (length l.initial.octet-items - l.octet-index) ≤ length l.self.rest;
}
