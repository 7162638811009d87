use Rattle.std.proofs.Common.{length, ap, arith}
use Rattle.std.proofs.lemmas.List.{length-append}
use Rattle.per_streams.specs.Bits.{bits, octet_bits}
use Rattle.per_streams.specs.BitLaws.{length-bits, length-octet_bits}
use Rattle.per_streams.proofs.writer.BitWriter.put_octets.Goals as goal

pub put_whole-requires : goal.put_whole-requires
put_whole-requires c =
    let w = c.self.inside in
    let l = ap length c.self.view_is in
    let none = c.if-self-eq0.true in
    omega (
      arith,
      l,
      none,
      length-append (octet_bits w.octets.items) (bits w.used w.current),
      length-octet_bits w.octets.items,
      length-bits w.used w.current,
    )
