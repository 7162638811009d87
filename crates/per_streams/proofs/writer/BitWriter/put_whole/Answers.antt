use Rattle.std.proofs.Common.{◌≡◌, length, ap, arith}
use Rattle.std.proofs.lemmas.List.{length-append}
use Rattle.per_streams.specs.Bits.{bits, octet_bits}
use Rattle.per_streams.specs.BitLaws.{length-bits, length-octet_bits}
use Rattle.per_streams.specs.PartLaws.{put_whole}
use Rattle.per_streams.proofs.writer.BitWriter.put_whole.Goals as goal

pub returns-clause-ok : goal.returns-clause-ok
returns-clause-ok c =
    let w = c.self.inside in
    let l = ap length c.self.view_is in
    let whole = c.requires in
    let few = c.self.invariant.0 in
    let none : w.used ≡ 0 =
    omega (
      arith,
      l,
      whole,
      few,
      length-append (octet_bits w.octets.items) (bits w.used w.current),
      length-octet_bits w.octets.items,
      length-bits w.used w.current,
    ) in
    rw (← c.self.view_is, c.in_ok-extend_from_slice.ensures.items)
    (put_whole w.octets.items c.args.octets.now w.used w.current none)
