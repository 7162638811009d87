use Rattle.std.proofs.Common.{length, arith, sym, ap}
use Rattle.per_streams.specs.Bits.{Place}
use Rattle.per_streams.specs.OctetLaws.{exact_whole_octets}
use Rattle.per_streams.specs.WholeOctets.{bits_left, too_few}
use Rattle.per_streams.proofs.reader.BitReader.fill.Goals as goal

pub copy_from_slice-requires : goal.copy_from_slice-requires
copy_from_slice-requires c = let k = (exact_whole_octets _).takes _ _ _ c.in_ok-octets.ensures in sym k.spelled.0

pub returns-then-self-out-clause-reads : goal.returns-then-self-out-clause-reads
returns-then-self-out-clause-reads c =
    let r = c.self.inside in
    let i = c.self.invariant in
    let few = c.if-self-out.true in
    let rest = ap (λ (p : Place). length p.rest) c.self.view_is in
    let left = bits_left r.octets.now r.begun r.left r.current in
    too_few (length c.args.out.now) c.args.self.now (omega (arith, few, rest, left, i.1))

pub fill_each-requires : goal.fill_each-requires
fill_each-requires c =
    let r = c.self.inside in
    let all = c.if-self-out.false in
    let rest = ap (λ (p : Place). length p.rest) c.self.view_is in
    let left = bits_left r.octets.now r.begun r.left r.current in
    omega (arith, all, rest, left)
