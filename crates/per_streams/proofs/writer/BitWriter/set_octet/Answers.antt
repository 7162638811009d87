use Rattle.std.proofs.Common.{arith}
use Rattle.per_streams.specs.Bits.{bits}
use Rattle.per_streams.specs.PlaceLaws.{is_written, set_view}
use Rattle.per_streams.proofs.writer.BitWriter.set_octet.Goals as goal

pub index_mut-requires : goal.index_mut-requires
index_mut-requires c =
    let w = c.self.inside in
    let whole = w.octets.ok.0 in
    let written = is_written c.args.place w.octets.items w.used w.current c.self.view_is c.self.invariant.0 c.requires in
    omega (arith, whole, written)

pub returns : goal.returns
returns c =
    let w = c.self.inside in
    rw (← c.self.view_is)
    (set_view c.args.place c.args.octet w.octets.items (bits w.used w.current)
    (is_written c.args.place w.octets.items w.used w.current c.self.view_is c.self.invariant.0 c.requires))
