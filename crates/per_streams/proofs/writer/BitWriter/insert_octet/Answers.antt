use Rattle.std.proofs.Common.{arith}
use Rattle.per_streams.specs.Bits.{bits}
use Rattle.per_streams.specs.PlaceLaws.{insert_view, is_reached}
use Rattle.per_streams.proofs.writer.BitWriter.insert_octet.Goals as goal

pub insert-requires : goal.insert-requires
insert-requires c =
    let w = c.self.inside in
    let whole = w.octets.ok.0 in
    let reached = is_reached c.args.place w.octets.items w.used w.current c.self.view_is c.self.invariant.0 c.requires in
    omega (arith, whole, reached)

pub returns-clause-ok : goal.returns-clause-ok
returns-clause-ok c =
    let w = c.self.inside in
    rw (← c.self.view_is, c.in_ok-insert.ensures.items)
    (insert_view c.args.place c.args.octet w.octets.items (bits w.used w.current)
    (is_reached c.args.place w.octets.items w.used w.current c.self.view_is c.self.invariant.0 c.requires))
