use Rattle.std.proofs.Common.{◌≡◌, map, drop}
use Rattle.per_bits.specs.Writing.{write_at, write_each}
use Rattle.per_bits.proofs.items.write_all.Given as goal

abbrev pub invariant-loop-value : goal.invariant-loop-value
invariant-loop-value g l =
    let w = write_at g.T.Element.format in
    write_each w (map g.T.Element.view (drop l.value-index l.values)) l.writer
    ≡ write_each w (map g.T.Element.view l.values) l.initial.writer
