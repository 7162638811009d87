use Rattle.std.proofs.Common.{◌+◌, ◌-◌, ◌<◌, ◌≤◌, ◌/◌, arith}
use Rattle.sorted_list.specs.Laws.{place_le, place_above, place_below}
use Rattle.sorted_list.proofs.search.place_of.Goals as goal

pub loop-low-init : goal.loop-low-init
loop-low-init g c = let le = place_le g.T.Keyed.rank c.args.key c.args.items.now in (omega arith, omega arith, omega arith)

pub loop-low-preserved-then-key : goal.loop-low-preserved-then-key
loop-low-preserved-then-key g c =
    let less : g.T.Keyed.rank c.index-items-middle.result < c.args.key = omega (arith, c.key.ensures) in
    let above = place_above g.T.Keyed.rank c.args.key (c.loop-low.low + (c.loop-low.high - c.loop-low.low) / 2)
    c.index-items-middle.result c.args.items.now c.requires (omega arith) c.index-items-middle.is less in
    (omega arith, omega arith, omega arith)

pub loop-low-preserved : goal.loop-low-preserved
loop-low-preserved g c =
    let le : c.args.key ≤ g.T.Keyed.rank c.index-items-middle.result = omega (arith, c.key.ensures) in
    let below = place_below g.T.Keyed.rank c.args.key (c.loop-low.low + (c.loop-low.high - c.loop-low.low) / 2)
    c.index-items-middle.result c.args.items.now (omega arith) c.index-items-middle.is le in
    (omega arith, omega arith, omega arith)
