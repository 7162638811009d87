use Rattle.std.proofs.Common.{◌+◌, ◌-◌, ◌<◌, ◌≤◌, ◌/◌, arith}
use Rattle.sorted_list.specs.Laws.{place_le, place_above, place_below}
use Rattle.sorted_list.specs.Chunks.{head_key, IsFilled}
use Rattle.sorted_list.proofs.Flat.{rising_heads, every-get}
use Rattle.sorted_list.proofs.finding.home.Goals as goal

pub loop-low-init : goal.loop-low-init
loop-low-init g c = let le = place_le (head_key g.T.Keyed.rank) (c.args.key + 1) c.args.chunks.now in
    (omega arith, omega arith, omega arith)

pub head_key-requires : goal.head_key-requires
head_key-requires g c = every-get IsFilled (c.loop-low.low + (c.loop-low.high - c.loop-low.low) / 2) c.index-chunks-middle.result
    c.args.chunks.now c.requires.filled (omega arith) c.index-chunks-middle.is

pub loop-low-preserved-then-head_key-key : goal.loop-low-preserved-then-head_key-key
loop-low-preserved-then-head_key-key g c =
    let less : head_key g.T.Keyed.rank c.index-chunks-middle.result < c.args.key + 1 = omega (arith, c.head_key.ensures) in
    let rising = rising_heads g.T.Keyed.rank c.args.chunks.now c.requires.rising c.requires.filled in
    let above = place_above (head_key g.T.Keyed.rank) (c.args.key + 1) (c.loop-low.low + (c.loop-low.high - c.loop-low.low) / 2)
    c.index-chunks-middle.result c.args.chunks.now rising (omega arith) c.index-chunks-middle.is less in
    (omega arith, omega arith, omega arith)

pub loop-low-preserved : goal.loop-low-preserved
loop-low-preserved g c =
    let le : c.args.key + 1 ≤ head_key g.T.Keyed.rank c.index-chunks-middle.result = omega (arith, c.head_key.ensures) in
    let below = place_below (head_key g.T.Keyed.rank) (c.args.key + 1) (c.loop-low.low + (c.loop-low.high - c.loop-low.low) / 2)
    c.index-chunks-middle.result c.args.chunks.now (omega arith) c.index-chunks-middle.is le in
    (omega arith, omega arith, omega arith)
