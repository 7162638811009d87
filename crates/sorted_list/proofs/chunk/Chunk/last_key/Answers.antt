use Rattle.std.proofs.Common.{◌+◌, ◌-◌, length, arith, ap, subst, sym}
use Rattle.sorted_list.specs.Ordered.{Rising}
use Rattle.sorted_list.specs.Chunks.{AllUnder}
use Rattle.sorted_list.proofs.Flat.{last_under}
use Rattle.sorted_list.proofs.chunk.Chunk.last_key.Goals as goal

pub returns : goal.returns
returns g c =
    let ok = c.self.inside.items.ok in
    let l = c.len-last.ensures in
    let n = ap length c.self.view_is in
    let f = c.requires.filled in
    let rising = subst (Rising g.T.Keyed.rank) (sym c.self.view_is) c.requires.rising in
    subst (AllUnder g.T.Keyed.rank (c.key.result + 1)) c.self.view_is
    (last_under g.T.Keyed.rank (c.len-last.result - 1) c.key.result c.index.result.now c.self.inside.items.items rising
    (omega (arith, ok, l, n, f)) c.index.ensures c.key.ensures)
