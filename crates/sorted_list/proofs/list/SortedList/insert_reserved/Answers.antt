use Rattle.std.proofs.Common.{◌<◌, ◌+◌, arith, ◌∙◌, ap, vec_len}
use Rattle.sorted_list.specs.Ordered.{at}
use Rattle.sorted_list.specs.Sorted.{Sorted}
use Rattle.sorted_list.specs.Chunks.{weight}
use Rattle.sorted_list.proofs.Flat.{kept_add}
use Rattle.sorted_list.proofs.Weight.{room_added}
use Rattle.sorted_list.proofs.Pairs.{steady_still}
use Rattle.sorted_list.proofs.list.SortedList.insert_reserved.Goals as goal

pub invariant_of-self : goal.invariant_of-self
invariant_of-self g c =
    let a = c.add_to.ensures in
    let free = ap (λ (v : Sorted g.row.T.Denot). at g.T.Keyed.rank (g.T.Keyed.rank c.args.item) v.items) c.self.view_is
    ∙ c.requires.free in
    let k = kept_add g.T.Keyed.rank c.args.item c.self.inside.chunks.items c.add_to.new.chunks.items c.self.inside.spares.items
    c.add_to.new.spares.items c.self.inside.len c.self.invariant.0 free a.items a.filled a.empty in
    let seen = ap (λ (v : Sorted g.row.T.Denot). v.room) c.self.view_is in
    let some : 0 < c.self.inside.room = omega (arith, seen, c.requires.room) in (
      k,
      room_added (weight c.self.inside.chunks.items) (weight c.add_to.new.chunks.items) (vec_len c.self.inside.chunks)
          (vec_len c.add_to.new.chunks) _ _ _ _ _ _ c.self.inside.len c.self.inside.room c.self.invariant.1 some
          a.weight a.used (omega arith) a.places a.held,
      a.paired,
      steady_still c.self.inside.steady (c.self.inside.len + c.self.inside.room) _ _ _ _ _ _ _ c.self.invariant.3
          (omega (arith, some))
          (omega (arith, a.total)) a.places a.held,
    )
