use Rattle.std.proofs.Common.{◌+◌, arith, refl, vec_len}
use Rattle.sorted_list.specs.Chunks.{weight}
use Rattle.sorted_list.proofs.Flat.{kept_replaced}
use Rattle.sorted_list.proofs.Weight.{room_still}
use Rattle.sorted_list.proofs.Pairs.{steady_still}
use Rattle.sorted_list.proofs.list.SortedList.replace.Goals as goal

pub invariant_of-self : goal.invariant_of-self
invariant_of-self g c =
    let a = c.replace_in.ensures in
    let k = kept_replaced g.T.Keyed.rank c.args.item c.replace_in.result c.self.inside.chunks.items c.replace_in.new.chunks.items
    c.self.inside.spares.items c.self.inside.len c.self.invariant.0 a.was a.after a.filled in (
      k,
      room_still (weight c.self.inside.chunks.items) (weight c.replace_in.new.chunks.items) (vec_len c.self.inside.chunks)
          (vec_len c.replace_in.new.chunks) _ _ _ _ _ c.self.inside.len c.self.inside.room c.self.invariant.1
          a.weight (omega arith) (omega arith) (omega arith),
      a.paired,
      steady_still c.self.inside.steady (c.self.inside.len + c.self.inside.room) _ _ _ _ _ _ _ c.self.invariant.3 refl
          (omega arith) (omega arith) (omega arith),
    )
