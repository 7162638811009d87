use Rattle.std.proofs.Common.{length, arith, ◌∙◌, sym, ap, subst, vec_len}
use Rattle.sorted_list.specs.Chunks.{weight, IsPaired}
use Rattle.sorted_list.proofs.Flat.{kept_spares}
use Rattle.sorted_list.proofs.Weight.{weight_most, room_made}
use Rattle.sorted_list.proofs.list.SortedList.reserve.Goals as goal

pub invariant_of-self-2 : goal.invariant_of-self-2
invariant_of-self-2 g c =
    let items = c.hold.ensures.items ∙ c.reserve.ensures.items in
    let k = kept_spares g.T.Keyed.rank c.self.inside.chunks.items c.hold.new.chunks.items c.self.inside.spares.items
    c.hold.new.spares.items c.self.inside.len c.self.invariant.0 items c.hold.ensures.empty in
    let most = weight_most c.hold.new.chunks.items in
    let ok = c.hold.new.chunks.ok in
    let was = c.reserve.new.self.ok in
    let same = ap length c.hold.ensures.items in
    let e = c.wanted-enough.ensures in
    let places = c.in_ok-reserve.ensures.ok in
    let wider = c.hold.ensures.places in
    let held = c.make_spares.new.spares.ok in
    let longer = c.hold.ensures.held in
    let made = c.in_ok-make_spares.ensures.ok in
    let kept = c.hold.ensures.kept in
    let fits = c.if-self-more.false in (
      k,
      room_made (weight c.hold.new.chunks.items) (vec_len c.hold.new.chunks) _ _ _ c.self.inside.len c.args.more
          (omega (arith, k.count)) (omega arith) (omega arith) (omega arith) (omega arith),
      subst IsPaired (sym items) c.self.invariant.2,
      c.in_ok-hold.ensures.ok,
    )
