use Rattle.std.proofs.Common.{◌<◌, arith, ◌∙◌, ap, length, vec_len}
use Rattle.std.specs.Vec.{vec_capacity}
use Rattle.std.specs.List.{insert}
use Rattle.sorted_list.specs.Ordered.{place, add}
use Rattle.sorted_list.specs.Laws.{place_le, add_insert}
use Rattle.sorted_list.proofs.Flat.{when_ok}
use Rattle.sorted_list.proofs.chunk.Chunk.add.Goals as goal

pub insert-requires : goal.insert-requires
insert-requires g c =
    let p = c.place_of-at.ensures ∙ ap (place g.T.Keyed.rank c.key.result) c.as_slice.ensures.value in
    let le = place_le g.T.Keyed.rank c.key.result c.self.inside.items.items in
    let ok = c.self.inside.items.ok in
    omega (arith, p)

pub returns : goal.returns
returns g c =
    let p = c.place_of-at.ensures ∙ ap (place g.T.Keyed.rank c.key.result) c.as_slice.ensures.value
    ∙ ap (λ k. place g.T.Keyed.rank k c.self.inside.items.items) c.key.ensures in
    let ok = c.self.inside.items.ok in
    let same = ap length c.self.view_is in
    let room : vec_len c.self.inside.items < vec_capacity c.self.inside.items = omega
    (arith, same, c.self.invariant.0, c.requires.room) in
    c.insert.ensures.items ∙ when_ok c.insert.result _ _ (c.insert.ensures.succeeds room)
    ∙ ap (λ k. insert c.self.inside.items.items k c.args.item) p ∙ add_insert g.T.Keyed.rank c.args.item c.self.inside.items.items
    ∙ ap (add g.T.Keyed.rank c.args.item) c.self.view_is
