use Rattle.std.proofs.Common.{arith, sym, ◌∙◌, ap}
use Rattle.sorted_list.specs.Ordered.{place}
use Rattle.sorted_list.specs.Laws.{place_le}
use Rattle.sorted_list.proofs.Flat.{from_end, from_place}
use Rattle.sorted_list.proofs.chunk.first_item_from.Goals as goal

pub returns-then-at-len : goal.returns-then-at-len
returns-then-at-len g c =
    let p = c.place_of-at.ensures ∙ ap (place g.T.Keyed.rank c.args.key) c.as_slice.ensures.value in
    let ok = c.args.items.now.ok in
    let l = c.len.ensures in
    let t = c.if-at-len.true in
    sym (from_end g.T.Keyed.rank c.args.key c.args.items.now.items (omega (arith, p)))

pub index-requires : goal.index-requires
index-requires g c =
    let p = c.place_of-at.ensures ∙ ap (place g.T.Keyed.rank c.args.key) c.as_slice.ensures.value in
    let le = place_le g.T.Keyed.rank c.args.key c.args.items.now.items in
    let ok = c.args.items.now.ok in
    let l = c.len.ensures in
    let t = c.if-at-len.false in
    omega (arith, p)

pub returns : goal.returns
returns g c =
    let p = c.place_of-at.ensures ∙ ap (place g.T.Keyed.rank c.args.key) c.as_slice.ensures.value in
    let le = place_le g.T.Keyed.rank c.args.key c.args.items.now.items in
    let ok = c.args.items.now.ok in
    let l = c.len.ensures in
    let t = c.if-at-len.false in
    sym (from_place g.T.Keyed.rank c.args.key c.place_of-at.result c.index.result.now c.args.items.now.items p (omega (arith, p))
    c.index.ensures)
