use Rattle.std.proofs.Common.{arith, sym, ◌∙◌, ap}
use Rattle.sorted_list.specs.Ordered.{place}
use Rattle.sorted_list.specs.Laws.{place_le, at_end, at_absent, at_place}
use Rattle.sorted_list.proofs.chunk.find_item.Goals as goal

pub returns-then-at-len : goal.returns-then-at-len
returns-then-at-len g c =
    let p = c.place_of-at.ensures ∙ ap (place g.T.Keyed.rank c.args.key) c.as_slice.ensures.value in
    let ok = c.args.items.now.ok in
    let l = c.len.ensures in
    let t = c.if-at-len.true in
    sym (at_end g.T.Keyed.rank c.args.key c.args.items.now.items (omega (arith, p)))

pub index-requires : goal.index-requires
index-requires g c =
    let p = c.place_of-at.ensures ∙ ap (place g.T.Keyed.rank c.args.key) c.as_slice.ensures.value in
    let le = place_le g.T.Keyed.rank c.args.key c.args.items.now.items in
    let ok = c.args.items.now.ok in
    let l = c.len.ensures in
    let t = c.if-at-len.false in
    omega (arith, p)

pub returns-then-key : goal.returns-then-key
returns-then-key g c =
    let p = c.place_of-at.ensures ∙ ap (place g.T.Keyed.rank c.args.key) c.as_slice.ensures.value in
    let le = place_le g.T.Keyed.rank c.args.key c.args.items.now.items in
    let ok = c.args.items.now.ok in
    let l = c.len.ensures in
    let t = c.if-at-len.false in
    sym (at_absent g.T.Keyed.rank c.args.key c.place_of-at.result c.index.result.now c.args.items.now.items c.requires p
    (omega (arith, p)) c.index.ensures (λ e. c.if-key.true (c.key.ensures ∙ e)))

pub returns : goal.returns
returns g c =
    let p = c.place_of-at.ensures ∙ ap (place g.T.Keyed.rank c.args.key) c.as_slice.ensures.value in
    let le = place_le g.T.Keyed.rank c.args.key c.args.items.now.items in
    let ok = c.args.items.now.ok in
    let l = c.len.ensures in
    let t = c.if-at-len.false in
    sym (at_place g.T.Keyed.rank c.args.key c.place_of-at.result c.index.result.now c.args.items.now.items p (omega (arith, p))
    c.index.ensures (sym c.key.ensures ∙ c.if-key.false))
