use Rattle.std.proofs.Common.{arith, sym, ◌∙◌, ap}
use Rattle.sorted_list.specs.Ordered.{place}
use Rattle.sorted_list.specs.Laws.{place_le, at_end, at_absent, at_place, without_absent, remove_without}
use Rattle.sorted_list.proofs.chunk.take_item.Goals as goal

pub returns-then-at-len-clause-item : goal.returns-then-at-len-clause-item
returns-then-at-len-clause-item g c =
    let p = c.place_of-at.ensures ∙ ap (place g.T.Keyed.rank c.args.key) c.as_slice.ensures.value in
    let le = place_le g.T.Keyed.rank c.args.key c.args.items.now.items in
    let ok = c.args.items.now.ok in
    let l = c.len.ensures in
    let t = c.if-at-len.true in
    sym (at_end g.T.Keyed.rank c.args.key c.args.items.now.items (omega (arith, p)))

pub returns-then-at-len-clause-rest : goal.returns-then-at-len-clause-rest
returns-then-at-len-clause-rest g c =
    let p = c.place_of-at.ensures ∙ ap (place g.T.Keyed.rank c.args.key) c.as_slice.ensures.value in
    let le = place_le g.T.Keyed.rank c.args.key c.args.items.now.items in
    let ok = c.args.items.now.ok in
    let l = c.len.ensures in
    let t = c.if-at-len.true in
    sym (without_absent g.T.Keyed.rank c.args.key c.args.items.now.items (at_end g.T.Keyed.rank c.args.key c.args.items.now.items
    (omega (arith, p))))

pub index-requires : goal.index-requires
index-requires g c =
    let p = c.place_of-at.ensures ∙ ap (place g.T.Keyed.rank c.args.key) c.as_slice.ensures.value in
    let le = place_le g.T.Keyed.rank c.args.key c.args.items.now.items in
    let ok = c.args.items.now.ok in
    let l = c.len.ensures in
    let t = c.if-at-len.false in
    omega (arith, p)

pub returns-then-key-clause-item : goal.returns-then-key-clause-item
returns-then-key-clause-item g c =
    let p = c.place_of-at.ensures ∙ ap (place g.T.Keyed.rank c.args.key) c.as_slice.ensures.value in
    let le = place_le g.T.Keyed.rank c.args.key c.args.items.now.items in
    let ok = c.args.items.now.ok in
    let l = c.len.ensures in
    let t = c.if-at-len.false in
    sym (at_absent g.T.Keyed.rank c.args.key c.place_of-at.result c.index.result.now c.args.items.now.items c.requires p
    (omega (arith, p)) c.index.ensures (λ e. c.if-key.true (c.key.ensures ∙ e)))

pub returns-then-key-clause-rest : goal.returns-then-key-clause-rest
returns-then-key-clause-rest g c =
    let p = c.place_of-at.ensures ∙ ap (place g.T.Keyed.rank c.args.key) c.as_slice.ensures.value in
    let le = place_le g.T.Keyed.rank c.args.key c.args.items.now.items in
    let ok = c.args.items.now.ok in
    let l = c.len.ensures in
    let t = c.if-at-len.false in
    sym (without_absent g.T.Keyed.rank c.args.key c.args.items.now.items (at_absent g.T.Keyed.rank c.args.key c.place_of-at.result
    c.index.result.now c.args.items.now.items c.requires p (omega (arith, p)) c.index.ensures
    (λ e. c.if-key.true (c.key.ensures ∙ e))))

pub remove-requires : goal.remove-requires
remove-requires g c =
    let p = c.place_of-at.ensures ∙ ap (place g.T.Keyed.rank c.args.key) c.as_slice.ensures.value in
    let le = place_le g.T.Keyed.rank c.args.key c.args.items.now.items in
    let ok = c.args.items.now.ok in
    let l = c.len.ensures in
    let t = c.if-at-len.false in
    omega (arith, p)

pub returns-clause-item : goal.returns-clause-item
returns-clause-item g c =
    let p = c.place_of-at.ensures ∙ ap (place g.T.Keyed.rank c.args.key) c.as_slice.ensures.value in
    let le = place_le g.T.Keyed.rank c.args.key c.args.items.now.items in
    let ok = c.args.items.now.ok in
    let l = c.len.ensures in
    let t = c.if-at-len.false in
    sym (at_place g.T.Keyed.rank c.args.key c.place_of-at.result c.index.result.now c.args.items.now.items p (omega (arith, p))
    c.index.ensures (sym c.key.ensures ∙ c.if-key.false))

pub returns-clause-rest : goal.returns-clause-rest
returns-clause-rest g c =
    let p = c.place_of-at.ensures ∙ ap (place g.T.Keyed.rank c.args.key) c.as_slice.ensures.value in
    let le = place_le g.T.Keyed.rank c.args.key c.args.items.now.items in
    let ok = c.args.items.now.ok in
    let l = c.len.ensures in
    let t = c.if-at-len.false in
    c.remove.ensures.items ∙ remove_without g.T.Keyed.rank c.args.key c.place_of-at.result c.index.result.now
    c.args.items.now.items p (omega (arith, p)) c.index.ensures (sym c.key.ensures ∙ c.if-key.false)
