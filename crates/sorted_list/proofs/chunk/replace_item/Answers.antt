use Rattle.std.proofs.Common.{arith, sym, ◌∙◌, ap, refl}
use Rattle.sorted_list.specs.Ordered.{place}
use Rattle.sorted_list.specs.Laws.{place_le, at_end, at_absent, at_place, put_set}
use Rattle.sorted_list.proofs.chunk.replace_item.Goals as goal

pub returns-then-at-len-clause-was : goal.returns-then-at-len-clause-was
returns-then-at-len-clause-was g c =
    let p = c.place_of-at.ensures ∙ ap (place g.T.Keyed.rank c.key-key.result) c.as_slice.ensures.value
    ∙ ap (λ k. place g.T.Keyed.rank k c.args.items.now.items) c.key-key.ensures in
    let ok = c.args.items.now.ok in
    let l = c.len.ensures in
    let t = c.if-at-len.true in
    sym (at_end g.T.Keyed.rank (g.T.Keyed.rank c.args.item) c.args.items.now.items (omega (arith, p)))

pub index-requires : goal.index-requires
index-requires g c =
    let p = c.place_of-at.ensures ∙ ap (place g.T.Keyed.rank c.key-key.result) c.as_slice.ensures.value in
    let le = place_le g.T.Keyed.rank c.key-key.result c.args.items.now.items in
    let ok = c.args.items.now.ok in
    let l = c.len.ensures in
    let t = c.if-at-len.false in
    omega (arith, p)

pub returns-then-key-clause-was : goal.returns-then-key-clause-was
returns-then-key-clause-was g c =
    let p = c.place_of-at.ensures ∙ ap (place g.T.Keyed.rank c.key-key.result) c.as_slice.ensures.value
    ∙ ap (λ k. place g.T.Keyed.rank k c.args.items.now.items) c.key-key.ensures in
    let le = place_le g.T.Keyed.rank (g.T.Keyed.rank c.args.item) c.args.items.now.items in
    let ok = c.args.items.now.ok in
    let l = c.len.ensures in
    let t = c.if-at-len.false in
    sym (at_absent g.T.Keyed.rank (g.T.Keyed.rank c.args.item) c.place_of-at.result c.index.result.now c.args.items.now.items
    c.requires p (omega (arith, p)) c.index.ensures
    (λ e. c.if-key.true (c.key.ensures ∙ e ∙ sym c.key-key.ensures)))

pub index_mut-requires : goal.index_mut-requires
index_mut-requires g c =
    let p = c.place_of-at.ensures ∙ ap (place g.T.Keyed.rank c.key-key.result) c.as_slice.ensures.value in
    let le = place_le g.T.Keyed.rank c.key-key.result c.args.items.now.items in
    let ok = c.args.items.now.ok in
    let l = c.len.ensures in
    let t = c.if-at-len.false in
    omega (arith, p)

pub returns-clause-was : goal.returns-clause-was
returns-clause-was g c =
    let p = c.place_of-at.ensures ∙ ap (place g.T.Keyed.rank c.key-key.result) c.as_slice.ensures.value
    ∙ ap (λ k. place g.T.Keyed.rank k c.args.items.now.items) c.key-key.ensures in
    let le = place_le g.T.Keyed.rank (g.T.Keyed.rank c.args.item) c.args.items.now.items in
    let ok = c.args.items.now.ok in
    let l = c.len.ensures in
    let t = c.if-at-len.false in
    sym (at_place g.T.Keyed.rank (g.T.Keyed.rank c.args.item) c.place_of-at.result c.index.result.now c.args.items.now.items p
    (omega (arith, p)) c.index.ensures
    (sym c.key.ensures ∙ c.if-key.false ∙ c.key-key.ensures))

pub returns-clause-after : goal.returns-clause-after
returns-clause-after g c =
    let p = c.place_of-at.ensures ∙ ap (place g.T.Keyed.rank c.key-key.result) c.as_slice.ensures.value
    ∙ ap (λ k. place g.T.Keyed.rank k c.args.items.now.items) c.key-key.ensures in
    let le = place_le g.T.Keyed.rank (g.T.Keyed.rank c.args.item) c.args.items.now.items in
    let ok = c.args.items.now.ok in
    let l = c.len.ensures in
    let t = c.if-at-len.false in
    put_set g.T.Keyed.rank (g.T.Keyed.rank c.args.item) c.place_of-at.result c.index.result.now c.args.item c.args.items.now.items
    p (omega (arith, p)) c.index.ensures
    (sym c.key.ensures ∙ c.if-key.false ∙ c.key-key.ensures) refl
