use Rattle.std.proofs.Common.{◌≡◌, get_or, arith, sym, ◌∙◌, subst, vec_len, add-one}
use Rattle.sorted_list.proofs.Flat.{home_found, home_within, rising_chunk, from_home, from_next, from_last}
use Rattle.sorted_list.proofs.finding.first_in.Goals as goal

pub index-chunk-requires : goal.index-chunk-requires
index-chunk-requires g c =
    let ok = c.args.chunks.now.ok in
    let h = home_found g.T.Keyed.rank c.args.key c.home-at.result (vec_len c.args.chunks.now) c.args.chunks.now.items _
    c.requires.rising c.requires.filled c.if-is_empty.ensures (omega arith) c.as_slice.ensures.value c.home-at.ensures in
    let lt = home_within g.T.Keyed.rank c.args.key c.home-at.result c.args.chunks.now.items h in
    omega arith

pub first_from-requires : goal.first_from-requires
first_from-requires g c =
    let ok = c.args.chunks.now.ok in
    let h = home_found g.T.Keyed.rank c.args.key c.home-at.result (vec_len c.args.chunks.now) c.args.chunks.now.items _
    c.requires.rising c.requires.filled c.if-is_empty.ensures (omega arith) c.as_slice.ensures.value c.home-at.ensures in
    let lt = home_within g.T.Keyed.rank c.args.key c.home-at.result c.args.chunks.now.items h in
    rising_chunk g.T.Keyed.rank c.home-at.result c.index-chunk.result.now c.args.chunks.now.items c.requires.rising lt
    c.index-chunk.ensures

pub returns-in-Some : goal.returns-in-Some
returns-in-Some g c =
    let ok = c.args.chunks.now.ok in
    let h = home_found g.T.Keyed.rank c.args.key c.home-at.result (vec_len c.args.chunks.now) c.args.chunks.now.items _
    c.requires.rising c.requires.filled c.if-is_empty.ensures (omega arith) c.as_slice.ensures.value c.home-at.ensures in
    let lt = home_within g.T.Keyed.rank c.args.key c.home-at.result c.args.chunks.now.items h in
    sym (from_home g.T.Keyed.rank c.args.key c.home-at.result c.in-Some.item c.index-chunk.result.now c.args.chunks.now.items h
    c.index-chunk.ensures (sym c.first_from.ensures ∙ c.in-Some.is))

pub overflow_add-at : goal.overflow_add-at
overflow_add-at g c =
    let ok = c.args.chunks.now.ok in
    let h = home_found g.T.Keyed.rank c.args.key c.home-at.result (vec_len c.args.chunks.now) c.args.chunks.now.items _
    c.requires.rising c.requires.filled c.if-is_empty.ensures (omega arith) c.as_slice.ensures.value c.home-at.ensures in
    let lt = home_within g.T.Keyed.rank c.args.key c.home-at.result c.args.chunks.now.items h in
    omega (arith, c.args.chunks.now.small)

pub overflow_add-at-2 : goal.overflow_add-at-2
overflow_add-at-2 g c =
    let ok = c.args.chunks.now.ok in
    let h = home_found g.T.Keyed.rank c.args.key c.home-at.result (vec_len c.args.chunks.now) c.args.chunks.now.items _
    c.requires.rising c.requires.filled c.if-is_empty.ensures (omega arith) c.as_slice.ensures.value c.home-at.ensures in
    let lt = home_within g.T.Keyed.rank c.args.key c.home-at.result c.args.chunks.now.items h in
    omega (arith, c.args.chunks.now.small)

pub returns-then-at-len : goal.returns-then-at-len
returns-then-at-len g c =
    let ok = c.args.chunks.now.ok in
    let h = home_found g.T.Keyed.rank c.args.key c.home-at.result (vec_len c.args.chunks.now) c.args.chunks.now.items _
    c.requires.rising c.requires.filled c.if-is_empty.ensures (omega arith) c.as_slice.ensures.value c.home-at.ensures in
    let lt = home_within g.T.Keyed.rank c.args.key c.home-at.result c.args.chunks.now.items h in
    let l = c.len.ensures in
    let t = c.if-at-len.true in
    sym (from_last g.T.Keyed.rank c.args.key c.home-at.result c.index-chunk.result.now c.args.chunks.now.items h
    c.index-chunk.ensures (sym c.first_from.ensures ∙ c.in_default.is) (omega arith))

pub index-next-requires : goal.index-next-requires
index-next-requires g c =
    let ok = c.args.chunks.now.ok in
    let h = home_found g.T.Keyed.rank c.args.key c.home-at.result (vec_len c.args.chunks.now) c.args.chunks.now.items _
    c.requires.rising c.requires.filled c.if-is_empty.ensures (omega arith) c.as_slice.ensures.value c.home-at.ensures in
    let lt = home_within g.T.Keyed.rank c.args.key c.home-at.result c.args.chunks.now.items h in
    let l = c.len.ensures in
    let t = c.if-at-len.false in
    omega arith

pub returns : goal.returns
returns g c =
    let ok = c.args.chunks.now.ok in
    let h = home_found g.T.Keyed.rank c.args.key c.home-at.result (vec_len c.args.chunks.now) c.args.chunks.now.items _
    c.requires.rising c.requires.filled c.if-is_empty.ensures (omega arith) c.as_slice.ensures.value c.home-at.ensures in
    let lt = home_within g.T.Keyed.rank c.args.key c.home-at.result c.args.chunks.now.items h in
    let l = c.len.ensures in
    let t = c.if-at-len.false in
    c.first.ensures ∙ sym (from_next g.T.Keyed.rank c.args.key c.home-at.result c.index-chunk.result.now c.index-next.result.now
    c.args.chunks.now.items h c.requires.filled c.index-chunk.ensures (sym c.first_from.ensures ∙ c.in_default.is) (omega arith)
    (subst (λ i. c.index-next.result.now ≡ get_or c.args.chunks.now.items i c.index-next.result.now) (add-one c.home-at.result)
    c.index-next.ensures))
