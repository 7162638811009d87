use Rattle.std.proofs.Common.{arith, sym, ◌∙◌, ap, vec_len}
use Rattle.sorted_list.specs.Chunks.{home}
use Rattle.sorted_list.proofs.Flat.{home_found, home_within, rising_chunk, at_home, replaced_home}
use Rattle.sorted_list.proofs.Weight.{weight_set}
use Rattle.sorted_list.proofs.Pairs.{paired_set}
use Rattle.sorted_list.proofs.taking.replace_in.Goals as goal

pub index_mut-chunk-requires : goal.index_mut-chunk-requires
index_mut-chunk-requires g c =
    let ok = c.args.chunks.now.ok in
    let h = home_found g.T.Keyed.rank c.key.result c.home-at.result (vec_len c.args.chunks.now) c.args.chunks.now.items _
    c.requires.rising c.requires.filled c.if-is_empty.ensures (omega arith) c.as_slice.ensures.value c.home-at.ensures in
    let lt = home_within g.T.Keyed.rank c.key.result c.home-at.result c.args.chunks.now.items h in
    omega arith

pub replace-requires : goal.replace-requires
replace-requires g c =
    let ok = c.args.chunks.now.ok in
    let h = home_found g.T.Keyed.rank c.key.result c.home-at.result (vec_len c.args.chunks.now) c.args.chunks.now.items _
    c.requires.rising c.requires.filled c.if-is_empty.ensures (omega arith) c.as_slice.ensures.value c.home-at.ensures in
    let lt = home_within g.T.Keyed.rank c.key.result c.home-at.result c.args.chunks.now.items h in
    rising_chunk g.T.Keyed.rank c.home-at.result c.index_mut-chunk.result.now c.args.chunks.now.items c.requires.rising lt
    c.index_mut-chunk.ensures.value

pub returns-clause-was : goal.returns-clause-was
returns-clause-was g c =
    let ok = c.args.chunks.now.ok in
    let h = home_found g.T.Keyed.rank (g.T.Keyed.rank c.args.item) c.home-at.result (vec_len c.args.chunks.now)
    c.args.chunks.now.items _ c.requires.rising c.requires.filled c.if-is_empty.ensures (omega arith) c.as_slice.ensures.value
    (c.home-at.ensures ∙ ap (λ k. home g.T.Keyed.rank k c.as_slice.result.now) c.key.ensures) in
    c.replace.ensures.was ∙ sym (at_home g.T.Keyed.rank (g.T.Keyed.rank c.args.item) c.home-at.result c.index_mut-chunk.result.now
    c.args.chunks.now.items h c.index_mut-chunk.ensures.value)

pub returns-clause-after : goal.returns-clause-after
returns-clause-after g c =
    let ok = c.args.chunks.now.ok in
    let h = home_found g.T.Keyed.rank (g.T.Keyed.rank c.args.item) c.home-at.result (vec_len c.args.chunks.now)
    c.args.chunks.now.items _ c.requires.rising c.requires.filled c.if-is_empty.ensures (omega arith) c.as_slice.ensures.value
    (c.home-at.ensures ∙ ap (λ k. home g.T.Keyed.rank k c.as_slice.result.now) c.key.ensures) in
    replaced_home g.T.Keyed.rank c.home-at.result c.args.item c.replace.result c.index_mut-chunk.result.now c.replace.new.self
    c.args.chunks.now.items h c.index_mut-chunk.ensures.value c.replace.ensures.after

pub returns-clause-weight : goal.returns-clause-weight
returns-clause-weight g c =
    let ok = c.args.chunks.now.ok in
    let h = home_found g.T.Keyed.rank c.key.result c.home-at.result (vec_len c.args.chunks.now) c.args.chunks.now.items _
    c.requires.rising c.requires.filled c.if-is_empty.ensures (omega arith) c.as_slice.ensures.value c.home-at.ensures in
    let lt = home_within g.T.Keyed.rank c.key.result c.home-at.result c.args.chunks.now.items h in
    let le = weight_set c.home-at.result 0 c.index_mut-chunk.result.now c.replace.new.self c.args.chunks.now.items lt
    c.index_mut-chunk.ensures.value (omega (arith, c.replace.ensures.len)) in
    omega arith

pub returns-clause-paired : goal.returns-clause-paired
returns-clause-paired g c =
    let ok = c.args.chunks.now.ok in
    let h = home_found g.T.Keyed.rank c.key.result c.home-at.result (vec_len c.args.chunks.now) c.args.chunks.now.items _
    c.requires.rising c.requires.filled c.if-is_empty.ensures (omega arith) c.as_slice.ensures.value c.home-at.ensures in
    let lt = home_within g.T.Keyed.rank c.key.result c.home-at.result c.args.chunks.now.items h in
    paired_set c.home-at.result c.index_mut-chunk.result.now c.replace.new.self c.args.chunks.now.items lt
    c.index_mut-chunk.ensures.value (omega (arith, c.replace.ensures.len)) c.requires.paired
