use Rattle.std.proofs.Common.{arith, sym, ◌∙◌, vec_len}
use Rattle.sorted_list.proofs.Flat.{home_found, home_within, rising_chunk, at_home}
use Rattle.sorted_list.proofs.finding.find_in.Goals as goal

pub index-chunk-requires : goal.index-chunk-requires
index-chunk-requires g c =
    let ok = c.args.chunks.now.ok in
    let h = home_found g.T.Keyed.rank c.args.key c.home-at.result (vec_len c.args.chunks.now) c.args.chunks.now.items _
    c.requires.rising c.requires.filled c.if-is_empty.ensures (omega arith) c.as_slice.ensures.value c.home-at.ensures in
    let lt = home_within g.T.Keyed.rank c.args.key c.home-at.result c.args.chunks.now.items h in
    omega arith

pub find-requires : goal.find-requires
find-requires g c =
    let ok = c.args.chunks.now.ok in
    let h = home_found g.T.Keyed.rank c.args.key c.home-at.result (vec_len c.args.chunks.now) c.args.chunks.now.items _
    c.requires.rising c.requires.filled c.if-is_empty.ensures (omega arith) c.as_slice.ensures.value c.home-at.ensures in
    let lt = home_within g.T.Keyed.rank c.args.key c.home-at.result c.args.chunks.now.items h in
    rising_chunk g.T.Keyed.rank c.home-at.result c.index-chunk.result.now c.args.chunks.now.items c.requires.rising lt
    c.index-chunk.ensures

pub returns : goal.returns
returns g c =
    let ok = c.args.chunks.now.ok in
    let h = home_found g.T.Keyed.rank c.args.key c.home-at.result (vec_len c.args.chunks.now) c.args.chunks.now.items _
    c.requires.rising c.requires.filled c.if-is_empty.ensures (omega arith) c.as_slice.ensures.value c.home-at.ensures in
    c.find.ensures ∙ sym (at_home g.T.Keyed.rank c.args.key c.home-at.result c.index-chunk.result.now c.args.chunks.now.items h
    c.index-chunk.ensures)
