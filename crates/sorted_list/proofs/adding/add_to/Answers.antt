use Rattle.std.proofs.Common.{arith, ◌∙◌, ap, vec_len}
use Rattle.sorted_list.specs.Chunks.{home}
use Rattle.sorted_list.proofs.Flat.{home_found}
use Rattle.sorted_list.proofs.adding.add_to.Goals as goal

pub add_at-requires-clause-home : goal.add_at-requires-clause-home
add_at-requires-clause-home g c =
    let ok = c.args.chunks.now.ok in
    home_found g.T.Keyed.rank (g.T.Keyed.rank c.args.item) c.home-at.result (vec_len c.args.chunks.now) c.args.chunks.now.items _
    c.requires.rising c.requires.filled c.if-is_empty.ensures (omega arith) c.as_slice.ensures.value (c.home-at.ensures
    ∙ ap (λ k. home g.T.Keyed.rank k c.as_slice.result.now) c.key.ensures)
