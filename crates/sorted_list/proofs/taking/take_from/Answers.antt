use Rattle.std.proofs.Common.{length, set, arith, sym, subst, add-one, ◌∙◌, ap, refl, vec_len}
use Rattle.std.proofs.Math.ListN.{length-set}
use Rattle.sorted_list.specs.Chunks.{flat, weight, IsPaired, IsPairedFrom}
use Rattle.sorted_list.proofs.Flat.{none_there, home_found, home_within, rising_chunk, at_home, without_home, flat_emptied, get_set, length_without, length-without}
use Rattle.sorted_list.proofs.Weight.{weight_set, weight_removed}
use Rattle.sorted_list.proofs.Pairs.{paired_set, paired_removed, to_shrunk, from_shrunk}
use Rattle.sorted_list.specs.Laws.{without_absent}
use Rattle.sorted_list.proofs.taking.take_from.Goals as goal
use Rattle.sorted_list.proofs.taking.take_from.Goals.{then-is_empty-2, else-is_empty-2}

pub index_mut-chunk-requires : goal.index_mut-chunk-requires
index_mut-chunk-requires g c =
    let ok = c.args.chunks.now.ok in
    let h = home_found g.T.Keyed.rank c.args.key c.home-at.result (vec_len c.args.chunks.now) c.args.chunks.now.items _
    c.requires.rising c.requires.filled c.if-is_empty.ensures (omega arith) c.as_slice.ensures.value c.home-at.ensures in
    let lt = home_within g.T.Keyed.rank c.args.key c.home-at.result c.args.chunks.now.items h in
    omega arith

pub take-requires : goal.take-requires
take-requires g c =
    let ok = c.args.chunks.now.ok in
    let h = home_found g.T.Keyed.rank c.args.key c.home-at.result (vec_len c.args.chunks.now) c.args.chunks.now.items _
    c.requires.rising c.requires.filled c.if-is_empty.ensures (omega arith) c.as_slice.ensures.value c.home-at.ensures in
    let lt = home_within g.T.Keyed.rank c.args.key c.home-at.result c.args.chunks.now.items h in
    rising_chunk g.T.Keyed.rank c.home-at.result c.index_mut-chunk.result.now c.args.chunks.now.items c.requires.rising lt
    c.index_mut-chunk.ensures.value

pub returns-in_err-item-clause-item : goal.returns-in_err-item-clause-item
returns-in_err-item-clause-item g c =
    let ok = c.args.chunks.now.ok in
    let h = home_found g.T.Keyed.rank c.args.key c.home-at.result (vec_len c.args.chunks.now) c.args.chunks.now.items _
    c.requires.rising c.requires.filled c.if-is_empty.ensures (omega arith) c.as_slice.ensures.value c.home-at.ensures in
    let lt = home_within g.T.Keyed.rank c.args.key c.home-at.result c.args.chunks.now.items h in
    c.from_residual.ensures ∙ sym c.in_err-item.was ∙ c.take.ensures.item
    ∙ sym (at_home g.T.Keyed.rank c.args.key c.home-at.result c.index_mut-chunk.result.now c.args.chunks.now.items h
    c.index_mut-chunk.ensures.value)

pub returns-in_err-item-clause-rest : goal.returns-in_err-item-clause-rest
returns-in_err-item-clause-rest g c =
    let ok = c.args.chunks.now.ok in
    let h = home_found g.T.Keyed.rank c.args.key c.home-at.result (vec_len c.args.chunks.now) c.args.chunks.now.items _
    c.requires.rising c.requires.filled c.if-is_empty.ensures (omega arith) c.as_slice.ensures.value c.home-at.ensures in
    let lt = home_within g.T.Keyed.rank c.args.key c.home-at.result c.args.chunks.now.items h in
    ap (λ d. flat (set c.args.chunks.now.items c.home-at.result d)) c.take.ensures.rest
    ∙ sym (without_home g.T.Keyed.rank c.args.key c.home-at.result c.index_mut-chunk.result.now c.args.chunks.now.items h
    c.index_mut-chunk.ensures.value)

pub remove-requires : goal.remove-requires
remove-requires g c =
    let ok = c.args.chunks.now.ok in
    let h = home_found g.T.Keyed.rank c.args.key c.home-at.result (vec_len c.args.chunks.now) c.args.chunks.now.items _
    c.requires.rising c.requires.filled c.if-is_empty.ensures (omega arith) c.as_slice.ensures.value c.home-at.ensures in
    let lt = home_within g.T.Keyed.rank c.args.key c.home-at.result c.args.chunks.now.items h in
    omega arith

pub returns-clause-item : goal.returns-clause-item
returns-clause-item g c =
    let ok = c.args.chunks.now.ok in
    let h = home_found g.T.Keyed.rank c.args.key c.home-at.result (vec_len c.args.chunks.now) c.args.chunks.now.items _
    c.requires.rising c.requires.filled c.if-is_empty.ensures (omega arith) c.as_slice.ensures.value c.home-at.ensures in
    let lt = home_within g.T.Keyed.rank c.args.key c.home-at.result c.args.chunks.now.items h in
    sym c.in_ok-item.was ∙ c.take.ensures.item
    ∙ sym (at_home g.T.Keyed.rank c.args.key c.home-at.result c.index_mut-chunk.result.now c.args.chunks.now.items h
    c.index_mut-chunk.ensures.value)

pub returns-clause-rest : goal.returns-clause-rest
returns-clause-rest g c =
    let ok = c.args.chunks.now.ok in
    let h = home_found g.T.Keyed.rank c.args.key c.home-at.result (vec_len c.args.chunks.now) c.args.chunks.now.items _
    c.requires.rising c.requires.filled c.if-is_empty.ensures (omega arith) c.as_slice.ensures.value c.home-at.ensures in
    let lt = home_within g.T.Keyed.rank c.args.key c.home-at.result c.args.chunks.now.items h in
    let rest = ap (λ d. flat (set c.args.chunks.now.items c.home-at.result d)) c.take.ensures.rest
    ∙ sym (without_home g.T.Keyed.rank c.args.key c.home-at.result c.index_mut-chunk.result.now c.args.chunks.now.items h
    c.index_mut-chunk.ensures.value) in
    elim c.if-is_empty-2.branch [
      | then-is_empty-2 w ↦ rw w.chunks-is (ap flat w.remove.ensures.items
          ∙ flat_emptied c.home-at.result c.take.new.self c.args.chunks.now.items lt
          (none_there (length c.take.new.self) c.take.new.self (sym w.if-is_empty-2.true ∙ c.is_empty-2.ensures) refl) ∙ rest)
      | else-is_empty-2 w ↦ rw w.chunks-is (w.join_around.ensures.items ∙ rest)
    ]

pub keep-requires-clause-chunk : goal.keep-requires-clause-chunk
keep-requires-clause-chunk g c =
    let ok = c.args.chunks.now.ok in
    let h = home_found g.T.Keyed.rank c.args.key c.home-at.result (vec_len c.args.chunks.now) c.args.chunks.now.items _
    c.requires.rising c.requires.filled c.if-is_empty.ensures (omega arith) c.as_slice.ensures.value c.home-at.ensures in
    let lt = home_within g.T.Keyed.rank c.args.key c.home-at.result c.args.chunks.now.items h in
    get_set c.home-at.result c.remove.result c.take.new.self c.args.chunks.now.items lt c.remove.ensures.value
    ∙ none_there (length c.take.new.self) c.take.new.self c.if-is_empty-2.ensures refl

pub returns-in_err-item-clause-weight : goal.returns-in_err-item-clause-weight
returns-in_err-item-clause-weight g c =
    let ok = c.args.chunks.now.ok in
    let h = home_found g.T.Keyed.rank c.args.key c.home-at.result (vec_len c.args.chunks.now) c.args.chunks.now.items _
    c.requires.rising c.requires.filled c.if-is_empty.ensures (omega arith) c.as_slice.ensures.value c.home-at.ensures in
    let lt = home_within g.T.Keyed.rank c.args.key c.home-at.result c.args.chunks.now.items h in
    let l = length_without g.T.Keyed.rank c.args.key c.index_mut-chunk.result.now in
    let less = weight_set c.home-at.result 0 c.index_mut-chunk.result.now c.take.new.self c.args.chunks.now.items lt
    c.index_mut-chunk.ensures.value (omega (arith, ap length c.take.ensures.rest)) in
    omega arith

pub join_around-requires-clause-at : goal.join_around-requires-clause-at
join_around-requires-clause-at g c =
    let ok = c.args.chunks.now.ok in
    let h = home_found g.T.Keyed.rank c.args.key c.home-at.result (vec_len c.args.chunks.now) c.args.chunks.now.items _
    c.requires.rising c.requires.filled c.if-is_empty.ensures (omega arith) c.as_slice.ensures.value c.home-at.ensures in
    let lt = home_within g.T.Keyed.rank c.args.key c.home-at.result c.args.chunks.now.items h in
    omega arith

pub returns-clause-weight : goal.returns-clause-weight
returns-clause-weight g c =
    let ok = c.args.chunks.now.ok in
    let h = home_found g.T.Keyed.rank c.args.key c.home-at.result (vec_len c.args.chunks.now) c.args.chunks.now.items _
    c.requires.rising c.requires.filled c.if-is_empty.ensures (omega arith) c.as_slice.ensures.value c.home-at.ensures in
    let lt = home_within g.T.Keyed.rank c.args.key c.home-at.result c.args.chunks.now.items h in
    let l = length_without g.T.Keyed.rank c.args.key c.index_mut-chunk.result.now in
    let less = weight_set c.home-at.result 0 c.index_mut-chunk.result.now c.take.new.self c.args.chunks.now.items lt
    c.index_mut-chunk.ensures.value (omega (arith, ap length c.take.ensures.rest)) in
    let n = length-set c.args.chunks.now.items c.home-at.result c.take.new.self in
    let removed = weight_removed c.home-at.result (set c.args.chunks.now.items c.home-at.result c.take.new.self) (omega arith) in
    elim c.if-is_empty-2.branch [
      | then-is_empty-2 w ↦ rw w.chunks-is (let e = ap weight w.remove.ensures.items in omega (arith, e))
      | else-is_empty-2 w ↦ rw w.chunks-is (let le = w.join_around.ensures.weight in omega arith)
    ]

pub returns-in_err-item-clause-paired : goal.returns-in_err-item-clause-paired
returns-in_err-item-clause-paired g c =
    let ok = c.args.chunks.now.ok in
    let h = home_found g.T.Keyed.rank c.args.key c.home-at.result (vec_len c.args.chunks.now) c.args.chunks.now.items _
    c.requires.rising c.requires.filled c.if-is_empty.ensures (omega arith) c.as_slice.ensures.value c.home-at.ensures in
    let lt = home_within g.T.Keyed.rank c.args.key c.home-at.result c.args.chunks.now.items h in
    let same = ap length (c.take.ensures.rest ∙ without_absent g.T.Keyed.rank c.args.key c.index_mut-chunk.result.now
    (sym c.take.ensures.item ∙ c.in_err-item.was)) in
    paired_set c.home-at.result c.index_mut-chunk.result.now c.take.new.self c.args.chunks.now.items lt
    c.index_mut-chunk.ensures.value (omega (arith, same)) c.requires.paired

pub join_around-requires-clause-lower : goal.join_around-requires-clause-lower
join_around-requires-clause-lower g c = to_shrunk c.home-at.result c.take.new.self c.args.chunks.now.items c.requires.paired

pub join_around-requires-clause-upper : goal.join_around-requires-clause-upper
join_around-requires-clause-upper g c =
    subst (λ i. IsPairedFrom i (set c.args.chunks.now.items c.home-at.result c.take.new.self)) (sym (add-one c.home-at.result))
    (from_shrunk c.home-at.result c.take.new.self c.args.chunks.now.items c.requires.paired)

pub returns-clause-paired : goal.returns-clause-paired
returns-clause-paired g c =
    let ok = c.args.chunks.now.ok in
    let h = home_found g.T.Keyed.rank c.args.key c.home-at.result (vec_len c.args.chunks.now) c.args.chunks.now.items _
    c.requires.rising c.requires.filled c.if-is_empty.ensures (omega arith) c.as_slice.ensures.value c.home-at.ensures in
    let lt = home_within g.T.Keyed.rank c.args.key c.home-at.result c.args.chunks.now.items h in
    let chunk = c.index_mut-chunk.result.now in
    let l = ap length c.take.ensures.rest in
    let one = length-without g.T.Keyed.rank c.args.key c.in_ok-item.item chunk (sym c.take.ensures.item ∙ c.in_ok-item.was) in
    elim c.if-is_empty-2.branch [
      | then-is_empty-2 w ↦ rw w.chunks-is (
          let none =
          ap length (none_there (length c.take.new.self) c.take.new.self (sym w.if-is_empty-2.true ∙ c.is_empty-2.ensures) refl) in
          subst IsPaired (sym w.remove.ensures.items)
          (paired_removed c.home-at.result chunk c.take.new.self c.args.chunks.now.items lt c.index_mut-chunk.ensures.value
          (omega (arith, l, one, none)) c.requires.filled c.requires.paired))
      | else-is_empty-2 w ↦ rw w.chunks-is w.join_around.ensures.paired
    ]
