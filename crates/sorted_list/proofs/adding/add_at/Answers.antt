use Rattle.std.proofs.Common.{◌<◌, ◌++◌, vec_len, length, set, arith, refl, sym, ◌∙◌, ap, subst, add-one, length-append}
use Rattle.std.specs.Vec.{vec_capacity}
use Rattle.std.specs.Option.{option_to_list}
use Rattle.std.specs.List.{insert}
use Rattle.sorted_list.specs.Ordered.{Every}
use Rattle.sorted_list.specs.Chunks.{flat, weight, IsFilled, IsEmpty, IsPaired}
use Rattle.sorted_list.proofs.Flat.{when_ok, home_within, rising_chunk, add_home, divided_home, every-set, every-last, length-add, not_last}
use Rattle.sorted_list.proofs.Weight.{weight_full, weight_set, weight_divided}
use Rattle.sorted_list.proofs.Pairs.{paired_set, paired_divided}
use Rattle.sorted_list.proofs.adding.add_at.Goals as goal

pub index_mut-chunk-requires : goal.index_mut-chunk-requires
index_mut-chunk-requires g c =
    let ok = c.args.chunks.now.ok in
    let lt = home_within g.T.Keyed.rank (g.T.Keyed.rank c.args.item) c.args.at c.args.chunks.now.items c.requires.home in
    omega arith

pub add_divided-requires-clause-rising : goal.add_divided-requires-clause-rising
add_divided-requires-clause-rising g c =
    let ok = c.args.chunks.now.ok in
    let lt = home_within g.T.Keyed.rank (g.T.Keyed.rank c.args.item) c.args.at c.args.chunks.now.items c.requires.home in
    rising_chunk g.T.Keyed.rank c.args.at c.index_mut-chunk.result.now c.args.chunks.now.items c.requires.rising lt
    c.index_mut-chunk.ensures.value

pub add-requires-clause-rising : goal.add-requires-clause-rising
add-requires-clause-rising g c =
    let ok = c.args.chunks.now.ok in
    let lt = home_within g.T.Keyed.rank (g.T.Keyed.rank c.args.item) c.args.at c.args.chunks.now.items c.requires.home in
    rising_chunk g.T.Keyed.rank c.args.at c.index_mut-chunk.result.now c.args.chunks.now.items c.requires.rising lt
    c.index_mut-chunk.ensures.value

pub add_divided-requires-clause-empty : goal.add_divided-requires-clause-empty
add_divided-requires-clause-empty g c =
    let e = c.pop.ensures.items ∙ ap (λ o. c.pop.new.self.items ++ option_to_list o) c.unwrap-upper.ensures in
    every-last IsEmpty c.unwrap-upper.result c.pop.new.self.items (subst (Every IsEmpty) e c.requires.empty)

pub overflow_add-at : goal.overflow_add-at
overflow_add-at g c =
    let ok = c.args.chunks.now.ok in
    let lt = home_within g.T.Keyed.rank (g.T.Keyed.rank c.args.item) c.args.at c.args.chunks.now.items c.requires.home in
    omega (arith, c.args.chunks.now.small)

pub insert-requires : goal.insert-requires
insert-requires g c =
    let ok = c.args.chunks.now.ok in
    let lt = home_within g.T.Keyed.rank (g.T.Keyed.rank c.args.item) c.args.at c.args.chunks.now.items c.requires.home in
    omega arith

pub returns-then-is_full-clause-items : goal.returns-then-is_full-clause-items
returns-then-is_full-clause-items g c =
    let ok = c.args.chunks.now.ok in
    let lt = home_within g.T.Keyed.rank (g.T.Keyed.rank c.args.item) c.args.at c.args.chunks.now.items c.requires.home in
    let full = weight_full c.args.at c.index_mut-chunk.result.now c.args.chunks.now.items lt c.index_mut-chunk.ensures.value
    (c.if-is_full.ensures.0 refl) in
    let place : vec_len c.args.chunks.now < vec_capacity c.args.chunks.now = omega (arith, c.requires.place) in
    ap flat (c.insert.ensures.items ∙ when_ok c.insert.result _ _ (c.insert.ensures.succeeds place))
    ∙ divided_home g.T.Keyed.rank c.args.at c.args.item c.add_divided.new.lower c.add_divided.new.upper
    c.index_mut-chunk.result.now c.args.chunks.now.items c.requires.home c.index_mut-chunk.ensures.value
    c.add_divided.ensures.both

pub returns-else-is_full-clause-items : goal.returns-else-is_full-clause-items
returns-else-is_full-clause-items g c =
    ap (λ d. flat (set c.args.chunks.now.items c.args.at d)) c.add.ensures
    ∙ sym (add_home g.T.Keyed.rank c.args.at c.args.item c.index_mut-chunk.result.now c.args.chunks.now.items c.requires.home
    c.index_mut-chunk.ensures.value)

pub returns-else-is_full-clause-filled : goal.returns-else-is_full-clause-filled
returns-else-is_full-clause-filled g c =
    let l = ap length c.add.ensures ∙ length-add g.T.Keyed.rank c.args.item c.index_mut-chunk.result.now in
    every-set IsFilled c.args.at c.add.new.self c.args.chunks.now.items (omega (arith, l)) c.requires.filled

pub overflow_sub-is_last : goal.overflow_sub-is_last
overflow_sub-is_last g c =
    let ok = c.args.chunks.now.ok in
    let l = c.len.ensures in
    let lt = home_within g.T.Keyed.rank (g.T.Keyed.rank c.args.item) c.args.at c.args.chunks.now.items c.requires.home in
    omega arith

pub unwrap-upper-requires : goal.unwrap-upper-requires
unwrap-upper-requires g c =
    let ok = c.args.chunks.now.ok in
    let lt = home_within g.T.Keyed.rank (g.T.Keyed.rank c.args.item) c.args.at c.args.chunks.now.items c.requires.home in
    let full = weight_full c.args.at c.index_mut-chunk.result.now c.args.chunks.now.items lt c.index_mut-chunk.ensures.value
    (c.if-is_full.ensures.0 refl) in
    let spare : 0 < vec_len c.args.spares.now = omega (arith, c.requires.spare) in
    c.pop.ensures.variant.1 spare

pub returns-then-is_full-clause-weight : goal.returns-then-is_full-clause-weight
returns-then-is_full-clause-weight g c =
    let ok = c.args.chunks.now.ok in
    let lt = home_within g.T.Keyed.rank (g.T.Keyed.rank c.args.item) c.args.at c.args.chunks.now.items c.requires.home in
    let full = weight_full c.args.at c.index_mut-chunk.result.now c.args.chunks.now.items lt c.index_mut-chunk.ensures.value
    (c.if-is_full.ensures.0 refl) in
    let place : vec_len c.args.chunks.now < vec_capacity c.args.chunks.now = omega (arith, c.requires.place) in
    let e = c.insert.ensures.items ∙ when_ok c.insert.result _ _ (c.insert.ensures.succeeds place)
    ∙ ap (λ i. insert (set c.args.chunks.now.items c.args.at c.add_divided.new.lower) i c.add_divided.new.upper)
    (add-one c.args.at) in
    let w = ap weight e in
    let both = ap length c.add_divided.ensures.both ∙ length-add g.T.Keyed.rank c.args.item c.index_mut-chunk.result.now in
    let l = length-append c.add_divided.new.lower c.add_divided.new.upper in
    let n = c.len.ensures in
    let le = weight_divided c.args.at c.add_divided.new.lower c.add_divided.new.upper c.index_mut-chunk.result.now
    c.args.chunks.now.items lt c.index_mut-chunk.ensures.value (omega arith) c.add_divided.ensures.lower
    (λ more. c.add_divided.ensures.half (not_last c.len.result c.args.at (omega arith))) in
    omega arith

pub returns-then-is_full-clause-total : goal.returns-then-is_full-clause-total
returns-then-is_full-clause-total g c =
    let ok = c.args.chunks.now.ok in
    let lt = home_within g.T.Keyed.rank (g.T.Keyed.rank c.args.item) c.args.at c.args.chunks.now.items c.requires.home in
    let full = weight_full c.args.at c.index_mut-chunk.result.now c.args.chunks.now.items lt c.index_mut-chunk.ensures.value
    (c.if-is_full.ensures.0 refl) in
    let place : vec_len c.args.chunks.now < vec_capacity c.args.chunks.now = omega (arith, c.requires.place) in
    let n = c.insert.ensures.len ∙ when_ok c.insert.result _ _ (c.insert.ensures.succeeds place) in
    let one = ap (λ o. length (option_to_list o)) c.unwrap-upper.ensures in
    let rest = c.pop.ensures.len in
    omega (arith, n, one)

pub returns-else-is_full-clause-weight : goal.returns-else-is_full-clause-weight
returns-else-is_full-clause-weight g c =
    let ok = c.args.chunks.now.ok in
    let lt = home_within g.T.Keyed.rank (g.T.Keyed.rank c.args.item) c.args.at c.args.chunks.now.items c.requires.home in
    let l = ap length c.add.ensures ∙ length-add g.T.Keyed.rank c.args.item c.index_mut-chunk.result.now in
    weight_set c.args.at 1 c.index_mut-chunk.result.now c.add.new.self c.args.chunks.now.items lt c.index_mut-chunk.ensures.value
    (omega arith)

pub returns-then-is_full-clause-paired : goal.returns-then-is_full-clause-paired
returns-then-is_full-clause-paired g c =
    let ok = c.args.chunks.now.ok in
    let lt = home_within g.T.Keyed.rank (g.T.Keyed.rank c.args.item) c.args.at c.args.chunks.now.items c.requires.home in
    let full = weight_full c.args.at c.index_mut-chunk.result.now c.args.chunks.now.items lt c.index_mut-chunk.ensures.value
    (c.if-is_full.ensures.0 refl) in
    let place : vec_len c.args.chunks.now < vec_capacity c.args.chunks.now = omega (arith, c.requires.place) in
    let e = c.insert.ensures.items ∙ when_ok c.insert.result _ _ (c.insert.ensures.succeeds place)
    ∙ ap (λ i. insert (set c.args.chunks.now.items c.args.at c.add_divided.new.lower) i c.add_divided.new.upper)
    (add-one c.args.at) in
    let n = c.len.ensures in
    subst IsPaired (sym e) (paired_divided c.args.at c.add_divided.new.lower c.add_divided.new.upper c.args.chunks.now.items lt
    c.add_divided.ensures.lower c.add_divided.ensures.upper
    (λ more. c.add_divided.ensures.half (not_last c.len.result c.args.at (omega arith))) c.requires.filled c.requires.paired)

pub returns-else-is_full-clause-paired : goal.returns-else-is_full-clause-paired
returns-else-is_full-clause-paired g c =
    let lt = home_within g.T.Keyed.rank (g.T.Keyed.rank c.args.item) c.args.at c.args.chunks.now.items c.requires.home in
    let l = ap length c.add.ensures ∙ length-add g.T.Keyed.rank c.args.item c.index_mut-chunk.result.now in
    paired_set c.args.at c.index_mut-chunk.result.now c.add.new.self c.args.chunks.now.items lt c.index_mut-chunk.ensures.value
    (omega arith) c.requires.paired
