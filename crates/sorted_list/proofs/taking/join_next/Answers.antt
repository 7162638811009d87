use Rattle.std.proofs.Common.{◌+◌, ◌<◌, suc, length, set, get_or, arith, sym, ◌∙◌, ap, subst, add-one, length-append}
use Rattle.std.specs.List.{remove}
use Rattle.sorted_list.specs.Ordered.{Every}
use Rattle.sorted_list.specs.Chunks.{flat, weight, IsFilled, IsPairedFrom, IsPairedTo}
use Rattle.sorted_list.proofs.Flat.{get_before, flat_joined, every-set, every-remove, every-get}
use Rattle.sorted_list.proofs.Weight.{weight_joined}
use Rattle.sorted_list.proofs.Pairs.{many, to_joined, over_joined, from_joined, from_apart, from_end}
use Rattle.sorted_list.proofs.taking.join_next.Goals as goal

pub returns-clause-items : goal.returns-clause-items
returns-clause-items g c =
    let ok = c.args.chunks.now.ok in
    let l = c.len.ensures in
    let t = c.if-len-at-eq1.false in
    let lt : suc c.args.at < length c.args.chunks.now.items = omega (arith, c.requires.at) in
    let gone = c.remove-joined.ensures.items ∙ ap (remove c.args.chunks.now.items) (add-one c.args.at) in
    let a = get_before c.args.at c.index_mut-chunk.result.now c.args.chunks.now.items lt (c.index_mut-chunk.ensures.value
    ∙ ap (λ cs. get_or cs c.args.at c.index_mut-chunk.result.now) gone) in
    let b = c.remove-joined.ensures.value ∙ ap (λ i. get_or c.args.chunks.now.items i c.remove-joined.result) (add-one c.args.at) in
    ap (λ cs. flat (set cs c.args.at c.append.new.self)) gone
    ∙ ap (λ d. flat (set (remove c.args.chunks.now.items (suc c.args.at)) c.args.at d)) c.append.ensures.both
    ∙ flat_joined c.args.at c.index_mut-chunk.result.now c.remove-joined.result c.args.chunks.now.items lt a b

pub returns-clause-filled : goal.returns-clause-filled
returns-clause-filled g c =
    let ok = c.remove-joined.new.self.ok in
    let n = c.remove-joined.ensures.len in
    let l = c.len.ensures in
    let t = c.if-len-at-eq1.false in
    let lt : c.args.at < length c.remove-joined.new.self.items = omega (arith, c.requires.at) in
    let rest = subst (Every IsFilled) (sym c.remove-joined.ensures.items)
    (every-remove IsFilled (c.args.at + 1) c.args.chunks.now.items c.requires.filled) in
    let some = every-get IsFilled c.args.at c.index_mut-chunk.result.now c.remove-joined.new.self.items rest lt
    c.index_mut-chunk.ensures.value in
    let m = ap length c.append.ensures.both ∙ length-append c.index_mut-chunk.result.now c.remove-joined.result in
    every-set IsFilled c.args.at c.append.new.self c.remove-joined.new.self.items (omega (arith, m, some)) rest

pub returns-clause-weight : goal.returns-clause-weight
returns-clause-weight g c =
    let ok = c.args.chunks.now.ok in
    let l = c.len.ensures in
    let t = c.if-len-at-eq1.false in
    let lt : suc c.args.at < length c.args.chunks.now.items = omega (arith, c.requires.at) in
    let gone = c.remove-joined.ensures.items ∙ ap (remove c.args.chunks.now.items) (add-one c.args.at) in
    let a = get_before c.args.at c.index_mut-chunk.result.now c.args.chunks.now.items lt (c.index_mut-chunk.ensures.value
    ∙ ap (λ cs. get_or cs c.args.at c.index_mut-chunk.result.now) gone) in
    let b = c.remove-joined.ensures.value ∙ ap (λ i. get_or c.args.chunks.now.items i c.remove-joined.result) (add-one c.args.at) in
    let e = ap (λ cs. weight (set cs c.args.at c.append.new.self)) gone
    ∙ ap (λ d. weight (set (remove c.args.chunks.now.items (suc c.args.at)) c.args.at d)) c.append.ensures.both in
    let le = weight_joined c.args.at c.index_mut-chunk.result.now c.remove-joined.result c.args.chunks.now.items lt a b in
    omega (arith, e)

pub returns-then-len-at-eq1-clause-upper : goal.returns-then-len-at-eq1-clause-upper
returns-then-len-at-eq1-clause-upper g c =
    let ok = c.args.chunks.now.ok in
    let l = c.len.ensures in
    let t = c.if-len-at-eq1.true in
    λ h. from_end c.args.at c.args.chunks.now.items (omega (arith, c.requires.at))

pub returns-then-not-fits_with-clause-upper : goal.returns-then-not-fits_with-clause-upper
returns-then-not-fits_with-clause-upper g c =
    let ok = c.args.chunks.now.ok in
    let l = c.len.ensures in
    let t = c.if-len-at-eq1.false in
    let lt : suc c.args.at < length c.args.chunks.now.items = omega (arith, c.requires.at) in
    let b = c.index-upper.ensures ∙ ap (λ i. get_or c.args.chunks.now.items i c.index-upper.result.now) (add-one c.args.at) in
    λ h. from_apart c.args.at c.index-lower.result.now c.index-upper.result.now c.args.chunks.now.items lt c.index-lower.ensures b
    (many _ c.if-not-fits_with.ensures.1) (subst (λ i. IsPairedFrom i c.args.chunks.now.items) (add-one c.args.at) h)

pub returns-clause-lower : goal.returns-clause-lower
returns-clause-lower g c =
    let gone = c.remove-joined.ensures.items ∙ ap (remove c.args.chunks.now.items) (add-one c.args.at) in
    λ h. subst (λ ds. IsPairedTo c.args.at (set ds c.args.at c.append.new.self)) (sym gone)
    (to_joined c.args.at c.append.new.self c.args.chunks.now.items h)

pub returns-clause-over : goal.returns-clause-over
returns-clause-over g c =
    let ok = c.args.chunks.now.ok in
    let l = c.len.ensures in
    let t = c.if-len-at-eq1.false in
    let lt : suc c.args.at < length c.args.chunks.now.items = omega (arith, c.requires.at) in
    let gone = c.remove-joined.ensures.items ∙ ap (remove c.args.chunks.now.items) (add-one c.args.at) in
    let a = get_before c.args.at c.index_mut-chunk.result.now c.args.chunks.now.items lt (c.index_mut-chunk.ensures.value
    ∙ ap (λ cs. get_or cs c.args.at c.index_mut-chunk.result.now) gone) in
    let b = c.remove-joined.ensures.value ∙ ap (λ i. get_or c.args.chunks.now.items i c.remove-joined.result) (add-one c.args.at) in
    let m = ap length c.append.ensures.both ∙ length-append c.index_mut-chunk.result.now c.remove-joined.result in
    λ h. subst (λ i. IsPairedTo i (set c.remove-joined.new.self.items c.args.at c.append.new.self)) (sym (add-one c.args.at))
    (subst (λ ds. IsPairedTo (suc c.args.at) (set ds c.args.at c.append.new.self)) (sym gone)
    (over_joined c.args.at c.index_mut-chunk.result.now c.append.new.self c.args.chunks.now.items lt a (omega (arith, m))
    (subst (λ i. IsPairedTo i c.args.chunks.now.items) (add-one c.args.at) h)))

pub returns-clause-upper : goal.returns-clause-upper
returns-clause-upper g c =
    let ok = c.args.chunks.now.ok in
    let l = c.len.ensures in
    let t = c.if-len-at-eq1.false in
    let lt : suc c.args.at < length c.args.chunks.now.items = omega (arith, c.requires.at) in
    let gone = c.remove-joined.ensures.items ∙ ap (remove c.args.chunks.now.items) (add-one c.args.at) in
    let a = get_before c.args.at c.index_mut-chunk.result.now c.args.chunks.now.items lt (c.index_mut-chunk.ensures.value
    ∙ ap (λ cs. get_or cs c.args.at c.index_mut-chunk.result.now) gone) in
    let b = c.remove-joined.ensures.value ∙ ap (λ i. get_or c.args.chunks.now.items i c.remove-joined.result) (add-one c.args.at) in
    let m = ap length c.append.ensures.both ∙ length-append c.index_mut-chunk.result.now c.remove-joined.result in
    λ h. subst (λ ds. IsPairedFrom c.args.at (set ds c.args.at c.append.new.self)) (sym gone)
    (from_joined c.args.at c.remove-joined.result c.append.new.self c.args.chunks.now.items lt b (omega (arith, m))
    (subst (λ i. IsPairedFrom i c.args.chunks.now.items) (add-one c.args.at) h))
