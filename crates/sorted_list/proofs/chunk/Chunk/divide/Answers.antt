use Rattle.std.proofs.Common.{◌≤◌, ◌-◌, ◌+◌, ◌++◌, take, drop, length, sym, ◌∙◌, ap, arith, vec_len}
use Rattle.std.specs.Vec.{vec_capacity}
use Rattle.sorted_list.proofs.Flat.{when_ok, divided, length_upper}
use Rattle.sorted_list.proofs.chunk.Chunk.divide.Goals as goal

pub returns-clause-both : goal.returns-clause-both
returns-clause-both g c =
    let d = c.deref.ensures.value in
    let n = ap length (c.upper.view_is ∙ c.requires.empty) in
    let l = length_upper 128 c.deref.result.now in
    let ok = c.upper.inside.items.ok in
    let small = c.self.invariant.1 in
    let own = c.self.inside.items.ok in
    let same = ap length d in
    let fits : vec_len c.upper.inside.items + length (take (length c.deref.result.now - 128) (drop 128 c.deref.result.now)) ≤
    vec_capacity c.upper.inside.items = omega (arith, c.upper.invariant.0, l, n, same) in
    let e = c.extend_from_slice.ensures.items ∙ when_ok c.extend_from_slice.result _ _ (c.extend_from_slice.ensures.succeeds fits)
    ∙ ap (λ xs. xs ++ take (length c.deref.result.now - 128) (drop 128 c.deref.result.now)) (c.upper.view_is ∙ c.requires.empty) in
    ap (λ xs. xs ++ c.extend_from_slice.new.self.items) (c.truncate.ensures.items ∙ ap (take 128) (sym d))
    ∙ ap (λ xs. take 128 c.deref.result.now ++ xs) e ∙ divided 128 c.deref.result.now ∙ d ∙ c.self.view_is

pub returns-clause-upper : goal.returns-clause-upper
returns-clause-upper g c =
    let d = c.deref.ensures.value in
    let n = ap length (c.upper.view_is ∙ c.requires.empty) in
    let l = length_upper 128 c.deref.result.now in
    let ok = c.upper.inside.items.ok in
    let small = c.self.invariant.1 in
    let own = c.self.inside.items.ok in
    let same = ap length d in
    let fits : vec_len c.upper.inside.items + length (take (length c.deref.result.now - 128) (drop 128 c.deref.result.now)) ≤
    vec_capacity c.upper.inside.items = omega (arith, c.upper.invariant.0, l, n, same) in
    let e = c.extend_from_slice.ensures.items ∙ when_ok c.extend_from_slice.result _ _ (c.extend_from_slice.ensures.succeeds fits)
    ∙ ap (λ xs. xs ++ take (length c.deref.result.now - 128) (drop 128 c.deref.result.now)) (c.upper.view_is ∙ c.requires.empty) in
    let m = ap length e in
    let seen = ap length c.self.view_is in
    omega (arith, m, l, same, seen, c.requires.full)
