use Rattle.std.proofs.Common.{◌+◌, ◌-◌, ◌<◌, ◌≤◌, arith, ◌∙◌, sym, ap, subst, vec_len}
use Rattle.std.specs.Prelude.{min}
use Rattle.sorted_list.specs.Chunks.{flat, weight}
use Rattle.sorted_list.proofs.Flat.{kept_without, kept_absent, gone, length-without}
use Rattle.sorted_list.proofs.Weight.{weight_most, room_taken}
use Rattle.sorted_list.proofs.Pairs.{least_kept, wanted_kept, steady_taken, weight_paired, room_regained, steady_regained}
use Rattle.sorted_list.proofs.list.SortedList.take.Goals as goal

pub invariant_of-self : goal.invariant_of-self
invariant_of-self g c =
    let a = c.take_from.ensures in
    let k = kept_absent g.T.Keyed.rank c.args.key c.self.inside.chunks.items c.take_from.new.chunks.items
    c.self.inside.spares.items c.take_from.new.spares.items c.self.inside.len c.self.invariant.0 (sym a.item ∙ c.in_err-item.was)
    a.rest a.filled a.empty in
    let most = weight_most c.take_from.new.chunks.items in
    let ok = c.take_from.new.chunks.ok in
    let least = subst (λ n. min (vec_len c.self.inside.chunks + vec_len c.self.inside.spares) (vec_len c.take_from.new.chunks + n) ≤
    vec_len c.take_from.new.chunks + vec_len c.take_from.new.spares) c.kept_chunks-enough.ensures a.spares in
    let some = least_kept _ _ _ _ _ (wanted_kept c.self.inside.len c.self.inside.room c.self.inside.steady) least in
    let steady = steady_taken c.self.inside.steady c.self.inside.len c.self.inside.room _ _ _ _ _ _ _ c.self.invariant.3 least a.places
    a.held in (
      k,
      room_taken (weight c.self.inside.chunks.items) (weight c.take_from.new.chunks.items) (vec_len c.self.inside.chunks)
          (vec_len c.take_from.new.chunks) _ _ _ _ _ _ c.self.inside.len c.self.inside.len c.self.inside.room c.self.invariant.1
          a.weight a.used some a.places a.held (omega arith) (omega (arith, k.count)),
      a.paired,
      steady,
    )

pub returns-in_err-item-clause-gone : goal.returns-in_err-item-clause-gone
returns-in_err-item-clause-gone g c = gone g.T.Keyed.rank c.args.key c.self.inside.chunks.items c.take_from.new.chunks.items
    c.self.invariant.0.rising c.take_from.ensures.rest

pub invariant_of-self-2 : goal.invariant_of-self-2
invariant_of-self-2 g c =
    let a = c.take_from.ensures in
    let k = kept_without g.T.Keyed.rank c.args.key c.in_ok-item.item c.self.inside.chunks.items c.take_from.new.chunks.items
    c.self.inside.spares.items c.take_from.new.spares.items c.self.inside.len c.self.invariant.0 (sym a.item ∙ c.in_ok-item.was)
    a.rest a.filled a.empty in
    let most = weight_most c.take_from.new.chunks.items in
    let ok = c.take_from.new.chunks.ok in
    let least = subst (λ n. min (vec_len c.self.inside.chunks + vec_len c.self.inside.spares) (vec_len c.take_from.new.chunks + n) ≤
    vec_len c.take_from.new.chunks + vec_len c.take_from.new.spares) c.kept_chunks-enough.ensures a.spares in
    let some = least_kept _ _ _ _ _ (wanted_kept c.self.inside.len c.self.inside.room c.self.inside.steady) least in
    let steady = steady_taken c.self.inside.steady c.self.inside.len c.self.inside.room _ _ _ _ _ _ _ c.self.invariant.3 least a.places
    a.held in
    let there =
    length-without g.T.Keyed.rank c.args.key c.in_ok-item.item (flat c.self.inside.chunks.items) (sym a.item ∙ c.in_ok-item.was) in
    let lt : 0 < c.self.inside.len = omega (arith, there, c.self.invariant.0.count) in
    let all = weight_paired c.take_from.new.chunks.items a.paired in
    let n = ap (λ n. c.self.inside.room + n) c.regained.ensures in
    let base = room_taken (weight c.self.inside.chunks.items) (weight c.take_from.new.chunks.items) (vec_len c.self.inside.chunks)
    (vec_len c.take_from.new.chunks) _ _ _ _ _ _ c.self.inside.len (c.self.inside.len - 1) c.self.inside.room c.self.invariant.1
    a.weight a.used some a.places a.held (omega arith) (omega (arith, k.count)) in (
      k,
      room_regained (weight c.take_from.new.chunks.items)
          (vec_len c.take_from.new.chunks) _ _ _ c.self.inside.len c.self.inside.room
          (c.self.inside.room + c.regained.result) c.self.inside.steady base lt c.self.invariant.1.fits (omega (arith, all, k.count))
          steady n,
      a.paired,
      steady_regained _ _ _ c.self.inside.len c.self.inside.room (c.self.inside.room + c.regained.result) c.self.inside.steady lt
          steady n,
    )

pub returns-clause-gone : goal.returns-clause-gone
returns-clause-gone g c = gone g.T.Keyed.rank c.args.key c.self.inside.chunks.items c.take_from.new.chunks.items
    c.self.invariant.0.rising c.take_from.ensures.rest
