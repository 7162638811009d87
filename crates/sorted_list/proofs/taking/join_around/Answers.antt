use Rattle.std.proofs.Common.{◌≡◌, ◌+◌, ◌-◌, arith, sym, subst, add-one}
use Rattle.sorted_list.specs.Chunks.{IsPairedFrom, IsPairedTo}
use Rattle.sorted_list.proofs.Pairs.{paired_whole}
use Rattle.sorted_list.proofs.taking.join_around.Goals as goal

pub returns-then-at-gt0-clause-paired : goal.returns-then-at-gt0-clause-paired
returns-then-at-gt0-clause-paired g c =
    let t = c.if-at-gt0.true in
    let at : (c.args.at - 1) + 1 ≡ c.args.at = omega arith in
    let first = c.join_next.ensures in
    let second = c.join_next-then-at-gt0.ensures in
    let to = second.over (subst (λ i. IsPairedTo i c.join_next.new.chunks.items) (sym at) (first.lower c.requires.lower)) in
    let from = second.upper (subst (λ i. IsPairedFrom i c.join_next.new.chunks.items) (sym at) (first.upper c.requires.upper)) in
    paired_whole (c.args.at - 1) c.join_next-then-at-gt0.new.chunks.items
    (subst (λ i. IsPairedTo i c.join_next-then-at-gt0.new.chunks.items) (add-one (c.args.at - 1)) to) from
