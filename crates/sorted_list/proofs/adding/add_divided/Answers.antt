use Rattle.std.proofs.Common.{◌<◌, ◌≤◌, ◌++◌, length, arith, sym, ◌∙◌, ap, subst}
use Rattle.sorted_list.specs.Ordered.{Rising, add}
use Rattle.sorted_list.specs.Chunks.{head_key}
use Rattle.sorted_list.proofs.Flat.{rising_left, rising_right, add_last, add_lower, add_upper, length-add}
use Rattle.sorted_list.proofs.adding.add_divided.Goals as goal

pub add-requires-then-key-head_key-clause-rising : goal.add-requires-then-key-head_key-clause-rising
add-requires-then-key-head_key-clause-rising g c = rising_left g.T.Keyed.rank c.divide.new.self c.divide.new.upper
    (subst (Rising g.T.Keyed.rank) (sym c.divide.ensures.both) c.requires.rising)

pub add-requires-else-key-head_key-clause-rising : goal.add-requires-else-key-head_key-clause-rising
add-requires-else-key-head_key-clause-rising g c = rising_right g.T.Keyed.rank c.divide.new.self c.divide.new.upper
    (subst (Rising g.T.Keyed.rank) (sym c.divide.ensures.both) c.requires.rising)

pub returns-then-key-head_key-clause-both : goal.returns-then-key-head_key-clause-both
returns-then-key-head_key-clause-both g c =
    let r = subst (Rising g.T.Keyed.rank) (sym c.divide.ensures.both) c.requires.rising in
    let lt : g.T.Keyed.rank c.args.item < head_key g.T.Keyed.rank c.divide.new.upper = omega
    (arith, c.key-2.ensures, c.head_key.ensures) in
    ap (λ xs. xs ++ c.divide.new.upper) c.add-then-key-head_key.ensures
    ∙ sym (add_lower g.T.Keyed.rank c.args.item c.divide.new.self c.divide.new.upper r lt) ∙ ap (add g.T.Keyed.rank c.args.item)
    c.divide.ensures.both

pub returns-then-key-head_key-clause-lower : goal.returns-then-key-head_key-clause-lower
returns-then-key-head_key-clause-lower g c =
    let l = ap length c.add-then-key-head_key.ensures ∙ length-add g.T.Keyed.rank c.args.item c.divide.new.self in
    omega (arith, l)

pub returns-else-key-head_key-clause-both : goal.returns-else-key-head_key-clause-both
returns-else-key-head_key-clause-both g c =
    let r = subst (Rising g.T.Keyed.rank) (sym c.divide.ensures.both) c.requires.rising in
    let le : head_key g.T.Keyed.rank c.divide.new.upper ≤ g.T.Keyed.rank c.args.item = omega
    (arith, c.key-2.ensures, c.head_key.ensures) in
    let some : 0 < length c.divide.new.upper = omega (arith, c.divide.ensures.upper) in
    ap (λ xs. c.divide.new.self ++ xs) c.add-else-key-head_key.ensures
    ∙ sym (add_upper g.T.Keyed.rank c.args.item c.divide.new.self c.divide.new.upper r some le)
    ∙ ap (add g.T.Keyed.rank c.args.item) c.divide.ensures.both

pub returns-then-last_key-key-clause-both : goal.returns-then-last_key-key-clause-both
returns-then-last_key-key-clause-both g c =
    let lt : c.last_key.result < g.T.Keyed.rank c.args.item = omega (arith, c.key.ensures) in
    ap (λ xs. c.args.lower.now ++ xs) (c.add.ensures ∙ ap (add g.T.Keyed.rank c.args.item) c.requires.empty)
    ∙ add_last g.T.Keyed.rank c.last_key.result c.args.item c.args.lower.now c.last_key.ensures lt

pub returns-else-key-head_key-clause-half : goal.returns-else-key-head_key-clause-half
returns-else-key-head_key-clause-half g c =
    let l = ap length c.add-else-key-head_key.ensures ∙ length-add g.T.Keyed.rank c.args.item c.divide.new.upper in
    λ _. omega (arith, l, c.divide.ensures.upper)
