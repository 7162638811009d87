use Rattle.std.proofs.Common.{◌≡◌, ◌+◌, ◌∙◌, ap, arith, length}
use Rattle.std.specs.Prelude.{min}
use Rattle.identity_slots.specs.declared.profile.Vector.{Vector}
use Rattle.identity_slots.specs.Forgetting.{forgotten}
use Rattle.identity_slots.specs.Spending.{KeptView}
use Rattle.identity_slots.proofs.Forgetting.{spent_are}
use Rattle.identity_slots.proofs.Windows.{window_next, window_whole}
use Rattle.identity_slots.proofs.vectors.KeptVectors.spend_before.Goals as goal
use Rattle.identity_slots.proofs.vectors.KeptVectors.spend_before.Goals.{After-min-end}

-- there are as many as were given
count : (c : After-min-end) → c.self.inside.base + c.len.result ≡ length c.args.self.now.given
count c =
    ap (λ n. c.self.inside.base + n) (c.len.ensures ∙ c.self.inside.items.ok.0)
    ∙ window_whole c.self.inside.base c.self.inside.spent c.self.inside.given c.self.inside.items.items c.self.invariant
    ∙ ap (λ (v : KeptView). length v.given) c.self.view_is

pub loop-self-init : goal.loop-self-init
loop-self-init c =
    let spent = ap (λ (v : KeptView). v.spent) c.self.view_is in
    record {
      window = c.self.invariant;
      given = ap (λ (v : KeptView). v.given) c.self.view_is;
      more = omega arith;
      most = omega arith;
    }

pub index_mut-requires : goal.index_mut-requires
index_mut-requires c =
    let all = count (goal.at.index_mut-requires c).After-min-end in
    let whole =
    window_whole c.loop-self.self-inside.base c.loop-self.self-inside.spent c.loop-self.self-inside.given c.loop-self.self-inside.items.items
    c.loop-self.invariant.window in
    let based = c.loop-self.invariant.window.based in
    let same = ap length c.loop-self.invariant.given in
    let ends = c.min-end.ensures in
    let ok = c.loop-self.self-inside.items.ok in
    omega (arith, all, whole, based, same, ends, c.loop-self-test.true)

pub loop-self-preserved : goal.loop-self-preserved
loop-self-preserved c =
    let all = count (goal.at.loop-self-preserved c).After-min-end in
    let same = ap length c.loop-self.invariant.given in
    let ends = c.min-end.ensures in
    let less = c.loop-self-test.true in
    record {
      window = window_next c.loop-self.self-inside.base c.loop-self.self-inside.spent c.loop-self.self-inside.given c.loop-self.self-inside.items.items
          c.forget.new.self c.index_mut.result.now c.loop-self.invariant.window (omega (arith, all, same, ends, less))
          (c.forget.ensures ∙ ap (λ (v : Vector). forgotten v) c.index_mut.ensures.value);
      given = c.loop-self.invariant.given;
      more = omega arith;
      most = omega arith;
    }

pub returns : goal.returns
returns c =
    let all = count (goal.at.returns c).After-min-end in
    spent_are c.args.place c.min-end.result c.loop-self.self-inside.spent c.loop-self.self-inside.given c.args.self.now c.loop-self.invariant.given
    (c.min-end.ensures ∙ ap (min c.args.place) all) c.loop-self.invariant.more c.loop-self.invariant.most c.loop-self-test.false
