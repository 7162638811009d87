use Rattle.std.proofs.Common.{◌≡◌, ◌+◌, ◌∙◌, sym, subst, arith}
use Rattle.mme_snapshot.proofs.Counting.{Counted, all_counted, next_counted}
use Rattle.mme_snapshot.proofs.saving.count_of.Goals as goal

pub loop-id-preserved : goal.loop-id-preserved
loop-id-preserved c =
    let k = next_counted c.args.strangers.now.strangers c.loop-id.least c.loop-id.count c.in-Some.id c.loop-id.invariant.counted
    c.in-Some.ensures.order c.in-Some.ensures.value in
    let is : c.from-least.result ≡ c.in-Some.id = c.from-least.ensures ∙ c.get.ensures in
    let small = c.get.type_inv in
    let same = c.from-least.ensures in
    record {
      counted = subst (λ n. Counted c.args.strangers.now.strangers (n + 1) (c.loop-id.count + 1)) (sym is) k.counted;
      few = omega (arith, small, same);
    }

pub loop-id-smaller : goal.loop-id-smaller
loop-id-smaller c =
    let k = next_counted c.args.strangers.now.strangers c.loop-id.least c.loop-id.count c.in-Some.id c.loop-id.invariant.counted
    c.in-Some.ensures.order c.in-Some.ensures.value in
    let is : c.from-least.result ≡ c.in-Some.id = c.from-least.ensures ∙ c.get.ensures in
    let up = k.up in
    let few = c.loop-id.invariant.few in
    omega (arith, up, is, few)

pub returns : goal.returns
returns c =
    all_counted c.args.strangers.now.strangers c.loop-id.least c.loop-id.count c.loop-id.invariant.counted
    c.in_default.ensures.value
