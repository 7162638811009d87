use Rattle.std.proofs.Common.{◌≡◌, ◌+◌, ◌∷◌, drop, length, sym, ◌∙◌, ap, subst, arith}
use Rattle.std.proofs.lemmas.List.{drop_more}
use Rattle.sorted_list.specs.Ordered.{Every}
use Rattle.mme_tables.specs.Running.{AreInRange, both_retimed}
use Rattle.mme_owners.specs.SteppedView.{SteppedView}
use Rattle.mme_owners.specs.Subscribers.{IsCounting}
use Rattle.mme_owners.specs.Owners.{all_retimed}
use Rattle.mme_owners.proofs.retiming.retime_all.Goals as goal

pub retime_found-requires-clause-range : goal.retime_found-requires-clause-range
retime_found-requires-clause-range c =
    let xs = c.args.stepped.now in
    let n = c.loop-one.one-index in
    let one = c.one-item.result in
    let cut : drop n xs ≡ one ∷ drop (n + 1) xs =
    drop_more xs n one c.loop-one-test.true ∙ ap (λ (x : SteppedView). x ∷ drop (n + 1) xs) (sym c.one-item.is) in
    let counting = subst (Every (λ (x : SteppedView). IsCounting x.solo)) cut c.loop-one.invariant.counting in
    subst AreInRange (sym c.countdowns.ensures) counting.0

pub retime_found-requires-clause-room : goal.retime_found-requires-clause-room
retime_found-requires-clause-room c =
    let xs = c.args.stepped.now in
    let n = c.loop-one.one-index in
    let one = c.one-item.result in
    let cut : drop n xs ≡ one ∷ drop (n + 1) xs =
    drop_more xs n one c.loop-one-test.true ∙ ap (λ (x : SteppedView). x ∷ drop (n + 1) xs) (sym c.one-item.is) in
    let left : length (drop n xs) ≡ length (drop (n + 1) xs) + 1 = ap length cut ∙ omega arith in
    let room = c.loop-one.invariant.room in
    omega (arith, left, room)

pub loop-one-preserved : goal.loop-one-preserved
loop-one-preserved c =
    let xs = c.args.stepped.now in
    let n = c.loop-one.one-index in
    let one = c.one-item.result in
    let rest = drop (n + 1) xs in
    let inv = c.loop-one.invariant in
    let cut : drop n xs ≡ one ∷ rest =
    drop_more xs n one c.loop-one-test.true ∙ ap (λ (x : SteppedView). x ∷ rest) (sym c.one-item.is) in
    let counting = subst (Every (λ (x : SteppedView). IsCounting x.solo)) cut inv.counting in
    let left : length (drop n xs) ≡ length rest + 1 = ap length cut ∙ omega arith in
    let at = c.get.ensures.value ∙ c.slot-slot.ensures in
    let retimed = c.retime_found.ensures.running ∙ ap (λ m. both_retimed m c.countdowns.result c.loop-one.timers.running) at ∙ ap (λ p. both_retimed one.slot p c.loop-one.timers.running) c.countdowns.ensures in
    let room = c.retime_found.ensures.room in
    let has = inv.room in
    record {
      counting = counting.1;
      room = omega (arith, left, room, has);
      clock = c.retime_found.ensures.clock ∙ inv.clock;
      running = ap (all_retimed rest) retimed ∙ ap (λ ys. all_retimed ys c.loop-one.timers.running) (sym cut) ∙ inv.running;
    }
