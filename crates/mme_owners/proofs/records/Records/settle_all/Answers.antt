use Rattle.std.proofs.Common.{◌<◌, length, sym, ◌∙◌, ap, subst}
use Rattle.sorted_list.specs.Ordered.{Every}
use Rattle.mme_owners.specs.SteppedView.{SteppedView}
use Rattle.mme_owners.specs.Subscribers.{AreOnward, IsCounting}
use Rattle.mme_owners.specs.Owners.{RecordsView, all_retimed, countdowns_of}
use Rattle.mme_owners.proofs.Owned.{all_settled}
use Rattle.mme_owners.proofs.records.Records.settle_all.Goals as goal

pub retime_all-requires-clause-counting : goal.retime_all-requires-clause-counting
retime_all-requires-clause-counting c =
    subst (Every (λ (x : SteppedView). IsCounting x.solo)) (sym c.as_slice.ensures.value) c.requires.counting

pub settle_all-requires-clause-slots : goal.settle_all-requires-clause-slots
settle_all-requires-clause-slots c =
    subst (λ (v : RecordsView). Every (λ (x : SteppedView). x.slot < length v.subscribers) c.args.stepped.items) (sym c.self.view_is)
    c.requires.slots

pub settle_all-requires-clause-onward : goal.settle_all-requires-clause-onward
settle_all-requires-clause-onward c =
    subst (λ (v : RecordsView). AreOnward v.subscribers c.args.stepped.items) (sym c.self.view_is) c.requires.onward

pub invariant_of-self : goal.invariant_of-self
invariant_of-self c =
    let xs = c.args.stepped.items in
    let cs = c.self.inside.timers.running in
    let ks = c.self.inside.strangers.strangers in
    let below =
    subst (λ (v : RecordsView). Every (λ (x : SteppedView). x.slot < length v.subscribers) xs) (sym c.self.view_is) c.requires.slots in
    record {
      strangers_clock = c.self.invariant.strangers_clock ∙ sym c.retime_all.ensures.clock;
      subscribers_clock = c.settle_all.ensures.clock ∙ c.self.invariant.subscribers_clock ∙ sym c.retime_all.ensures.clock;
      waits = c.self.invariant.waits;
      timed =
          all_settled xs ks c.self.inside.subscribers.subscribers cs c.retime_all.new.timers.running c.self.invariant.waits c.len.ensures.few below c.self.invariant.timed
          (c.retime_all.ensures.running ∙ ap (λ ys. all_retimed ys cs) c.as_slice.ensures.value)
          ∙ ap (countdowns_of ks) (sym c.settle_all.ensures.subscribers);
    }
