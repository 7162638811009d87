use Rattle.std.proofs.Common.{sym, subst}
use Rattle.mme_types.specs.Events.{item_of}
use Rattle.emm_state.specs.declared.draft.Draft.{Draft}
use Rattle.mme_owners.specs.SteppedView.{SteppedView}
use Rattle.mme_owners.specs.Subscribers.{IsCounting, IsOnwardAt}
use Rattle.mme_answering.proofs.Stepping.{counting_at}
use Rattle.mme_answering.proofs.preparing.prepare_step.Goals as goal

pub returns-clause-counting : goal.returns-clause-counting
returns-clause-counting c =
    subst (λ (v : SteppedView). IsCounting v.solo) (sym c.new.ensures)
    (subst (λ (d : Draft). IsCounting d.solo) (sym c.deref_mut.ensures.value)
    (counting_at c.clocks_are_kept.ensures.run c.clocks_are_kept.ensures.running c.args.slot (item_of c.args.event.now c.args.stations.now) c.args.subscribers.now.subscribers c.in_ok-draft.draft.value c.requires.in_use c.in_ok-draft.ensures.step))

pub returns-clause-onward : goal.returns-clause-onward
returns-clause-onward c =
    let ws = c.args.subscribers.now.subscribers in
    subst (IsOnwardAt ws) (sym c.new.ensures)
    (subst (λ (d : Draft). IsOnwardAt ws (record { slot = c.args.slot; solo = d.solo })) (sym c.deref_mut.ensures.value)
    c.in_ok-draft.ensures.onward)
