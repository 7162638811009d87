use Rattle.std.proofs.Common.{◌≡◌, ◌+◌, List, [], map, sym, ◌∙◌, ap, subst}
use Rattle.sorted_list.specs.Ordered.{Every}
use Rattle.stranger_machine.specs.declared.turn.Notice.TheVariants.{Tick}
use Rattle.stranger_machine.specs.Table.{noted}
use Rattle.timer_queue.specs.Countdowns.{aged}
use Rattle.mme_tables.specs.WaitLaws.{are_waits_ticked}
use Rattle.mme_tables.specs.Waiting.{AreWaits, due_ids, restarted}
use Rattle.mme_owners.specs.SteppedView.{SteppedView}
use Rattle.mme_owners.specs.Subscribers.{AreOnward, IsCounting, one_less, slots_stepped, tick_settled}
use Rattle.mme_owners.specs.Owners.{NobodyIsDue, RecordsView, countdowns_of}
use Rattle.mme_owners.proofs.Ticked.{ticked}
use Rattle.mme_owners.proofs.records.Records.pass.Goals as goal

pub tick-requires-clause-due : goal.tick-requires-clause-due
tick-requires-clause-due c =
    let nobody = subst (λ (v : RecordsView). NobodyIsDue v.strangers v.subscribers) (sym c.self.view_is) c.requires.nobody in
    sym nobody.strangers

pub tick-requires-2-clause-due : goal.tick-requires-2-clause-due
tick-requires-2-clause-due c =
    let nobody = subst (λ (v : RecordsView). NobodyIsDue v.strangers v.subscribers) (sym c.self.view_is) c.requires.nobody in
    ap slots_stepped c.new.ensures.items ∙ sym nobody.slots

pub tick-requires-2-clause-counting : goal.tick-requires-2-clause-counting
tick-requires-2-clause-counting c =
    subst (Every (λ (x : SteppedView). IsCounting x.solo)) (sym c.new.ensures.items) tt

pub tick-requires-2-clause-onward : goal.tick-requires-2-clause-onward
tick-requires-2-clause-onward c = subst (AreOnward c.self.inside.subscribers.subscribers) (sym c.new.ensures.items) tt

pub invariant_of-self : goal.invariant_of-self
invariant_of-self c =
    let cs = c.self.inside.timers.running in
    let ks = c.self.inside.strangers.strangers in
    let ws = c.self.inside.subscribers.subscribers in
    let nobody = subst (λ (v : RecordsView). NobodyIsDue v.strangers v.subscribers) (sym c.self.view_is) c.requires.nobody in
    let clock = c.pass.ensures.clock in
    let after = c.tick.new.self.strangers in
    let running : c.pass.new.self.running ≡ restarted (due_ids ks) (noted Tick ks) (aged cs) =
    c.pass.ensures.running ∙ ap (λ ids. restarted ids (noted Tick ks) (aged cs)) (sym nobody.strangers) in
    let settled : c.tick-2.new.self.subscribers ≡ tick_settled [] ws =
    c.tick-2.ensures.subscribers ∙ ap (λ (xs : List SteppedView). tick_settled xs ws) c.new.ensures.items in
    record {
      strangers_clock = c.tick.ensures.clock ∙ ap (λ n. n + 1) c.self.invariant.strangers_clock ∙ sym clock;
      subscribers_clock = c.tick-2.ensures.clock ∙ ap (λ n. n + 1) c.self.invariant.subscribers_clock ∙ sym clock;
      waits = subst AreWaits (sym c.tick.ensures.strangers) (are_waits_ticked ks c.self.invariant.waits);
      timed =
          ticked [] ks ws cs c.pass.new.self.running c.clock.ensures.order c.self.invariant.waits c.len.ensures.few (sym nobody.slots) c.self.invariant.timed running
          ∙ ap (λ ns. countdowns_of ns (tick_settled [] ws)) (sym c.tick.ensures.strangers) ∙ ap (countdowns_of after) (sym settled);
    }

pub returns-clause-subscribers : goal.returns-clause-subscribers
returns-clause-subscribers c =
    c.tick-2.ensures.subscribers
    ∙ ap (λ (xs : List SteppedView). tick_settled xs c.self.inside.subscribers.subscribers) c.new.ensures.items
    ∙ ap (λ (v : RecordsView). map one_less v.subscribers) c.self.view_is
