use Rattle.std.proofs.Common.{◌+◌, sym, ◌∙◌, ap, subst}
use Rattle.sorted_list.specs.Ordered.{Every}
use Rattle.timer_queue.specs.Countdowns.{aged}
use Rattle.mme_tables.specs.WaitLaws.{are_waits_ticked}
use Rattle.mme_tables.specs.Waiting.{AreWaits, due_ids, restarted}
use Rattle.mme_owners.specs.SteppedView.{SteppedView}
use Rattle.mme_owners.specs.Subscribers.{AreOnward, IsCounting, due_slots, tick_settled}
use Rattle.mme_owners.specs.Owners.{RecordsView, all_retimed, countdowns_of}
use Rattle.mme_owners.proofs.Ticked.{ticked}
use Rattle.mme_owners.proofs.records.Records.tick.Goals as goal

pub tick-requires-clause-due : goal.tick-requires-clause-due
tick-requires-clause-due c =
    c.requires.strangers ∙ ap (λ (v : RecordsView). due_ids v.strangers) (sym c.self.view_is)

pub restart-requires-clause-waits : goal.restart-requires-clause-waits
restart-requires-clause-waits c =
    subst AreWaits (sym c.tick.ensures.strangers) (are_waits_ticked c.self.inside.strangers.strangers c.self.invariant.waits)

pub retime_all-requires-clause-counting : goal.retime_all-requires-clause-counting
retime_all-requires-clause-counting c =
    subst (Every (λ (x : SteppedView). IsCounting x.solo)) (sym c.as_slice.ensures.value) c.requires.counting

pub tick-requires-2-clause-due : goal.tick-requires-2-clause-due
tick-requires-2-clause-due c = c.requires.slots ∙ ap (λ (v : RecordsView). due_slots v.subscribers) (sym c.self.view_is)

pub tick-requires-2-clause-onward : goal.tick-requires-2-clause-onward
tick-requires-2-clause-onward c =
    subst (λ (v : RecordsView). AreOnward v.subscribers c.args.stepped.items) (sym c.self.view_is) c.requires.onward

pub invariant_of-self : goal.invariant_of-self
invariant_of-self c =
    let xs = c.args.stepped.items in
    let cs = c.self.inside.timers.running in
    let ks = c.self.inside.strangers.strangers in
    let ws = c.self.inside.subscribers.subscribers in
    let ended = c.requires.strangers ∙ ap (λ (v : RecordsView). due_ids v.strangers) (sym c.self.view_is) in
    let due = c.requires.slots ∙ ap (λ (v : RecordsView). due_slots v.subscribers) (sym c.self.view_is) in
    let clock = c.retime_all.ensures.clock ∙ c.restart.ensures.clock ∙ c.pass.ensures.clock in
    let after = c.tick.new.self.strangers in
    let restarts =
    c.restart.ensures.running ∙ ap (λ ds. restarted c.args.due.now after ds) c.pass.ensures.running
    ∙ ap (λ ids. restarted ids after (aged cs)) ended
    ∙ ap (λ ns. restarted (due_ids ks) ns (aged cs)) c.tick.ensures.strangers in
    let running =
    c.retime_all.ensures.running ∙ ap (λ ys. all_retimed ys c.restart.new.timers.running) c.as_slice.ensures.value
    ∙ ap (all_retimed xs) restarts in
    record {
      strangers_clock = c.tick.ensures.clock ∙ ap (λ n. n + 1) c.self.invariant.strangers_clock ∙ sym clock;
      subscribers_clock = c.tick-2.ensures.clock ∙ ap (λ n. n + 1) c.self.invariant.subscribers_clock ∙ sym clock;
      waits = subst AreWaits (sym c.tick.ensures.strangers) (are_waits_ticked ks c.self.invariant.waits);
      timed =
          ticked xs ks ws cs c.retime_all.new.timers.running c.clock.ensures.order c.self.invariant.waits c.len.ensures.few due c.self.invariant.timed running
          ∙ ap (λ ns. countdowns_of ns (tick_settled xs ws)) (sym c.tick.ensures.strangers)
          ∙ ap (countdowns_of after) (sym c.tick-2.ensures.subscribers);
    }
