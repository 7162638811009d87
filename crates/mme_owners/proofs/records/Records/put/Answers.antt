use Rattle.std.proofs.Common.{sym, ◌∙◌, ap, subst}
use Rattle.mme_tables.specs.Running.{IsInRange}
use Rattle.mme_tables.specs.WaitLaws.{are_waits_put}
use Rattle.mme_tables.specs.Waiting.{AreWaits, wait_at, wait_changed, wait_of}
use Rattle.mme_owners.specs.Owners.{AreRecords, countdowns_of}
use Rattle.mme_owners.proofs.Owned.{changed, in_range, is_wait}
use Rattle.mme_owners.proofs.records.Records.put.Goals as goal

pub invariant_of-self : goal.invariant_of-self
invariant_of-self c =
    subst (λ s. AreRecords c.self.inside.timers s c.self.inside.subscribers) (sym c.in_err-put.ensures.err) c.self.invariant

pub change_wait-requires-clause-range : goal.change_wait-requires-clause-range
change_wait-requires-clause-range c =
    subst IsInRange (sym c.wait_of-left.ensures) (in_range c.args.id (wait_of c.args.stranger) (is_wait c.args.id (wait_of c.args.stranger) c.id_is_small.ensures c.requires.wait))

pub invariant_of-self-2 : goal.invariant_of-self-2
invariant_of-self-2 c =
    let id = c.args.id in
    let cs = c.self.inside.timers.running in
    let ks = c.self.inside.strangers.strangers in
    let ws = c.self.inside.subscribers.subscribers in
    let wait = is_wait id (wait_of c.args.stranger) c.id_is_small.ensures c.requires.wait in
    record {
      strangers_clock = c.put.ensures.clock ∙ c.self.invariant.strangers_clock ∙ sym c.change_wait.ensures.clock;
      subscribers_clock = c.self.invariant.subscribers_clock ∙ sym c.change_wait.ensures.clock;
      waits = subst AreWaits (sym c.in_ok-put.ensures.ok) (are_waits_put id c.args.stranger ks c.self.invariant.waits wait);
      timed =
          changed id c.args.stranger ks ws cs c.change_wait.new.timers.running c.clock.ensures.order c.self.invariant.waits wait c.len.ensures.few c.self.invariant.timed
          (c.change_wait.ensures.running ∙ ap (λ o. wait_changed id o c.wait_of-left.result cs) c.left-before.ensures
          ∙ ap (λ o. wait_changed id (wait_at id ks) o cs) c.wait_of-left.ensures)
          ∙ ap (λ xs. countdowns_of xs ws) (sym c.in_ok-put.ensures.ok);
    }
