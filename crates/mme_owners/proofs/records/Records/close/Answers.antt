use Rattle.std.proofs.Common.{sym, ◌∙◌, ap, subst}
use Rattle.mme_tables.specs.WaitLaws.{are_waits_without}
use Rattle.mme_tables.specs.Waiting.{AreWaits, wait_stopped}
use Rattle.mme_owners.specs.Owners.{countdowns_of}
use Rattle.mme_owners.proofs.Owned.{closed}
use Rattle.mme_owners.proofs.records.Records.close.Goals as goal

pub invariant_of-self : goal.invariant_of-self
invariant_of-self c =
    let id = c.args.id in
    let cs = c.self.inside.timers.running in
    let ks = c.self.inside.strangers.strangers in
    let ws = c.self.inside.subscribers.subscribers in
    record {
      strangers_clock = c.close.ensures.clock ∙ c.self.invariant.strangers_clock ∙ sym c.stop_wait.ensures.clock;
      subscribers_clock = c.self.invariant.subscribers_clock ∙ sym c.stop_wait.ensures.clock;
      waits = subst AreWaits (sym c.close.ensures.strangers) (are_waits_without id ks c.self.invariant.waits);
      timed =
          closed id ks ws cs c.stop_wait.new.timers.running c.self.invariant.waits c.len.ensures.few c.self.invariant.timed
          (c.stop_wait.ensures.running ∙ ap (λ o. wait_stopped id o cs) c.left-before.ensures)
          ∙ ap (λ xs. countdowns_of xs ws) (sym c.close.ensures.strangers);
    }
