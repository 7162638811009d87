use Rattle.std.proofs.Common.{[], sym, ◌∙◌, ap, subst}
use Rattle.mme_tables.specs.Waiting.{AreWaits}
use Rattle.mme_owners.specs.Owners.{countdowns_of}
use Rattle.mme_owners.proofs.records.Records.new.Goals as goal

pub invariant_of-result : goal.invariant_of-result
invariant_of-result c =
    let known = c.new-strangers.ensures.strangers in
    record {
      strangers_clock = c.new-strangers.ensures.clock ∙ sym c.new-timers.ensures.clock;
      subscribers_clock = c.new-subscribers.ensures.clock ∙ sym c.new-timers.ensures.clock;
      waits = subst AreWaits (sym known) tt;
      timed =
          c.new-timers.ensures.running
          ∙ sym (ap (λ ks. countdowns_of ks c.new-subscribers.result.subscribers) known ∙ ap (countdowns_of []) c.new-subscribers.ensures.subscribers);
    }
