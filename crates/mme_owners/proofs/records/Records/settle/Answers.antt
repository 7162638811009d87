use Rattle.std.proofs.Common.{◌<◌, length, sym, ◌∙◌, ap, subst}
use Rattle.mme_tables.specs.Running.{AreInRange, AreQueued, both_retimed}
use Rattle.mme_owners.specs.Subscribers.{IsOnwardAt}
use Rattle.mme_owners.specs.Owners.{RecordsView, countdowns_of}
use Rattle.mme_owners.proofs.Owned.{known_at, settled}
use Rattle.mme_owners.proofs.records.Records.settle.Goals as goal

pub settle-before-requires-clause-slot : goal.settle-before-requires-clause-slot
settle-before-requires-clause-slot c =
    subst (λ (v : RecordsView). c.args.stepped.slot < length v.subscribers) (sym c.self.view_is) c.requires.slot

pub settle-before-requires-clause-onward : goal.settle-before-requires-clause-onward
settle-before-requires-clause-onward c =
    subst (λ (v : RecordsView). IsOnwardAt v.subscribers c.args.stepped) (sym c.self.view_is) c.requires.onward

pub retime-requires-clause-range : goal.retime-requires-clause-range
retime-requires-clause-range c = subst AreInRange (sym c.countdowns-left.ensures) c.requires.counting

pub retime-requires-clause-known : goal.retime-requires-clause-known
retime-requires-clause-known c =
    let lt = subst (λ (v : RecordsView). c.args.stepped.slot < length v.subscribers) (sym c.self.view_is) c.requires.slot in
    subst (λ n. AreQueued n c.settle-before.result c.self.inside.timers.running) (sym (c.get.ensures.value ∙ c.slot-slot.ensures))
    (known_at c.args.stepped.slot c.settle-before.result c.self.inside.strangers.strangers c.self.inside.subscribers.subscribers c.self.inside.timers.running c.self.invariant.waits c.len.ensures.few lt c.self.invariant.timed c.settle-before.ensures.before)

pub invariant_of-self : goal.invariant_of-self
invariant_of-self c =
    let x = c.args.stepped in
    let cs = c.self.inside.timers.running in
    let ks = c.self.inside.strangers.strangers in
    let lt = subst (λ (v : RecordsView). x.slot < length v.subscribers) (sym c.self.view_is) c.requires.slot in
    let retimed = c.retime.ensures.running ∙ ap (λ n. both_retimed n c.countdowns-left.result cs) (c.get.ensures.value ∙ c.slot-slot.ensures) ∙ ap (λ p. both_retimed x.slot p cs) c.countdowns-left.ensures in
    record {
      strangers_clock = c.self.invariant.strangers_clock ∙ sym c.retime.ensures.clock;
      subscribers_clock = c.settle-before.ensures.clock ∙ c.self.invariant.subscribers_clock ∙ sym c.retime.ensures.clock;
      waits = c.self.invariant.waits;
      timed =
          settled x.slot x.solo ks c.self.inside.subscribers.subscribers cs c.retime.new.timers.running c.self.invariant.waits c.len.ensures.few lt c.self.invariant.timed retimed
          ∙ ap (countdowns_of ks) (sym c.settle-before.ensures.subscribers);
    }
