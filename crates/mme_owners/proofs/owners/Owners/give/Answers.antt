use Rattle.std.proofs.Common.{ap, subst, sym, ◌∙◌}
use Rattle.mme_owners.specs.Given.{TakesOneVector}
use Rattle.mme_owners.specs.Owners.{OwnersView, RecordsView}
use Rattle.mme_owners.specs.Placed.{place_at}
use Rattle.mme_owners.specs.Touched.{whereabouts}
use Rattle.mme_owners.proofs.Given.{states_kept}
use Rattle.mme_owners.proofs.owners.Owners.give.Goals as goal

pub invariant_of-self : goal.invariant_of-self
invariant_of-self c =
    let old = c.self.inside.records.subscribers in
    record {
      phones =
          c.self.invariant.phones
          ∙ sym (states_kept whereabouts c.give.result c.args.slot c.args.vector old c.give.new.self.subscribers c.give.ensures.takes);
      strangers = λ id. c.self.invariant.strangers id ∙ ap (λ (v : RecordsView). place_at id v.strangers) (sym c.give.ensures.rest);
    }

pub returns-clause-takes : goal.returns-clause-takes
returns-clause-takes c =
    subst (λ (v : OwnersView). TakesOneVector c.args.slot c.args.vector v.subscribers c.give.result c.give.new.self.subscribers) c.self.view_is
    c.give.ensures.takes
