use Rattle.std.proofs.Common.{None, sym, ◌∙◌, ap}
use Rattle.mme_owners.specs.Touched.{all_whereabouts}
use Rattle.mme_owners.specs.Placed.{place_at}
use Rattle.mme_owners.proofs.Apart.{waits_left}
use Rattle.mme_owners.proofs.owners.Owners.close.Goals as goal

pub invariant_of-self : goal.invariant_of-self
invariant_of-self c =
    let ks = c.self.inside.records.strangers in
    record {
      phones = c.end_wait.ensures.whereabouts ∙ c.self.invariant.phones ∙ ap all_whereabouts (sym c.close.ensures.subscribers);
      strangers = λ other.
          waits_left c.args.id other None ks c.self.inside.connections.associations c.end_wait.new.self.associations c.ids_rise.ensures
          (c.self.invariant.strangers other) (c.end_wait.ensures.strangers other)
          ∙ ap (place_at other) (sym c.close.ensures.strangers);
    }
