use Rattle.std.proofs.Common.{[], sym, ◌∙◌, ap, subst}
use Rattle.stranger_machine.specs.declared.turn.Notice.TheVariants.{Tick}
use Rattle.stranger_machine.specs.Table.{noted}
use Rattle.mme_owners.specs.Touched.{all_whereabouts}
use Rattle.mme_owners.specs.Owners.{NobodyIsDue, OwnersView}
use Rattle.mme_owners.specs.Placed.{place_at, still_there}
use Rattle.mme_owners.proofs.Places.{still_noted}
use Rattle.mme_owners.proofs.Touching.{ticked_there}
use Rattle.mme_owners.proofs.owners.Owners.pass.Goals as goal

pub pass-requires-clause-nobody : goal.pass-requires-clause-nobody
pass-requires-clause-nobody c =
    subst (λ (v : OwnersView). NobodyIsDue v.strangers v.subscribers) (sym c.self.view_is) c.requires.nobody

pub invariant_of-self : goal.invariant_of-self
invariant_of-self c =
    let ks = c.self.inside.records.strangers in
    let ws = c.self.inside.records.subscribers in
    let nobody = subst (λ (v : OwnersView). NobodyIsDue v.strangers v.subscribers) (sym c.self.view_is) c.requires.nobody in
    record {
      phones = c.self.invariant.phones ∙ sym (ticked_there [] ws) ∙ ap all_whereabouts (sym c.pass.ensures.subscribers);
      strangers = λ id.
          c.self.invariant.strangers id
          ∙ ap (λ ids. still_there ids (noted Tick ks) id (place_at id ks)) (sym nobody.strangers)
          ∙ still_noted id ks c.ids_rise.ensures ∙ ap (place_at id) (sym c.pass.ensures.strangers);
    }
