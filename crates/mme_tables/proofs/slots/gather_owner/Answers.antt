use Rattle.std.proofs.Common.{sym, subst}
use Rattle.std.proofs.lemmas.Result.{on_ok_weaker}
use Rattle.association_table.specs.declared.association.AssociationOwner.{AssociationOwner}
use Rattle.mme_tables.specs.KeptPlaces.{is_held_by, Gathers}
use Rattle.mme_tables.proofs.Gathered.{gathered_owner}
use Rattle.mme_tables.proofs.slots.gather_owner.Goals as goal

pub returns-in-Some : goal.returns-in-Some
returns-in-Some c =
    let old = c.args.gathered.now.items in
    let new = c.gather.new.gathered.items in
    on_ok_weaker c.gather.result
    (λ so. subst (λ (o : AssociationOwner). Gathers (λ i. is_held_by i o) old new) (sym c.in-Subscriber.is)
    (gathered_owner c.in-Subscriber.number c.in-Some.slot old new c.in-Some.ensures so)) c.gather.ensures
