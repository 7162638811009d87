use Rattle.std.proofs.Common.{◌≡◌, ◌∙◌, ap, subst, IfOk}
use Rattle.mme_types.specs.Events.{StationGone}
use Rattle.mme_tables.specs.Whereabouts.{is_concerned, slots_where}
use Rattle.mme_owners.specs.Touched.{touched_slots}
use Rattle.mme_owners.specs.Owners.{OwnersView}
use Rattle.mme_owners.proofs.Touching.{concerned_is}
use Rattle.mme_owners.proofs.owners.Owners.concerned.Goals as goal

pub returns : goal.returns
returns c =
    let e = c.args.station in
    let there = ap (slots_where (is_concerned e) 0) c.self.invariant.phones ∙ concerned_is e c.self.inside.records.subscribers in
    let seen = ap (λ (v : OwnersView). touched_slots (StationGone e) v.subscribers) c.self.view_is in
    subst (λ ks. IfOk c.concerned.result (λ touched. touched.items ≡ ks)) (there ∙ seen) c.concerned.ensures
