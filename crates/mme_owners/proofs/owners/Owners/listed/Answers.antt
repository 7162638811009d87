use Rattle.std.proofs.Common.{◌≡◌, ◌∙◌, ap, subst, IfOk}
use Rattle.mme_types.specs.Events.{ConnectionsGone}
use Rattle.mme_tables.specs.Whereabouts.{is_meant, slots_where}
use Rattle.mme_owners.specs.Touched.{touched_slots}
use Rattle.mme_owners.specs.Owners.{OwnersView}
use Rattle.mme_owners.proofs.Touching.{listed_is}
use Rattle.mme_owners.proofs.owners.Owners.listed.Goals as goal

pub returns : goal.returns
returns c =
    let e = c.args.station in
    let items = c.args.items.now in
    let meant = ap (slots_where (is_meant e items) 0) c.self.invariant.phones ∙ listed_is e items c.self.inside.records.subscribers in
    let seen = ap (λ (v : OwnersView). touched_slots (ConnectionsGone e items) v.subscribers) c.self.view_is in
    subst (λ ks. IfOk c.listed.result (λ touched. touched.items ≡ ks)) (meant ∙ seen) c.listed.ensures
