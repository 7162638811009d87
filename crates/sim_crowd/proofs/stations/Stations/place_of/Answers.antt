use Rattle.std.proofs.Common.{◌≡◌, ap, ◌∙◌}
use Rattle.sim_crowd.specs.Index.{place_under}
use Rattle.sim_crowd.specs.Items.{item_of}
use Rattle.sim_crowd.specs.Stations.{has_number, place_of_site}
use Rattle.sim_crowd.proofs.Places.{item-position}
use Rattle.sim_crowd.proofs.stations.Stations.place_of.Goals as goal

pub returns-clause-site : goal.returns-clause-site
returns-clause-site c =
    let place : c.get-2.result ≡ place_of_site c.args.station c.args.self.now =
    c.get-2.ensures ∙ ap (λ k. place_under k c.self.inside.numbers) (c.from.ensures ∙ c.get.ensures.value)
    ∙ c.self.invariant c.args.station ∙ ap (place_of_site c.args.station) c.self.view_is in
    ap (λ o. item_of o c.args.self.now) place ∙ item-position (has_number c.args.station) c.args.self.now
