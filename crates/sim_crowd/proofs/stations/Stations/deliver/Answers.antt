use Rattle.std.proofs.Common.{◌≡◌, ◌<◌, Some, length, sym, ap, subst, ◌∙◌}
use Rattle.std.specs.Prelude.{OnOk, slice_get, slice_index_or, slice_set}
use Rattle.sim_crowd.specs.Items.{changed_item, item_of}
use Rattle.sim_crowd.specs.Sites.{hearing_site}
use Rattle.sim_crowd.specs.Stations.{place_of_site, site_of}
use Rattle.sim_crowd.proofs.Indexes.{station_kept}
use Rattle.sim_crowd.proofs.Numbers.{heard_so, number_kept, told_so}
use Rattle.sim_crowd.proofs.Places.{get-some}
use Rattle.sim_crowd.proofs.stations.Stations.deliver.Goals as goal

pub invariant_of-self : goal.invariant_of-self
invariant_of-self c =
    let site = c.index_mut.result.now in
    station_kept c.self.inside.numbers c.in-Some.place site (record site { station = c.deliver.new.self }) c.self.inside.sites.items
    c.self.invariant c.index_mut.ensures.value
    (number_kept c.args.octets.now c.deliver.result site.station c.deliver.new.self c.deliver.ensures.ok c.deliver.ensures.err)

there : (c : goal.After-self-1) → slice_get c.args.self.now c.in-Some.place ≡ Some c.index_mut.result.now
there c =
    let bound : c.in-Some.place < length c.args.self.now = c.in-Some.ensures.bound in
    get-some c.in-Some.place c.index_mut.result.now c.args.self.now bound
    (subst (λ xs. c.index_mut.result.now ≡ slice_index_or xs c.in-Some.place c.index_mut.result.now)
    c.self.view_is c.index_mut.ensures.value)

pub returns-in-Some-clause-told : goal.returns-in-Some-clause-told
returns-in-Some-clause-told c =
    told_so c.args.octets.now c.deliver.result c.index_mut.result.now c.deliver.new.self (site_of c.args.station c.args.self.now)
    (sym c.place_of.ensures.site ∙ ap (λ o. item_of o c.args.self.now) c.in-Some.is ∙ there c) c.deliver.ensures.ok

pub returns-in-Some-clause-ok : goal.returns-in-Some-clause-ok
returns-in-Some-clause-ok c =
    let f = hearing_site c.args.octets.now in
    let place : Some c.in-Some.place ≡ place_of_site c.args.station c.args.self.now = sym c.in-Some.is ∙ c.place_of.ensures.place in
    let heard =
    heard_so c.args.octets.now c.deliver.result c.index_mut.result.now c.deliver.new.self c.in-Some.place c.args.self.now (there c)
    c.deliver.ensures.ok in
    let before = subst (λ o. OnOk c.deliver.result
    (slice_set c.args.self.now c.in-Some.place (record c.index_mut.result.now { station = c.deliver.new.self })
    ≡ changed_item o f c.args.self.now)) place heard in
    rw c.self.view_is before
