use Rattle.std.proofs.Common.{◌∙◌, List, map, ap}
use Rattle.association_table.specs.declared.association.Listed.{Listed}
use Rattle.association_table.specs.Listing.{listed_at, unlisted}
use Rattle.mme_tables.specs.Whereabouts.{ConnectionTable, away_from, is_meant_at, unless, waits_at}
use Rattle.mme_tables.proofs.Closed.{list_closed}
use Rattle.mme_tables.proofs.connections.Connections.close_listed.Goals as goal

pub disconnect_owners-requires : goal.disconnect_owners-requires
disconnect_owners-requires c = c.self.invariant.few

pub invariant_of-self-2 : goal.invariant_of-self-2
invariant_of-self-2 c =
    let es = c.self.inside.associations.entries in
    let listed = c.as_slice.ensures.value ∙ c.in_ok-items.ensures in
    (list_closed c.args.station c.self.inside.by_slot.items c.disconnect_owners.new.by_slot.items es
    c.close_listed.new.self.entries c.as_slice-2.result.now c.self.inside.paged.items c.self.invariant c.close_listed.ensures.order c.disconnect_owners.ensures
    c.args.items.now
    (c.as_slice-2.ensures.value ∙ c.in_ok-closed.ensures.answer ∙ ap (λ n. listed_at n c.as_slice.result.now es) c.get.ensures.value
    ∙ ap (λ (xs : List Listed). listed_at c.args.station xs es) listed)
    (c.in_ok-closed.ensures.entries ∙ ap (λ n. unlisted n c.as_slice.result.now es) c.get.ensures.value
    ∙ ap (λ (xs : List Listed). unlisted c.args.station xs es) listed)).table

pub returns-clause-whereabouts : goal.returns-clause-whereabouts
returns-clause-whereabouts c =
    let es = c.self.inside.associations.entries in
    let listed = c.as_slice.ensures.value ∙ c.in_ok-items.ensures in
    (list_closed c.args.station c.self.inside.by_slot.items c.disconnect_owners.new.by_slot.items es
    c.close_listed.new.self.entries c.as_slice-2.result.now c.self.inside.paged.items c.self.invariant c.close_listed.ensures.order c.disconnect_owners.ensures
    c.args.items.now
    (c.as_slice-2.ensures.value ∙ c.in_ok-closed.ensures.answer ∙ ap (λ n. listed_at n c.as_slice.result.now es) c.get.ensures.value
    ∙ ap (λ (xs : List Listed). listed_at c.args.station xs es) listed)
    (c.in_ok-closed.ensures.entries ∙ ap (λ n. unlisted n c.as_slice.result.now es) c.get.ensures.value
    ∙ ap (λ (xs : List Listed). unlisted c.args.station xs es) listed)).away
    ∙ ap (λ (t : ConnectionTable). map (away_from (is_meant_at c.args.station c.args.items.now)) t.whereabouts) c.self.view_is

pub returns-clause-strangers : goal.returns-clause-strangers
returns-clause-strangers c = λ id.
    let es = c.self.inside.associations.entries in
    let listed = c.as_slice.ensures.value ∙ c.in_ok-items.ensures in
    (list_closed c.args.station c.self.inside.by_slot.items c.disconnect_owners.new.by_slot.items es
    c.close_listed.new.self.entries c.as_slice-2.result.now c.self.inside.paged.items c.self.invariant c.close_listed.ensures.order c.disconnect_owners.ensures
    c.args.items.now
    (c.as_slice-2.ensures.value ∙ c.in_ok-closed.ensures.answer ∙ ap (λ n. listed_at n c.as_slice.result.now es) c.get.ensures.value
    ∙ ap (λ (xs : List Listed). listed_at c.args.station xs es) listed)
    (c.in_ok-closed.ensures.entries ∙ ap (λ n. unlisted n c.as_slice.result.now es) c.get.ensures.value
    ∙ ap (λ (xs : List Listed). unlisted c.args.station xs es) listed)).waits id
    ∙ ap (λ (t : ConnectionTable). unless (is_meant_at c.args.station c.args.items.now) (waits_at id t.associations)) c.self.view_is
