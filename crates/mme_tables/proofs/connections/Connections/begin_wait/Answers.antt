use Rattle.std.proofs.Common.{◌≡◌, None, sym, subst}
use Rattle.mme_tables.specs.Whereabouts.{waits_at, ConnectionTable, NoneConnected}
use Rattle.mme_tables.proofs.ChangedPlaces.{begun, is_unused}
use Rattle.mme_tables.proofs.connections.Connections.begin_wait.Goals as goal

pub open_stranger-requires-clause-free : goal.open_stranger-requires-clause-free
open_stranger-requires-clause-free c =
    let id = c.args.place.id in
    let free = subst (λ (t : ConnectionTable). NoneConnected id t.whereabouts) (sym c.self.view_is) c.requires.free in
    let alone = subst (λ (t : ConnectionTable). waits_at id t.associations ≡ None) (sym c.self.view_is) c.requires.alone in
    is_unused c.self.inside.by_slot.items c.self.inside.associations.entries id c.self.invariant.map free alone

pub invariant_of-self : goal.invariant_of-self
invariant_of-self c =
    let id = c.args.place.id in
    let free = subst (λ (t : ConnectionTable). NoneConnected id t.whereabouts) (sym c.self.view_is) c.requires.free in
    let alone = subst (λ (t : ConnectionTable). waits_at id t.associations ≡ None) (sym c.self.view_is) c.requires.alone in
    let none = is_unused c.self.inside.by_slot.items c.self.inside.associations.entries id c.self.invariant.map free alone in
    begun c.self.inside.by_slot.items c.self.inside.associations.entries c.open_stranger.new.associations.entries
    c.self.inside.paged.items c.args.place c.self.invariant none c.open_stranger.ensures.each
