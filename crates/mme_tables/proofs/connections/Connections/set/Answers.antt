use Rattle.std.proofs.Common.{◌<◌, ◌∙◌, Option, length, set, sym, ap, subst}
use Rattle.mme_types.specs.declared.connection.Connection.{Connection}
use Rattle.mme_tables.specs.declared.whereabouts.Whereabouts.{Whereabouts}
use Rattle.mme_tables.specs.Whereabouts.{waits_at, ConnectionTable, IsFree, NoneWaits}
use Rattle.mme_tables.specs.KeptPlaces.{IsReopened, IsTable, IsVacant}
use Rattle.mme_tables.proofs.ChangedPlaces.{is_vacant, moved, read_at, strangers_stay}
use Rattle.mme_tables.proofs.connections.Connections.set.Goals as goal

pub reopen-requires-clause-vacant : goal.reopen-requires-clause-vacant
reopen-requires-clause-vacant c =
    let ws = c.self.inside.by_slot.items in
    let es = c.self.inside.associations.entries in
    let lt = subst (λ (t : ConnectionTable). c.args.slot < length t.whereabouts) (sym c.self.view_is) c.requires.within in
    let free = subst (λ (t : ConnectionTable). IsFree c.args.slot c.args.whereabouts.connection t.whereabouts) (sym c.self.view_is) c.requires.free in
    let alone = subst (λ (t : ConnectionTable). NoneWaits c.args.whereabouts.connection t.associations) (sym c.self.view_is) c.requires.alone in
    let old = read_at ws c.args.slot c.get-place.result c.index.result.now lt c.get-place.ensures.value c.index.ensures in
    subst (λ (o : Option Connection). IsVacant o c.args.whereabouts.connection es) (ap (λ (w : Whereabouts). w.connection) (sym old))
    (is_vacant ws es c.args.slot c.args.whereabouts.connection c.self.invariant.map free alone)

pub invariant_of-self : goal.invariant_of-self
invariant_of-self c =
    let ws = c.self.inside.by_slot.items in
    let es = c.self.inside.associations.entries in
    let ss = c.self.inside.paged.items in
    let fs = c.reopen.new.associations.entries in
    let us = c.list_slot.new.slots.items in
    let w = c.args.whereabouts in
    let slot = c.args.slot in
    let lt = subst (λ (t : ConnectionTable). slot < length t.whereabouts) (sym c.self.view_is) c.requires.within in
    let free = subst (λ (t : ConnectionTable). IsFree slot w.connection t.whereabouts) (sym c.self.view_is) c.requires.free in
    let old = read_at ws slot c.get-place.result c.index.result.now lt c.get-place.ensures.value c.index.ensures in
    let each = subst (λ (o : Option Connection). IsReopened slot o w.connection es fs) (ap (λ (v : Whereabouts). v.connection) old) c.reopen.ensures.each in
    subst (λ n. IsTable (set ws n w) fs us) (sym c.get-place.ensures.value)
    (moved ws es fs ss slot w lt c.self.invariant free each us c.list_slot.ensures.items)

pub returns-clause-strangers : goal.returns-clause-strangers
returns-clause-strangers c = λ id.
    let ws = c.self.inside.by_slot.items in
    let es = c.self.inside.associations.entries in
    let fs = c.reopen.new.associations.entries in
    let w = c.args.whereabouts in
    let slot = c.args.slot in
    let lt = subst (λ (t : ConnectionTable). slot < length t.whereabouts) (sym c.self.view_is) c.requires.within in
    let alone = subst (λ (t : ConnectionTable). NoneWaits w.connection t.associations) (sym c.self.view_is) c.requires.alone in
    let old = read_at ws slot c.get-place.result c.index.result.now lt c.get-place.ensures.value c.index.ensures in
    let each = subst (λ (o : Option Connection). IsReopened slot o w.connection es fs) (ap (λ (v : Whereabouts). v.connection) old) c.reopen.ensures.each in
    strangers_stay ws es fs slot w.connection c.self.invariant.map alone each id
    ∙ ap (λ (t : ConnectionTable). waits_at id t.associations) c.self.view_is
