use Rattle.std.proofs.Common.{◌≡◌, ◌∙◌, Some, ap, sym}
use Rattle.std.proofs.lemmas.Option.{same_Some}
use Rattle.association_table.specs.Table.{found}
use Rattle.mme_tables.specs.Whereabouts.{association_of, connection_at, ConnectionTable}
use Rattle.mme_tables.proofs.ChangedPlaces.{is_own}
use Rattle.mme_tables.proofs.connections.Connections.has.Goals as goal

pub returns-in-Some : goal.returns-in-Some
returns-in-Some c =
    let k = c.args.connection.now in
    let es = c.self.inside.associations.entries in
    let at : found k.id es ≡ Some c.in-Some.association =
    ap (λ n. found n es) (sym c.get.ensures) ∙ sym c.find.ensures.value ∙ c.in-Some.is in
    let own = is_own c.self.inside.by_slot.items es c.args.slot k c.self.invariant.map in
    let now = ap (λ (t : ConnectionTable). connection_at c.args.slot t.whereabouts) c.self.view_is in (
      λ e. sym now ∙ own.0 (at ∙ ap Some (c.is_association_of.ensures.0 e)),
      λ is. c.is_association_of.ensures.1 (same_Some c.in-Some.association (association_of c.args.slot k) (sym at ∙ own.1 (now ∙ is))),
    )
