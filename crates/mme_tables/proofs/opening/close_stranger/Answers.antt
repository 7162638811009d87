use Rattle.std.proofs.Common.{◌≡◌, ◌∙◌, sym, subst}
use Rattle.std.specs.Prelude.{◌==◌, if◌then◌else◌}
use Rattle.association_table.specs.Table.{found}
use Rattle.mme_tables.specs.KeptPlaces.{without_stranger}
use Rattle.mme_tables.proofs.ChangedPlaces.{stranger_closed}
use Rattle.mme_tables.proofs.opening.close_stranger.Goals as goal

pub returns-in-Stranger-clause-each : goal.returns-in-Stranger-clause-each
returns-in-Stranger-clause-each c = λ other.
    let es = c.args.associations.now.entries in
    let fs = c.close.new.self.entries in
    let there = sym c.find.ensures.value ∙ c.in-Some.is in
    subst (λ n. found other fs ≡ (if n == other then without_stranger (found other es) else found other es)) c.get-id.ensures
    (stranger_closed c.get-id.result other c.in-Some.association es fs there c.in-Stranger.is c.close.ensures.entries c.close.ensures.gone)
