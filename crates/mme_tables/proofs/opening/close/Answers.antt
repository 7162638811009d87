use Rattle.std.proofs.Common.{◌≡◌, subst}
use Rattle.std.specs.Prelude.{◌==◌, if◌then◌else◌, None}
use Rattle.association_table.specs.Table.{found}
use Rattle.mme_tables.proofs.Lookups.{closed_others}
use Rattle.mme_tables.proofs.opening.close.Goals as goal

pub returns-clause-each : goal.returns-clause-each
returns-clause-each c = λ slot id.
    let es = c.args.associations.now.entries in
    let fs = c.close.new.self.entries in
    subst (λ n. found id fs ≡ (if n == id then None else found id es)) c.get.ensures
    (closed_others c.get.result id es fs c.close.ensures.entries c.close.ensures.gone)
