use Rattle.std.proofs.Common.{ap, ◌∙◌}
use Rattle.sorted_list.specs.Indexed.{at-add}
use Rattle.association_table.specs.declared.association.Association.{Association}
use Rattle.association_table.specs.Table.{association_id, found, opened}
use Rattle.mme_tables.specs.Whereabouts.{association_of}
use Rattle.mme_tables.proofs.opening.open.Goals as goal

pub returns-clause-each : goal.returns-clause-each
returns-clause-each c = λ id.
    let es = c.args.associations.now.entries in
    let is = c.open_reserved.ensures.entries ∙ ap (λ (a : Association). opened a es) c.association_of.ensures in
    ap (found id) is ∙ at-add association_id id (association_of c.args.slot c.args.connection.now) es c.requires.free association_id
