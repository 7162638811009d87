use Rattle.std.proofs.Common.{ap, ◌∙◌}
use Rattle.sorted_list.specs.Indexed.{at-add}
use Rattle.association_table.specs.declared.association.Association.{Association}
use Rattle.association_table.specs.Table.{association_id, found, opened}
use Rattle.mme_tables.specs.Whereabouts.{stranger_association}
use Rattle.mme_tables.proofs.opening.open_stranger.Goals as goal

pub returns-clause-each : goal.returns-clause-each
returns-clause-each c = λ id.
    let es = c.args.associations.now.entries in
    let is = c.open_reserved.ensures.entries ∙ ap (λ (a : Association). opened a es) c.stranger_association.ensures in
    ap (found id) is ∙ at-add association_id id (stranger_association c.args.place.now) es c.requires.free association_id
