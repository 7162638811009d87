use Rattle.mme_tables.proofs.ChangedPlaces.{moved_there}
use Rattle.mme_tables.proofs.opening.move_there.Goals as goal

pub returns-clause-each : goal.returns-clause-each
returns-clause-each c =
    moved_there c.args.slot c.args.old.now c.args.new.now c.association_of-to.result c.args.associations.now.entries
    c.move_to.new.self.entries c.move_to.result c.association_of-to.ensures c.requires.id c.requires.open c.move_to.ensures.known
    c.move_to.ensures.entries
