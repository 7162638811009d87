use Rattle.std.proofs.Common.{◌∙◌, ap, refl}
use Rattle.mme_tables.specs.KeptPlaces.{with_new}
use Rattle.std.specs.Prelude.{Some}
use Rattle.mme_tables.proofs.opening.replace.Goals as goal

pub open-requires-clause-free : goal.open-requires-clause-free
open-requires-clause-free c = c.close.ensures.each c.args.slot c.args.new.now.id ∙ c.requires.vacant c.args.new.now refl

pub returns-clause-each : goal.returns-clause-each
returns-clause-each c = λ id.
    c.open.ensures.each id ∙ ap (with_new c.args.slot (Some c.args.new.now) id) (c.close.ensures.each c.args.slot id)
