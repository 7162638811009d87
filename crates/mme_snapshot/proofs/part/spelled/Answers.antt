use Rattle.per_bits.specs.WritingLaws.{complete_written}
use Rattle.mme_snapshot.proofs.part.spelled.Goals as goal

pub returns-in-Ok : goal.returns-in-Ok
returns-in-Ok g c = complete_written g.T.Element.format (g.T.Element.view c.args.value.now) c.in-Ok.octets.items c.in-Ok.ensures
