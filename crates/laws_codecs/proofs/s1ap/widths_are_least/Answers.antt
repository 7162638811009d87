use Rattle.laws_codecs.proofs.Least.{octets_are_fewest, width_is_least}
use Rattle.laws_codecs.proofs.s1ap.widths_are_least.Goals as goal

pub returns-clause-bits : goal.returns-clause-bits
returns-clause-bits c = width_is_least

pub returns-clause-octets : goal.returns-clause-octets
returns-clause-octets c = octets_are_fewest
