use Rattle.laws_apart.proofs.Octets.{octets_go_made}
use Rattle.laws_apart.proofs.laws.octets_go_made.Goals as goal

pub returns : goal.returns
returns c = octets_go_made c.decoded_is_in_range.ensures
