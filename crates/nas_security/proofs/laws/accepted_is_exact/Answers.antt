use Rattle.nas_security.proofs.Accepted.{accepted_so, so_accepted}
use Rattle.nas_security.proofs.laws.accepted_is_exact.Goals as goal

pub returns : goal.returns
returns c mac last allowed octets count message = (accepted_so c.same_is_equal.ensures mac last allowed octets count message, so_accepted c.same_is_equal.ensures mac last allowed octets count message)
