use Rattle.eps_keys.proofs.OfZeros.{first_subkey, second_subkey}
use Rattle.eps_keys.proofs.mac.MacKey.zeros.Goals as goal

pub invariant_of-result : goal.invariant_of-result
invariant_of-result c = rw c.zeros.ensures (record { first = first_subkey; second = second_subkey })
