use Rattle.std.proofs.Common.{◌≡◌, ◌*◌, ◌∷◌, [], Bool, true, false, refl}
use mir.Val.{bool_byte}
use Rattle.per_streams.specs.Bits.{bits}
use Rattle.per_bits.proofs.sequence.put_three_flags.Goals as goal

three : (b : Bool) → bits 3 (2 * bool_byte b) ≡ false ∷ b ∷ false ∷ []
unfolding bits
three true = refl
three false = refl

pub returns-clause-ok : goal.returns-clause-ok
returns-clause-ok c = rw (← three c.args.present) c.put_bits.ensures.ok
