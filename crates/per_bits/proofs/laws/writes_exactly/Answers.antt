use Rattle.std.proofs.Common.{◌≡◌, Bool, true, false, List, length, Err, refl, ap, ◌∙◌}
use Rattle.per_streams.specs.declared.fault.PerFault.TheVariants.{Range}
use Rattle.per_bits.specs.Written.{writable, written}
use Rattle.per_bits.proofs.WrittenLaws.{put_if, writes}
use Rattle.per_bits.proofs.laws.writes_exactly.Goals as goal

no_put : (b : Bool) (out xs : List Bool) → (b ≡ true → ⊥) → put_if b out xs ≡ Err Range
no_put true out xs h = absurd (h refl)
no_put false out xs h = refl

pub returns-clause-writable : goal.returns-clause-writable
returns-clause-writable c f v out h = writes f v out ∙ ap (λ b. put_if b out (written f v (length out))) h

pub returns-clause-refused : goal.returns-clause-refused
returns-clause-refused c f v out h = writes f v out ∙ no_put (writable f v) out (written f v (length out)) h
