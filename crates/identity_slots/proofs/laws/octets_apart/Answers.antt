use Rattle.std.proofs.Common.{refl, sym, ◌∙◌}
use Rattle.std.specs.Int.{from_be_bytes, w32, w64}
use Rattle.std.proofs.lemmas.Nat.{be_bytes_4, be_bytes_8}
use Rattle.identity_slots.proofs.laws.octets_apart.Goals as goal

pub returns-clause-eight : goal.returns-clause-eight
returns-clause-eight c =
    λ a b p q r s e. sym (be_bytes_8 a (from_be_bytes w64 b) p r (sym e)) ∙ be_bytes_8 b (from_be_bytes w64 b) q s refl

pub returns-clause-four : goal.returns-clause-four
returns-clause-four c =
    λ a b p q r s e. sym (be_bytes_4 a (from_be_bytes w32 b) p r (sym e)) ∙ be_bytes_4 b (from_be_bytes w32 b) q s refl
