-- Different IMSIs have different numbers.
use Rattle.std.proofs.Common.{◌≡◌, ℕ, zero, suc, ◌+◌, ◌*◌, ◌<◌, length, List, true, false, Some, refl, sym, ◌∙◌, ap, arith}
use Rattle.std.specs.Prelude.{Bool, cond}
use Rattle.std.proofs.lemmas.Nat.{be_bytes_8}
use Rattle.nas_elements.specs.Digits.{is_imsi, imsi_octets, imsi_of}
use Rattle.nas_elements.specs.DigitLaws.{small, imsi_again}
use Rattle.identity_slots.specs.Provisioned.{AreOctetNumbers, ImsisApart, imsi_number}

two_halves : (high low : ℕ) → high < 16 → low < 16 → high * 16 + low < 256
two_halves high low p q = omega (arith, p, q)

one_or_nine : (b : Bool) → cond b 1 9 < 16
one_or_nine true = omega arith
one_or_nine false = omega arith

are_octets : (ds : List ℕ) → is_imsi ds ≡ true → AreOctetNumbers (imsi_octets ds)
unfolding imsi_octets
are_octets ds h zero = two_halves _ _ (small ds h 0 (omega arith)) (one_or_nine _)
are_octets ds h (suc zero) = two_halves _ _ (small ds h 2 (omega arith)) (small ds h 1 (omega arith))
are_octets ds h (suc (suc zero)) = two_halves _ _ (small ds h 4 (omega arith)) (small ds h 3 (omega arith))
are_octets ds h (suc (suc (suc zero))) = two_halves _ _ (small ds h 6 (omega arith)) (small ds h 5 (omega arith))
are_octets ds h (suc (suc (suc (suc zero)))) = two_halves _ _ (small ds h 8 (omega arith)) (small ds h 7 (omega arith))
are_octets ds h (suc (suc (suc (suc (suc zero))))) = two_halves _ _ (small ds h 10 (omega arith)) (small ds h 9 (omega arith))
are_octets ds h (suc (suc (suc (suc (suc (suc zero)))))) =
    two_halves _ _ (small ds h 12 (omega arith)) (small ds h 11 (omega arith))
are_octets ds h (suc (suc (suc (suc (suc (suc (suc zero))))))) =
    two_halves _ _ (small ds h 14 (omega arith)) (small ds h 13 (omega arith))
are_octets ds h (suc (suc (suc (suc (suc (suc (suc (suc i)))))))) = omega arith

eight : (ds : List ℕ) → length (imsi_octets ds) ≡ 8
unfolding imsi_octets
eight ds = refl

same : (a b : List ℕ) → Some a ≡ Some b → a ≡ b
same a b e = cc

pub imsis_apart : ImsisApart
imsis_apart a b p q e =
    let written = sym (be_bytes_8 (imsi_octets a) (imsi_number b) (eight a) (are_octets a p) (sym e)) ∙ be_bytes_8 (imsi_octets b) (imsi_number b) (eight b) (are_octets b q) refl in
    same a b (sym (imsi_again (imsi_octets a) a (refl, p)) ∙ ap imsi_of written ∙ imsi_again (imsi_octets b) b (refl, q))
