use Rattle.std.proofs.Common.{ℕ, ◌≡◌, ◌-◌, List, true, map, sym, subst, arith}
use Rattle.std.proofs.lemmas.Grind.{common_steps}
use Rattle.nas_elements.specs.Digits.{is_imsi, filled}
use Rattle.nas_elements.specs.DigitLaws.{filled_is_imsi}
use Rattle.nas_elements.proofs.imsi.Imsi.try_from_digits.Goals as goal

pub invariant_of-result : goal.invariant_of-result
invariant_of-result c =
    let same : c.unwrap.result ≡ filled (map (λ (b : ℕ). b - 48) c.as_bytes-octets.result.now) = grind (arith, common_steps) in
    subst (λ (x : List ℕ). is_imsi x ≡ true) (sym same)
    (filled_is_imsi c.as_bytes-octets.result.now (sym c.if-not-is_digit_text.ensures))
