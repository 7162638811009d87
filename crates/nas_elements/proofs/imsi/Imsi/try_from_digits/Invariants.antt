use Rattle.std.proofs.Common.{◌≡◌, ◌-◌, ℕ, length, map, take}
use Rattle.nas_elements.proofs.imsi.Imsi.try_from_digits.Given as goal

abbrev pub invariant-loop-octet : goal.invariant-loop-octet
invariant-loop-octet l =
    (l.digits.items ≡ map (λ (b : ℕ). b - 48) (take l.octet-index l.octets)) × (length l.digits.items ≡ l.octet-index)
