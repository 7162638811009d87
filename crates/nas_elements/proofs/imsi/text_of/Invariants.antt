use Rattle.std.proofs.Common.{◌≡◌, ◌+◌, ℕ, length, map, take}
use Rattle.nas_elements.proofs.imsi.text_of.Given as goal

abbrev pub invariant-loop-digit : goal.invariant-loop-digit
invariant-loop-digit l =
    (l.text.bytes ≡ map (λ (d : ℕ). 48 + d) (take l.digit-index l.digits)) × (length l.text.bytes ≡ l.digit-index)
