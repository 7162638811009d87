-- What the MAC of a protected message is over.
use Rattle.std.proofs.Common.{◌≡◌, ℕ, ◌+◌, ◌-◌, ◌*◌, ◌≤◌, List, [], ◌∷◌, ◌++◌, length, take, drop, refl, ap, ◌∙◌, arith, length-drop}
use Rattle.std.proofs.lemmas.List.{take_all}
use Rattle.nas_messages.specs.declared.protection.Protected.{Protected}
use Rattle.nas_messages.specs.Protection.{protected_form, header_code}

rest_of_form : (code sequence : ℕ) (mac message : List ℕ) → length mac ≡ 4
    → drop 5 (code ∷ mac ++ sequence ∷ message) ≡ sequence ∷ message
rest_of_form code s [] m e = absurd (omega (arith, e))
rest_of_form code s (a ∷ []) m e = absurd (omega (arith, e))
rest_of_form code s (a ∷ b ∷ []) m e = absurd (omega (arith, e))
rest_of_form code s (a ∷ b ∷ c ∷ []) m e = absurd (omega (arith, e))
rest_of_form code s (a ∷ b ∷ c ∷ d ∷ []) m e = refl
rest_of_form code s (a ∷ b ∷ c ∷ d ∷ more ∷ rest) m e = absurd (omega (arith, e))

pub authenticated : (octets : List ℕ) (p : Protected (List ℕ)) → (octets ≡ protected_form p) × (length p.mac ≡ 4)
    → drop 5 octets ≡ p.sequence ∷ p.message
unfolding protected_form
authenticated octets p form = ap (drop 5) form.0 ∙ rest_of_form (header_code p.header * 16 + 7) p.sequence p.mac p.message form.1

pub long : (octets : List ℕ) (p : Protected (List ℕ)) → (octets ≡ protected_form p) × (length p.mac ≡ 4) → 6 ≤ length octets
long octets p form =
    let rest = ap length (authenticated octets p form) in omega (arith, length-drop 5 octets, rest)

-- a slice from a place to the end
pub rest_of : (m : List ℕ) (k : ℕ) → take (length m - k) (drop k m) ≡ drop k m
rest_of m k = take_all (length m - k) (drop k m) (omega (arith, length-drop k m))
