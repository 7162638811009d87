-- The optional part: elements that one list of rules parts.
use Rattle.std.specs.Prelude.{◌≡◌, ℕ, zero, suc, ◌+◌, ◌*◌, ◌/◌, ◌<◌, ◌≤◌, ◌==◌, nat_le, if◌then◌else◌, List, [], ◌∷◌, ◌++◌, length, Option, Some, None, unwrap_or}
use Rattle.nas_elements.specs.declared.rule.Domain.{Domain}
use Rattle.nas_elements.specs.declared.rule.Domain.TheVariants.{Emm, Esm}
use Rattle.nas_elements.specs.declared.rule.Element.{Element}
use Rattle.nas_elements.specs.declared.rule.Rule.{Rule}
use Rattle.nas_elements.specs.declared.rule.Rule.TheVariants.{Itself, Fixed, ByOctet, ByTwo}
use Rattle.nas_elements.specs.Identifiers.{drx_parameter_iei, emm_cause_iei, esm_cause_iei, esm_message_container_iei, last_visited_tai_iei, nonce_iei, old_location_area_iei, old_p_tmsi_signature_iei, t3412_value_iei}
use Rattle.nas_elements.specs.Parts.{◌>>=◌, octet_at, fixed_at, short_at, long_at, short, wide}

abbrev pub cause_rule : Domain → Rule
cause_rule Emm = ByOctet
cause_rule Esm = Fixed 1

unfoldable pub rule_of : Domain → ℕ → Rule
rule_of domain i =
    if nat_le 0x80 i then Itself
    else if nat_le esm_message_container_iei i then ByTwo
    else if i == old_location_area_iei then Fixed 5
    else if i == old_p_tmsi_signature_iei then Fixed 3
    else if i == last_visited_tai_iei then Fixed 5
    else if i == drx_parameter_iei then Fixed 2
    else if i == nonce_iei then Fixed 4
    else if i == emm_cause_iei then Fixed 1
    else if i == t3412_value_iei then Fixed 1
    else if i == esm_cause_iei then cause_rule domain
    else ByOctet

-- ---- spelling

-- the octets after an identifier i
abbrev pub SpellsBy : Rule → ℕ → Element (List ℕ) → List ℕ → Type 0
SpellsBy Itself i e os = (e ≡ record { iei = i / 16 * 16; octets = i ∷ [] }) × (os ≡ [])
SpellsBy (Fixed n) i e os = (e.iei ≡ i) × (os ≡ e.octets) × (length e.octets ≡ n)
SpellsBy ByOctet i e os = (e.iei ≡ i) × (os ≡ length e.octets ∷ e.octets)
SpellsBy ByTwo i e os = (e.iei ≡ i) × (a : ℕ) × (b : ℕ) × (os ≡ a ∷ b ∷ e.octets) × (a * 256 + b ≡ length e.octets)

abbrev pub SpellsElement : Domain → Element (List ℕ) → List ℕ → Type 0
SpellsElement domain e os = (i : ℕ) × (tail : List ℕ) × (os ≡ i ∷ tail) × SpellsBy (rule_of domain i) i e tail

abbrev pub AreElements : Domain → List (Element (List ℕ)) → List ℕ → Type 0
AreElements domain [] os = os ≡ []
AreElements domain (e ∷ es) os =
    (front : List ℕ) × (rest : List ℕ) × (os ≡ front ++ rest) × SpellsElement domain e front × AreElements domain es rest

-- of repeated elements the first counts
abbrev pub first : ℕ → List (Element (List ℕ)) → Option (List ℕ)
first i [] = None
first i (e ∷ es) = if e.iei == i then Some e.octets else first i es

-- ---- reading

abbrev pub by_rule : Rule → ℕ → List ℕ → Option (Element (List ℕ) × List ℕ)
by_rule Itself i os = Some (record { iei = i / 16 * 16; octets = i ∷ [] }, os)
by_rule (Fixed n) i os = do
  x ← fixed_at n os
  Some (record { iei = i; octets = x.0 }, x.1)
by_rule ByOctet i os = do
  x ← short_at os
  Some (record { iei = i; octets = x.0 }, x.1)
by_rule ByTwo i os = do
  x ← long_at os
  Some (record { iei = i; octets = x.0 }, x.1)

unfoldable pub element_at : Domain → List ℕ → Option (Element (List ℕ) × List ℕ)
element_at domain os = do
  i ← octet_at os
  by_rule (rule_of domain i.0) i.0 i.1

-- at most n elements
unfoldable pub parted : ℕ → Domain → List ℕ → Option (List (Element (List ℕ)))
parted n domain [] = Some []
parted zero domain (o ∷ os) = None
parted (suc n) domain (o ∷ os) = do
  e ← element_at domain (o ∷ os)
  es ← parted n domain e.1
  Some (e.0 ∷ es)

unfoldable pub elements : Domain → List ℕ → Option (List (Element (List ℕ)))
elements domain os = parted (length os) domain os

-- the elements, and none where there is no parting
abbrev pub elements_in : Domain → List ℕ → List (Element (List ℕ))
elements_in domain os = unwrap_or (elements domain os) []

-- ---- writing

abbrev pub write_by : Rule → ℕ → List ℕ → List ℕ
write_by Itself i os = os
write_by (Fixed n) i os = i ∷ os
write_by ByOctet i os = i ∷ short os
write_by ByTwo i os = i ∷ wide os

abbrev pub FitsBy : Rule → ℕ → List ℕ → Type 0
FitsBy Itself i os = (n : ℕ) × (os ≡ n ∷ []) × (n / 16 * 16 ≡ i) × (128 ≤ n)
FitsBy (Fixed n) i os = length os ≡ n
FitsBy ByOctet i os = length os < 256
FitsBy ByTwo i os = length os < 65536
