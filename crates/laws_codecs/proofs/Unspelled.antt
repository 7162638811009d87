-- A component with which something is wrong has no spelling there.
use Rattle.std.proofs.Common.{◌≡◌, ℕ, ◌-◌, ◌*◌, ◌^◌, ◌<◌, ◌≤◌, Bool, true, false, List, [], ◌∷◌, length, take, drop, ap, subst, ◌∙◌, ◌⊎◌, inl, inr, arith}
use Rattle.std.proofs.lemmas.Bool.{cases_lt}
use Rattle.std.proofs.lemmas.List.{length-append}
use Rattle.std.proofs.lemmas.List.{take_at as take_front, drop_at as drop_front}
use Rattle.std.proofs.Math.Pow.{pow_mono}
use Rattle.per_streams.specs.declared.fault.PerFault.{PerFault}
use Rattle.per_streams.specs.Bits.{Place, value}
use Rattle.per_streams.specs.Numbers.{octets_for}
use Rattle.per_streams.specs.NumberLaws.{octets-least}
use Rattle.laws_codecs.specs.Components.{Component, any_bits, padding_bits, zero_bit, number_bits, number_octets, length_octet, second_length_octet, same_number, end_of_octets, component_width, HasSpelling, IsBroken, IsWrong, SpellsComponent}

-- ---- numbers in more octets than hold them

pub no_more : (v n : ℕ) → 1 ≤ n → (n < octets_for v) ⊎ (octets_for v ≤ n) → v < 2 ^ (8 * n) → octets_for v ≤ n
no_more v n some (inl fewer) holds =
    let floor = octets-least v (omega (arith, fewer, some)) in
    let under = pow_mono {i = 8 * n} {j = 8 * (octets_for v - 1)} (omega (arith, fewer)) in
    absurd (omega (arith, floor, under, holds))
no_more v n some (inr enough) holds = enough

-- one octet fewer holds it
abbrev pub IsMore : ℕ → ℕ → Type 0
IsMore n v = (1 < n) × (v < 2 ^ (8 * (n - 1)))

pub more_than_fewest : (v n : ℕ) → IsMore n v → octets_for v ≡ n → ⊥
more_than_fewest v n m same =
    let a = m.0 in
    let least = no_more v (n - 1) (omega (arith, a)) (cases_lt (n - 1) (octets_for v)) m.1 in
    absurd (omega (arith, a, least, same))

not_fewest : (v n : ℕ) → IsMore n v → (1 < n → 2 ^ (8 * (n - 1)) ≤ v) → ⊥
not_fewest v n m f = let lt = m.1 in let le = f m.0 in absurd (omega (arith, lt, le))

-- ---- every component

bit_is : (bs : List Bool) → bs ≡ true ∷ [] → bs ≡ false ∷ [] → ⊥
bit_is bs e f = absurd cc

broken_unspelled : (c : Component) (bs following : List Bool) (fault : PerFault) → IsBroken c bs following fault
    → SpellsComponent c bs following → ⊥
broken_unspelled (any_bits n) bs following fault b m = absurd b
broken_unspelled padding_bits bs following fault b m = b.1 m
broken_unspelled (zero_bit named) bs following fault b m = bit_is bs b.1 m
broken_unspelled (number_bits last n) bs following fault b m = let lt = b.1 in absurd (omega (arith, lt, m))
broken_unspelled (number_octets last n) bs following fault (inl b) m =
    let lt = b.1 in let le = m.0 in absurd (omega (arith, lt, le))
broken_unspelled (number_octets last n) bs following fault (inr b) m = not_fewest (value bs) n (b.1, b.2) m.1
broken_unspelled length_octet bs following fault b m = let le = b.1 in absurd (omega (arith, le, m))
broken_unspelled (second_length_octet first) bs following fault b m = let lt = b.1 in absurd (omega (arith, lt, m))
broken_unspelled (same_number m n) bs following fault b e = b.1 e
broken_unspelled end_of_octets bs following fault b m = b.1 m

pub wrong_unspelled : (c : Component) (s : Place) (fault : PerFault) → IsWrong c s fault → HasSpelling c s → ⊥
wrong_unspelled c s fault (inl cut) m =
    let short = cut.1 in
    let len = ap length m.2 in
    let wide = m.3 in
    absurd (omega (arith, short, len, wide, length-append m.0 m.1))
wrong_unspelled c s fault (inr b) m =
    let n = component_width c s.at in
    let bits : take n s.rest ≡ m.0 = ap (λ (l : List Bool). take n l) m.2 ∙ take_front m.0 m.1 n m.3 in
    let rest : drop n s.rest ≡ m.1 = ap (λ (l : List Bool). drop n l) m.2 ∙ drop_front m.0 m.1 n m.3 in
    let front : IsBroken c m.0 (drop n s.rest) fault =
    subst (λ (l : List Bool). IsBroken c l (drop n s.rest) fault) bits b in
    let whole : IsBroken c m.0 m.1 fault = subst (λ (l : List Bool). IsBroken c m.0 l fault) rest front in
    broken_unspelled c m.0 m.1 fault whole m.4
