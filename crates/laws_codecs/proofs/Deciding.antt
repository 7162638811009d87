-- Each component has a spelling at a place or one fault there.
use Rattle.std.proofs.Common.{◌≡◌, ℕ, ◌+◌, ◌-◌, ◌*◌, ◌^◌, ◌<◌, ◌≤◌, Bool, true, false, eqb, List, [], ◌∷◌, length, take, drop, refl, sym, ◌⊎◌, inl, inr, arith}
use Rattle.std.proofs.lemmas.Bool.{cases_eq, cases_lt, eqb-true}
use Rattle.std.proofs.lemmas.List.{length-take-le, take-append-drop}
use Rattle.per_streams.specs.declared.fault.PerFault.{PerFault}
use Rattle.per_streams.specs.declared.fault.PerFault.TheVariants.{Truncated, Padding, Range, NotFewest, Fragmented, Trailing, Alternative}
use Rattle.per_streams.specs.Bits.{Place, value}
use Rattle.laws_codecs.specs.Components.{Component, any_bits, padding_bits, zero_bit, number_bits, number_octets, length_octet, second_length_octet, same_number, end_of_octets, component_width, fault_number, HasSpelling, IsBroken, IsFaultOf, SpellsComponent}
use Rattle.laws_codecs.proofs.Bits.{not_zeros, zeros}
use Rattle.laws_codecs.proofs.Judging.{HasRoom, broken, least, same_number_of}
use Rattle.laws_codecs.proofs.Unspelled.{wrong_unspelled}

-- its bits, and what follows them, spell it; or one fault of what breaks it has the lowest number
abbrev Settled : Component → List Bool → List Bool → Type 0
Settled c bs following =
    SpellsComponent c bs following
    ⊎ ((fault : PerFault) × IsBroken c bs following fault
    × ((other : PerFault) → IsBroken c bs following other → fault_number fault ≤ fault_number other))

padding_settled : (bs following : List Bool) → (b : Bool) → eqb (value bs) 0 ≡ b → Settled padding_bits bs following
padding_settled bs following true e = inl (zeros bs (eqb-true (value bs) 0 e))
padding_settled bs following false e = inr (Padding, (refl, not_zeros bs e), λ other b. same_number_of Padding other b.0)

bit_settled : (named : PerFault) (bs following : List Bool) → length bs ≡ 1 → Settled (zero_bit named) bs following
bit_settled named [] following len = absurd (omega (arith, len))
bit_settled named (true ∷ []) following len = inr (named, (refl, refl), λ other b. same_number_of named other b.0)
bit_settled named (false ∷ []) following len = inl refl
bit_settled named (b ∷ (c ∷ bs)) following len = absurd (omega (arith, len))

number_settled : (most n : ℕ) (bs following : List Bool) → (most < value bs) ⊎ (value bs ≤ most)
    → Settled (number_bits most n) bs following
number_settled most n bs following (inl above) = inr (Range, (refl, above), λ other b. same_number_of Range other b.0)
number_settled most n bs following (inr within) = inl within

abbrev Octets : ℕ → ℕ → List Bool → PerFault → Type 0
Octets most n bs fault =
    ((fault ≡ Range) × (most < value bs)) ⊎ ((fault ≡ NotFewest) × (1 < n) × (value bs < 2 ^ (8 * (n - 1))))

range_first : (most n : ℕ) (bs : List Bool) (other : PerFault) → Octets most n bs other → 3 ≤ fault_number other
range_first most n bs other (inl b) = same_number_of Range other b.0
range_first most n bs other (inr b) = let k = same_number_of NotFewest other b.0 in omega (arith, k)

fewest_alone : (most n : ℕ) (bs : List Bool) (other : PerFault) → value bs ≤ most → Octets most n bs other
    → 4 ≤ fault_number other
fewest_alone most n bs other within (inl b) = let lt = b.1 in absurd (omega (arith, lt, within))
fewest_alone most n bs other within (inr b) = same_number_of NotFewest other b.0

octets_settled : (most n : ℕ) (bs following : List Bool) → (most < value bs) ⊎ (value bs ≤ most) → (1 < n) ⊎ (n ≤ 1)
    → (value bs < 2 ^ (8 * (n - 1))) ⊎ (2 ^ (8 * (n - 1)) ≤ value bs)
    → Settled (number_octets most n) bs following
octets_settled most n bs following (inl above) some fewer =
    inr (Range, inl (refl, above), λ other b. range_first most n bs other b)
octets_settled most n bs following (inr within) (inl some) (inl fewer) =
    inr (NotFewest, inr (refl, some, fewer), λ other b. fewest_alone most n bs other within b)
octets_settled most n bs following (inr within) (inl some) (inr enough) = inl (within, λ more. enough)
octets_settled most n bs following (inr within) (inr one) fewer = inl (within, λ more. absurd (omega (arith, one, more)))

length_settled : (bs following : List Bool) → (value bs < 192) ⊎ (192 ≤ value bs) → Settled length_octet bs following
length_settled bs following (inl lt) = inl lt
length_settled bs following (inr le) = inr (Fragmented, (refl, le), λ other b. same_number_of Fragmented other b.0)

second_settled : (first : ℕ) (bs following : List Bool)
    → ((first - 128) * 256 + value bs < 128) ⊎ (128 ≤ (first - 128) * 256 + value bs)
    → Settled (second_length_octet first) bs following
second_settled first bs following (inl lt) = inr (NotFewest, (refl, lt), λ other b. same_number_of NotFewest other b.0)
second_settled first bs following (inr le) = inl le

same_settled : (m n : ℕ) (bs following : List Bool) → (m ≡ n) ⊎ (m ≡ n → ⊥) → Settled (same_number m n) bs following
same_settled m n bs following (inl same) = inl same
same_settled m n bs following (inr other) = inr (Range, (refl, other), λ fault b. same_number_of Range fault b.0)

end_settled : (bs following : List Bool) → Settled end_of_octets bs following
end_settled bs [] = inl refl
end_settled bs (b ∷ following) = inr (Trailing, (refl, λ e. absurd (cc e)), λ other m. same_number_of Trailing other m.0)

settled : (c : Component) (at : ℕ) (bs following : List Bool) → length bs ≡ component_width c at → Settled c bs following
settled (any_bits n) at bs following len = inl tt
settled padding_bits at bs following len = padding_settled bs following (eqb (value bs) 0) refl
settled (zero_bit named) at bs following len = bit_settled named bs following len
settled (number_bits most n) at bs following len = number_settled most n bs following (cases_lt most (value bs))
settled (number_octets most n) at bs following len =
    octets_settled most n bs following (cases_lt most (value bs)) (cases_lt 1 n) (cases_lt (value bs) (2 ^ (8 * (n - 1))))
settled length_octet at bs following len = length_settled bs following (cases_lt (value bs) 192)
settled (second_length_octet first) at bs following len =
    second_settled first bs following (cases_lt ((first - 128) * 256 + value bs) 128)
settled (same_number m n) at bs following len = same_settled m n bs following (cases_eq m n)
settled end_of_octets at bs following len = end_settled bs following

abbrev Outcome : Component → Place → Type 0
Outcome c s = HasSpelling c s ⊎ ((fault : PerFault) × IsFaultOf c s fault)

at_room : (c : Component) (s : Place) → HasRoom c s
    → Settled c (take (component_width c s.at) s.rest) (drop (component_width c s.at) s.rest) → Outcome c s
at_room c s room (inl m) =
    let n = component_width c s.at in
    inl (take n s.rest, drop n s.rest, sym (take-append-drop n s.rest), length-take-le n s.rest room, m)
at_room c s room (inr m) = inr (m.0, (inr m.1, λ other w. m.2 other (broken c s other room w)))

at_place : (c : Component) (s : Place) → (length s.rest < component_width c s.at) ⊎ (component_width c s.at ≤ length s.rest)
    → Outcome c s
at_place c s (inl cut) = inr (Truncated, (inl (refl, cut), λ other w. least other))
at_place c s (inr room) =
    let n = component_width c s.at in
    at_room c s room (settled c s.at (take n s.rest) (drop n s.rest) (length-take-le n s.rest room))

pub spelled_or_fault : (c : Component) (s : Place) → HasSpelling c s ⊎ ((fault : PerFault) × IsFaultOf c s fault)
spelled_or_fault c s = at_place c s (cases_lt (length s.rest) (component_width c s.at))

pub never_spelled_with_fault : (c : Component) (s : Place) (fault : PerFault) → HasSpelling c s → IsFaultOf c s fault → ⊥
never_spelled_with_fault c s fault m w = wrong_unspelled c s fault w.0 m

-- no two faults have one number
number_apart : (x y : PerFault) → fault_number x ≤ fault_number y → fault_number y ≤ fault_number x → x ≡ y
number_apart x y le ge = by x y (omega (arith, le, ge))
  where
    by : (x y : PerFault) → fault_number x ≡ fault_number y → x ≡ y
    by Truncated Truncated e = refl
    by Padding Padding e = refl
    by Range Range e = refl
    by NotFewest NotFewest e = refl
    by Fragmented Fragmented e = refl
    by Trailing Trailing e = refl
    by Alternative Alternative e = refl
    by _ _ e = absurd (omega (arith, e))

pub one_fault_of : (c : Component) (s : Place) (fault other : PerFault) → IsFaultOf c s fault → IsFaultOf c s other → fault ≡ other
one_fault_of c s fault other p q = number_apart fault other (p.1 other q.0) (q.1 fault p.0)
