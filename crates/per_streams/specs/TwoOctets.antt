-- The next two octets of an encoding, which are seen before they are taken.
use Rattle.std.proofs.Common.{◌≡◌, ℕ, ◌+◌, ◌-◌, ◌*◌, ◌^◌, ◌%◌, ◌<◌, ◌≤◌, Bool, true, false, cond, eqb, ltb, List, [], ◌∷◌, ◌++◌, length, take, drop, get_or, Option, Some, None, IsSome, Result, Ok, Err, refl, sym, ap, ◌∙◌, arith, append_assoc, inl, inr}
use Rattle.std.proofs.lemmas.Bool.{eq-eqb, ne_eqb, eqb-true, cases_lt}
use Rattle.std.proofs.lemmas.List.{append-nil, drop_more}
use Rattle.per_streams.specs.declared.fault.PerFault.{PerFault}
use Rattle.per_streams.specs.declared.fault.PerFault.TheVariants.{Truncated}
use Rattle.per_streams.specs.Bits.{bits, octet_bits, octets_of_bits, Place, IsBytes, take_at, number_bits_at, whole_octets_at}
use Rattle.per_streams.specs.BitLaws.{bind_ok, unless_ok, okay, ok_is, whole-octets, short-octets}
use Rattle.per_streams.specs.PartLaws.{bits-join, front_part}
use Rattle.per_streams.specs.OctetLaws.{exact_whole_octets}

-- the octets of a reading, where it gives any
abbrev pub octets_read : Result (List ℕ × Place) PerFault → Option (List ℕ)
octets_read (Ok x) = Some x.0
octets_read (Err f) = None

-- the next two octets, where a place is at an octet and two are left
unfoldable pub two_at : Place → Option (List ℕ)
two_at s = cond (eqb (s.at % 8) 0) (octets_read (whole_octets_at 2 s)) None

-- the place after them
abbrev pub past_two : Place → Place
past_two s = record { at = s.at + 16; rest = drop 16 s.rest }

-- ---- what a reader sees

pub inside_octet : (begun left : ℕ) (rest : List Bool) → left < 8 → left ≤ 8 * begun → (left ≡ 0 → ⊥)
    → None ≡ two_at (record { at = 8 * begun - left; rest = rest })
unfolding two_at
inside_octet begun left rest lt le some =
    let other : (8 * begun - left) % 8 ≡ 0 → ⊥ = λ e. some (omega arith) in rw (ne_eqb ((8 * begun - left) % 8) 0 other) refl

pub none_left : (octets : List ℕ) (begun left current : ℕ) → left < 8 → left ≤ 8 * begun → left ≡ 0 → begun ≤ length octets
    → length octets - begun < 2
    → None ≡ two_at (record { at = 8 * begun - left; rest = bits left current ++ octet_bits (drop begun octets) })
unfolding two_at
none_left octets begun left current lt le none in_range few =
    let whole : (8 * begun - left) % 8 ≡ 0 = omega arith in
    rw (eq-eqb ((8 * begun - left) % 8) 0 whole, short-octets begun left current 2 octets lt le whole in_range few) refl

two_of : (octets : List ℕ) (begun : ℕ) → begun + 1 < length octets
    → get_or octets begun 0 ∷ get_or octets (begun + 1) 0 ∷ [] ≡ take 2 (drop begun octets)
two_of octets begun lt =
    let one : drop begun octets ≡ get_or octets begun 0 ∷ drop (begun + 1) octets = drop_more octets begun 0 (omega arith) in
    let two : drop (begun + 1) octets ≡ get_or octets (begun + 1) 0 ∷ drop (begun + 1 + 1) octets = drop_more octets (begun + 1) 0 lt in
    rw (one, two) refl

pub two_left : (octets : List ℕ) (begun left current : ℕ) → IsBytes octets → left < 8 → left ≤ 8 * begun → left ≡ 0
    → begun ≤ length octets → 2 ≤ length octets - begun
    → Some (get_or octets begun 0 ∷ get_or octets (begun + 1) 0 ∷ [])
    ≡ two_at (record { at = 8 * begun - left; rest = bits left current ++ octet_bits (drop begun octets) })
unfolding two_at
two_left octets begun left current bytes lt le none in_range room =
    let whole : (8 * begun - left) % 8 ≡ 0 = omega arith in
    rw (
      eq-eqb ((8 * begun - left) % 8) 0 whole,
      whole-octets begun left current 2 octets bytes lt le whole in_range room,
      two_of octets begun (omega arith),
    ) refl

-- ---- what stands there

past : (s t : Place) (os : List ℕ) → whole_octets_at 2 s ≡ Ok (os, t) → t ≡ past_two s
unfolding whole_octets_at take_at
past s t os e =
    let last : List ℕ × Place = (os, t) in
    let u : List Bool × Place = (take 16 s.rest, past_two s) in
    let a =
    bind_ok (cond (ltb (length s.rest) 16) (Err Truncated) (okay u)) (λ x. okay {A = List ℕ × Place} (octets_of_bits 2 x.0, x.1)) last
    e in
    let b = unless_ok (ltb (length s.rest) 16) Truncated u a.0 a.1 in
    let c = ok_is {A = List ℕ × Place} (octets_of_bits 2 a.0.0, a.0.1) last a.2 in
    sym (ap (λ (x : List ℕ × Place). x.1) c) ∙ sym (ap (λ (x : List Bool × Place). x.1) b.1)

some_two : (b : Bool) (r : Result (List ℕ × Place) PerFault) (os : List ℕ) → cond b (octets_read r) None ≡ Some os
    → (b ≡ true) × (t : Place) × (r ≡ Ok (os, t))
some_two true (Ok x) os e = let k : x.0 ≡ os = cc in (refl, x.1, ap (λ (l : List ℕ). okay {A = List ℕ × Place} (l, x.1)) k)
some_two true (Err f) os e = absurd cc
some_two false r os e = absurd cc

pub two_are : (s : Place) (os : List ℕ) → two_at s ≡ Some os → (s.at % 8 ≡ 0) × (whole_octets_at 2 s ≡ Ok (os, past_two s))
unfolding two_at
two_are s os e =
    let k = some_two (eqb (s.at % 8) 0) (whole_octets_at 2 s) os e in
    (eqb-true _ _ k.0, k.2 ∙ ap (λ (x : Place). okay {A = List ℕ × Place} (os, x)) (past s k.1 os k.2))

-- two octets that stand at a place
pub record Stand (high low : ℕ) (s : Place) : Type 0 where
  pub at : s.at % 8 ≡ 0
  pub high_fits : high < 256
  pub low_fits : low < 256
  pub rest : s.rest ≡ bits 8 high ++ (bits 8 low ++ drop 16 s.rest)

two_by_two : (os : List ℕ) → length os ≡ 2 → os ≡ get_or os 0 0 ∷ get_or os 1 0 ∷ []
two_by_two [] e = absurd cc
two_by_two (x ∷ []) e = absurd (omega (arith, e))
two_by_two (x ∷ y ∷ []) e = refl
two_by_two (x ∷ y ∷ z ∷ zs) e = absurd (omega (arith, e))

pub two_stand : (os : List ℕ) (s : Place) → two_at s ≡ Some os → Stand (get_or os 0 0) (get_or os 1 0) s
two_stand os s e =
    let k = two_are s os e in
    let t = (exact_whole_octets 2).takes s (past_two s) os k.1 in
    let high : List Bool = bits 8 (get_or os 0 0) in
    let low : List Bool = bits 8 (get_or os 1 0) in
    let both : t.taken ≡ high ++ low =
    t.spelled.2 ∙ ap octet_bits (two_by_two os t.spelled.0) ∙ ap (λ (l : List Bool). high ++ l) (append-nil low) in
    record {
      at = k.0;
      high_fits = t.spelled.1 0;
      low_fits = t.spelled.1 1;
      rest = t.parts ∙ ap (λ (l : List Bool). l ++ drop 16 s.rest) both ∙ append_assoc high low (drop 16 s.rest);
    }

-- the number that they stand for
pub two_number : (high low : ℕ) (s : Place) → Stand high low s → number_bits_at 16 s ≡ Ok (high * 256 + low, past_two s)
two_number high low s h =
    let rest : List Bool = drop 16 s.rest in
    let one : bits 16 (high * 256 + low) ≡ bits 8 high ++ bits 8 low = bits-join 8 8 high low h.high_fits h.low_fits in
    let whole : s.rest ≡ bits 16 (high * 256 + low) ++ rest =
    h.rest ∙ sym (append_assoc (bits 8 high) (bits 8 low) rest) ∙ ap (λ (l : List Bool). l ++ rest) (sym one) in
    let a = h.high_fits in
    let b = h.low_fits in
    let fits : high * 256 + low < 2 ^ 16 = omega arith in
    front_part 16 (high * 256 + low) s.at (s.at + 16) s.rest rest fits whole refl

-- ---- a reader that passes them

some_is : (o : Option (List ℕ)) → IsSome o → (os : List ℕ) × (o ≡ Some os)
some_is (Some os) h = (os, refl)
some_is None h = absurd cc

pub passed : (octets : List ℕ) (begun left current : ℕ) → IsBytes octets → left < 8 → left ≤ 8 * begun → begun ≤ length octets
    → IsSome (two_at (record { at = 8 * begun - left; rest = bits left current ++ octet_bits (drop begun octets) }))
    → (begun + 2 ≤ length octets)
    × (record { at = 8 * (begun + 2) - left; rest = bits left current ++ octet_bits (drop (begun + 2) octets) }
    ≡ past_two (record { at = 8 * begun - left; rest = bits left current ++ octet_bits (drop begun octets) }))
passed octets begun left current bytes lt le in_range h =
    let s : Place = record { at = 8 * begun - left; rest = bits left current ++ octet_bits (drop begun octets) } in
    let o = some_is (two_at s) h in
    let k = two_are s o.0 o.1 in
    elim (cases_lt (length octets - begun) 2) [
      | inl few ↦
          let none = short-octets begun left current 2 octets lt le k.0 in_range few in
          absurd (cc (none, k.1))
      | inr room ↦ (
        omega arith,
        past s (record { at = 8 * (begun + 2) - left; rest = bits left current ++ octet_bits (drop (begun + 2) octets) })
            (take 2 (drop begun octets)) (whole-octets begun left current 2 octets bytes lt le k.0 in_range room),
      )
    ]
