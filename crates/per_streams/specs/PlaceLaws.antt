-- Octets among the bits that were written.
use Rattle.std.proofs.Common.{◌≡◌, ℕ, ◌+◌, ◌*◌, ◌/◌, ◌<◌, ◌≤◌, Bool, List, ◌∷◌, ◌++◌, length, take, drop, refl, sym, ap, ◌∙◌, append_assoc, arith}
use Rattle.std.specs.Prelude.{set}
use Rattle.std.specs.List.{insert}
use Rattle.std.proofs.lemmas.List.{length-append, length-take-le, take-append-drop, take_at, drop_at, take-set, drop-set}
use Rattle.std.proofs.lemmas.Grind.{flat_map-append}
use Rattle.per_streams.specs.Bits.{bits, octet_bits}
use Rattle.per_streams.specs.BitLaws.{length-bits, length-octet_bits}

-- N whole octets
pub whole_octets : (octets : List ℕ) (used current : ℕ) → used < 8
    → length (octet_bits octets ++ bits used current) / 8 ≡ length octets
whole_octets octets used current lt =
    omega (arith, lt, length-append (octet_bits octets) (bits used current), length-octet_bits octets, length-bits used current)

parts : (p : ℕ) (xs : List ℕ) (rest : List Bool)
    → octet_bits xs ++ rest ≡ octet_bits (take p xs) ++ (octet_bits (drop p xs) ++ rest)
parts p xs rest =
    ap (λ (l : List ℕ). octet_bits l ++ rest) (sym (take-append-drop p xs))
    ∙ ap (λ (l : List Bool). l ++ rest) (flat_map-append (bits 8) (take p xs) (drop p xs))
    ∙ append_assoc (octet_bits (take p xs)) (octet_bits (drop p xs)) rest

length_front : (p : ℕ) (xs : List ℕ) → p ≤ length xs → length (octet_bits (take p xs)) ≡ 8 * p
length_front p xs le = omega (arith, length-octet_bits (take p xs), length-take-le p xs le)

-- the bits before an octet
pub front_octets : (p : ℕ) (xs : List ℕ) (rest : List Bool) → p ≤ length xs
    → take (8 * p) (octet_bits xs ++ rest) ≡ octet_bits (take p xs)
front_octets p xs rest le =
    ap (take (8 * p)) (parts p xs rest)
    ∙ take_at (octet_bits (take p xs)) (octet_bits (drop p xs) ++ rest) (8 * p) (length_front p xs le)

-- and those from it on
pub back_octets : (p : ℕ) (xs : List ℕ) (rest : List Bool) → p ≤ length xs
    → drop (8 * p) (octet_bits xs ++ rest) ≡ octet_bits (drop p xs) ++ rest
back_octets p xs rest le =
    ap (drop (8 * p)) (parts p xs rest)
    ∙ drop_at (octet_bits (take p xs)) (octet_bits (drop p xs) ++ rest) (8 * p) (length_front p xs le)

-- an octet that was written in full
pub is_written : (p : ℕ) (xs : List ℕ) (used current : ℕ) {now : List Bool} → octet_bits xs ++ bits used current ≡ now → used < 8
    → 8 * p + 8 ≤ length now → p < length xs
is_written p xs used current {now} e lt le =
    let l = ap length e in
    omega (arith, l, lt, le, length-append (octet_bits xs) (bits used current), length-octet_bits xs, length-bits used current)

-- and a place up to the last one's end
pub is_reached : (p : ℕ) (xs : List ℕ) (used current : ℕ) {now : List Bool} → octet_bits xs ++ bits used current ≡ now → used < 8
    → 8 * p ≤ length now → p ≤ length xs
is_reached p xs used current {now} e lt le =
    let l = ap length e in
    omega (arith, l, lt, le, length-append (octet_bits xs) (bits used current), length-octet_bits xs, length-bits used current)

inside : (front back : List ℕ) (o : ℕ) (rest : List Bool)
    → octet_bits (front ++ o ∷ back) ++ rest ≡ octet_bits front ++ (bits 8 o ++ (octet_bits back ++ rest))
inside front back o rest =
    ap (λ (l : List Bool). l ++ rest) (flat_map-append (bits 8) front (o ∷ back))
    ∙ append_assoc (octet_bits front) (bits 8 o ++ octet_bits back) rest
    ∙ ap (λ (l : List Bool). octet_bits front ++ l) (append_assoc (bits 8 o) (octet_bits back) rest)

pub set_view : (p o : ℕ) (xs : List ℕ) (rest : List Bool) → p < length xs
    → octet_bits (set xs p o) ++ rest
    ≡ take (8 * p) (octet_bits xs ++ rest) ++ (bits 8 o ++ drop (8 * p + 8) (octet_bits xs ++ rest))
set_view p o xs rest lt =
    let split : set xs p o ≡ take p xs ++ o ∷ drop (p + 1) xs =
    sym (take-append-drop p (set xs p o)) ∙ rw (take-set xs p o, drop-set xs p o lt) refl in
    let more : 8 * p + 8 ≡ 8 * (p + 1) = omega arith in
    let front = front_octets p xs rest (omega (arith, lt)) in
    let back = back_octets (p + 1) xs rest (omega (arith, lt)) in
    ap (λ (l : List ℕ). octet_bits l ++ rest) split ∙ inside (take p xs) (drop (p + 1) xs) o rest ∙ rw (more, front, back) refl

pub insert_view : (p o : ℕ) (xs : List ℕ) (rest : List Bool) → p ≤ length xs
    → octet_bits (insert xs p o) ++ rest
    ≡ take (8 * p) (octet_bits xs ++ rest) ++ (bits 8 o ++ drop (8 * p) (octet_bits xs ++ rest))
insert_view p o xs rest le = inside (take p xs) (drop p xs) o rest ∙ rw (front_octets p xs rest le, back_octets p xs rest le) refl
