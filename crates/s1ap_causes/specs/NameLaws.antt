-- What is spelled has a name where its format has names.
use Rattle.std.proofs.Common.{◌≡◌, ℕ, zero, suc, ◌+◌, ◌-◌, ◌<◌, ◌≤◌, Bool, List, [], ◌∷◌, get_or, length, ap, ◌∙◌, inl, inr, ◌⊎◌, arith}
use Rattle.per_bits.specs.Formats.{Format, Alternatives, Value, Chosen, enumerated, choice, last, either, left_of}
use Rattle.per_bits.specs.Spelling.{Spells, SpellsChosen}

-- some bits spell the value at some place
abbrev pub Spelled : (f : Format) → Value f → Type 0
Spelled f v = (at : ℕ) × (bs : List Bool) × Spells f v at bs

abbrev pub SpelledChosen : (alts : Alternatives) → Chosen alts → Type 0
SpelledChosen alts v = (i : ℕ) × (at : ℕ) × (bs : List Bool) × SpellsChosen alts i v at bs

pub chosen_spelled : (alts : Alternatives) (v : Chosen alts) → Spelled (choice alts) v → SpelledChosen alts v
chosen_spelled alts v s = (s.2.0, s.0 + length s.2.1, s.2.2, s.2.5)

left_at : (f : Format) (alts : Alternatives) (v : Value f) (i at : ℕ) (bs : List Bool)
    → SpellsChosen (either f alts) i (inl v) at bs → Spelled f v
left_at f alts v zero at bs s = (at, bs, s)
left_at f alts v (suc i) at bs s = absurd s

pub left_spelled : (f : Format) (alts : Alternatives) (v : Value f) → SpelledChosen (either f alts) (inl v) → Spelled f v
left_spelled f alts v s = left_at f alts v s.0 s.1 s.2 s.3

right_at : (f : Format) (alts : Alternatives) (v : Chosen alts) (i at : ℕ) (bs : List Bool)
    → SpellsChosen (either f alts) i (inr v) at bs → SpelledChosen alts v
right_at f alts v zero at bs s = absurd s
right_at f alts v (suc i) at bs s = (i, at, bs, s)

pub right_spelled : (f : Format) (alts : Alternatives) (v : Chosen alts) → SpelledChosen (either f alts) (inr v)
    → SpelledChosen alts v
right_spelled f alts v s = right_at f alts v s.0 s.1 s.2 s.3

pub last_spelled : (f : Format) (v : Value f) → SpelledChosen (last f) v → Spelled f v
last_spelled f v s = (s.1, s.2, s.3.1)

-- the names stand in the order of their numbers
abbrev pub InOrder : {A : Type 0} → (A → ℕ ⊎ ℕ) → ℕ → List A → Type 0
InOrder f n [] = Unit {0}
InOrder f n (x ∷ xs) = (f x ≡ left_of n) × InOrder f (n + 1) xs

name_at : {A : Type 0} (f : A → ℕ ⊎ ℕ) (n k : ℕ) (xs : List A) (d : A) → InOrder f n xs → k < length xs
    → f (get_or xs k d) ≡ left_of (n + k)
name_at f n k [] d h lt = absurd (omega (arith, lt))
name_at f n zero (x ∷ xs) d h lt =
    let same : n ≡ n + 0 = omega arith in
    h.0 ∙ ap (λ (m : ℕ). left_of m) same
name_at f n (suc k) (x ∷ xs) d h lt =
    let same : (n + 1) + k ≡ n + suc k = omega arith in
    name_at f (n + 1) k xs d h.1 (omega (arith, lt)) ∙ ap (λ (m : ℕ). left_of m) same

pub names_again : {A : Type 0} (f : A → ℕ ⊎ ℕ) (xs : List A) (d : A) (greatest : ℕ) → InOrder f 0 xs → length xs ≡ greatest + 1
    → (k : ℕ) → Spelled (enumerated greatest) (inl k) → f (get_or xs k d) ≡ inl k
names_again f xs d greatest h len k s =
    let within : k - 0 ≤ greatest - 0 = s.2.2.1 in
    let same : 0 + k ≡ k = omega arith in
    name_at f 0 k xs d h (omega (arith, len, within)) ∙ ap (λ (m : ℕ). left_of m) same
