-- The order of radio keys, and rows of keys that rise.
use Rattle.std.proofs.Common.{◌≡◌, ◌⊎◌, ℕ, ◌+◌, ◌<◌, ◌≤◌, inl, inr, List, [], ◌∷◌, All, AllPairs, le_refl, arith}
use Rattle.std.proofs.lemmas.Bool.{cases_lt}
use Rattle.std.proofs.lemmas.List.Elements.{All-cons, All-nil, All-weaker}
use Rattle.std.proofs.lemmas.List.Kept.{AllPairs-cons}
use Rattle.laws_mme.specs.Handed.{IsBefore, RadioKey}

abbrev pub key : ℕ → ℕ → ℕ → RadioKey
key place count hop = record { place = place; count = count; hop = hop }

-- the first that a vector can give
abbrev pub first_of : ℕ → RadioKey
first_of place = key place 0 0

-- the next hop of the same KeNB
abbrev pub after : RadioKey → RadioKey
after k = key k.place k.count (k.hop + 1)

-- of one vector the same key, or an earlier one
abbrev pub IsCountUpTo : RadioKey → RadioKey → Type 0
IsCountUpTo j k = (j.count < k.count) ⊎ ((j.count ≤ k.count) × (j.hop ≤ k.hop))

-- the same key, or an earlier one
abbrev pub IsUpTo : RadioKey → RadioKey → Type 0
IsUpTo j k = (j.place < k.place) ⊎ ((j.place ≤ k.place) × IsCountUpTo j k)

count_trans : (i j k : RadioKey) → IsCountUpTo i j → IsCountUpTo j k → IsCountUpTo i k
count_trans i j k p q = elim p [
  | inl a ↦ elim q [
    | inl b ↦ inl (omega arith)
    | inr b ↦ let le : j.count ≤ k.count = b.0 in inl (omega arith)
  ]
  | inr a ↦
      let le : i.count ≤ j.count = a.0 in
      let low : i.hop ≤ j.hop = a.1 in
      elim q [
        | inl b ↦ inl (omega arith)
        | inr b ↦
            let more : j.count ≤ k.count = b.0 in let high : j.hop ≤ k.hop = b.1 in inr (omega arith, omega arith)
      ]
]

pub up_to_trans : (i j k : RadioKey) → IsUpTo i j → IsUpTo j k → IsUpTo i k
up_to_trans i j k p q = elim p [
  | inl a ↦ elim q [
    | inl b ↦ inl (omega arith)
    | inr b ↦ let le : j.place ≤ k.place = b.0 in inl (omega arith)
  ]
  | inr a ↦
      let le : i.place ≤ j.place = a.0 in
      elim q [
        | inl b ↦ inl (omega arith)
        | inr b ↦ let more : j.place ≤ k.place = b.0 in inr (omega arith, count_trans i j k a.1 b.1)
      ]
]

-- of one vector and one count a later hop
pub hop_up : (place count low high : ℕ) → low ≤ high → IsUpTo (key place count low) (key place count high)
hop_up place count low high le = inr (le_refl place, inr (le_refl count, le))

-- of one vector the KeNB of a later count
pub count_up : (place low high : ℕ) → low ≤ high → IsUpTo (key place low 0) (key place high 0)
count_up place low high le = inr (le_refl place, inr (le, le_refl 0))

-- the first of a later vector
pub place_up : (low high : ℕ) → low ≤ high → IsUpTo (first_of low) (first_of high)
place_up low high le = inr (le, inr (le_refl 0, le_refl 0))

pub later : (k : RadioKey) → IsUpTo k (after k)
later k = inr (le_refl k.place, inr (le_refl k.count, omega arith))

-- ---- what is before

count_before : (j k : RadioKey) → IsCountUpTo (after j) k → (j.count < k.count) ⊎ ((j.count ≡ k.count) × (j.hop < k.hop))
count_before j k h = elim h [
  | inl a ↦ inl a
  | inr a ↦
      let le : j.count ≤ k.count = a.0 in
      let more : j.hop + 1 ≤ k.hop = a.1 in
      elim (cases_lt j.count k.count) [
        | inl lt ↦ inl lt
        | inr ge ↦ inr (omega arith, omega arith)
      ]
]

before_of : (j k : RadioKey) → IsUpTo (after j) k → IsBefore j k
before_of j k h = elim h [
  | inl a ↦ inl a
  | inr a ↦
      let le : j.place ≤ k.place = a.0 in
      elim (cases_lt j.place k.place) [
        | inl lt ↦ inl lt
        | inr ge ↦ inr (omega arith, count_before j k a.1)
      ]
]

-- ---- rows

-- none is earlier than the first, and each is after the one before it
abbrev pub IsRow : RadioKey → List RadioKey → Type 0
IsRow f [] = Unit {0}
IsRow f (k ∷ ks) = IsUpTo f k × IsRow (after k) ks

pub row_lower : (f g : RadioKey) (ks : List RadioKey) → IsUpTo f g → IsRow g ks → IsRow f ks
row_lower f g [] le h = tt
row_lower f g (k ∷ ks) le h = (up_to_trans f g k le h.0, h.1)

row_all : (f : RadioKey) (ks : List RadioKey) → IsRow f ks → All (IsUpTo f) ks
row_all f [] h = All-nil (IsUpTo f)
row_all f (k ∷ ks) h =
    All-cons (IsUpTo f) k ks h.0 (row_all f ks (row_lower f (after k) ks (up_to_trans f k (after k) h.0 (later k)) h.1))

pub row_rises : (f : RadioKey) (ks : List RadioKey) → IsRow f ks → AllPairs IsBefore ks
row_rises f [] h = λ i j d lt within. absurd (omega arith)
row_rises f (k ∷ ks) h =
    AllPairs-cons IsBefore k ks
    (All-weaker (IsUpTo (after k)) (IsBefore k) (before_of k) ks (row_all (after k) ks h.1))
    (row_rises (after k) ks h.1)
