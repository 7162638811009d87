-- What holds of each place before one, and of that one, holds of each before the next.
use Rattle.std.proofs.Common.{◌≡◌, ℕ, zero, suc, ◌+◌, ◌<◌, List, [], ◌∷◌, length, Some, sym, ◌∙◌, subst, arith, inl, inr}
use Rattle.std.specs.Prelude.{slice_get}
use Rattle.std.proofs.lemmas.Bool.{cases_lt}
use Rattle.std.proofs.lemmas.Option.{same_Some}
use Rattle.identity_slots.specs.declared.profile.Vector.{Vector}
use Rattle.identity_slots.specs.Provisioned.{vectors_at}

pub before_next : (P : ℕ → Type 0) (n k : ℕ) → (k < n → P k) → P n → k < n + 1 → P k
before_next P n k before here less = elim (cases_lt k n) [
  | inl low ↦ before low
  | inr high ↦
      let same : n ≡ k = omega (arith, high, less) in
      subst P same here
]

-- an element at its place
pub at_place : {X : Type 0} (P : X → Type 0) (xs : List X) (n : ℕ) (x y : X) → slice_get xs n ≡ Some x → P x
    → slice_get xs n ≡ Some y → P y
at_place P xs n x y at here other = subst P (same_Some x y (sym at ∙ other)) here

-- who has a vector is one of those who are provisioned
pub vector_within : (vs : List (List Vector)) (slot place : ℕ) (v : Vector) → slice_get (vectors_at slot vs) place ≡ Some v
    → slot < length vs
vector_within [] slot place v at = absurd (cc at)
vector_within (own ∷ vs) zero place v at = omega arith
vector_within (own ∷ vs) (suc slot) place v at = let within = vector_within vs slot place v at in omega (arith, within)
