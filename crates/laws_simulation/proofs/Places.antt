-- What holds of each place before one, and of that one, holds of each before the next.
use Rattle.std.proofs.Common.{◌≡◌, ℕ, ◌+◌, ◌<◌, List, Some, sym, ◌∙◌, subst, arith, inl, inr}
use Rattle.std.specs.Prelude.{slice_get}
use Rattle.std.proofs.lemmas.Bool.{cases_lt}
use Rattle.std.proofs.lemmas.Option.{same_Some}

pub before_next : (P : ℕ → Type 0) (n k : ℕ) → (k < n → P k) → P n → k < n + 1 → P k
before_next P n k before here less = elim (cases_lt k n) [
  | inl low ↦ before low
  | inr high ↦
      let same : n ≡ k = omega (arith, high, less) in
      subst P same here
]

-- an element at its place
pub at_place : {X : Type 0} (P : X → Type 0) (xs : List X) (n : ℕ) (x y : X) → slice_get xs n ≡ Some x → P x
    → slice_get xs n ≡ Some y → P y
at_place P xs n x y at here other = subst P (same_Some x y (sym at ∙ other)) here
