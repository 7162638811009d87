-- Values one after the other: which bits spell them, and what reading N gives.
use Rattle.std.specs.Prelude.{◌≡◌, ℕ, zero, suc, ◌+◌, List, [], ◌∷◌, ◌++◌, Bool, length, Result, Ok}
use Rattle.per_streams.specs.declared.fault.PerFault.{PerFault}
use Rattle.per_streams.specs.Bits.{Place, ◌>>=◌}

abbrev pub SpellsEach : {A : Type 0} → (A → ℕ → List Bool → Type 0) → List A → ℕ → List Bool → Type 0
SpellsEach S [] at bs = bs ≡ []
SpellsEach S (a ∷ more) at bs =
    (xs : List Bool) × (ys : List Bool) × (bs ≡ xs ++ ys) × S a at xs × SpellsEach S more (at + length xs) ys

-- N values, one after the other
unfoldable pub times : {A : Type 0} → (Place → Result (A × Place) PerFault) → ℕ → Place → Result (List A × Place) PerFault
times r zero s = Ok ([], s)
times r (suc n) s = do
  first ← r s
  others ← times r n first.1
  Ok (first.0 ∷ others.0, others.1)
