-- Where decoding answers what octets spell and the fault that they have, they have one of both, once.
use Rattle.std.proofs.Common.{◌≡◌, ◌⊎◌, inl, inr, ℕ, List, Result, Ok, Err, refl, sym, ◌∙◌}
use Rattle.nas_elements.specs.declared.fault.NasFault.{NasFault}

module _ {M : Type 0} (decoded : List ℕ → Result M NasFault) (Spells : M → List ℕ → Type 0) (Has : List ℕ → NasFault → Type 0) where
  some_by : (os : List ℕ) (r : Result M NasFault) → decoded os ≡ r
      → ((n : List ℕ) (m : M) → decoded n ≡ Ok m → Spells m n) → ((n : List ℕ) (f : NasFault) → decoded n ≡ Err f → Has n f)
      → ((m : M) × Spells m os) ⊎ ((f : NasFault) × Has os f)
  some_by os (Ok m) q spelled fault = inl (m, spelled os m q)
  some_by os (Err f) q spelled fault = inr (f, fault os f q)

  pub some : ((n : List ℕ) (m : M) → decoded n ≡ Ok m → Spells m n) → ((n : List ℕ) (f : NasFault) → decoded n ≡ Err f → Has n f)
      → (os : List ℕ) → ((m : M) × Spells m os) ⊎ ((f : NasFault) × Has os f)
  some spelled fault os = some_by os (decoded os) refl spelled fault

  apart : (m : M) (f : NasFault) (r : Result M NasFault) → r ≡ Ok m → r ≡ Err f → ⊥
  apart m f r p q = absurd cc

  pub one : ((n : List ℕ) (m : M) → Spells m n → decoded n ≡ Ok m) → ((n : List ℕ) (f : NasFault) → Has n f → decoded n ≡ Err f)
      → (os : List ℕ) (m : M) (f : NasFault) → Spells m os → Has os f → ⊥
  one again named os m f s h = apart m f (decoded os) (again os m s) (named os f h)

  same : (f g : NasFault) (r : Result M NasFault) → r ≡ Err f → r ≡ Err g → f ≡ g
  same f g r p q = cc

  pub alone : ((n : List ℕ) (f : NasFault) → Has n f → decoded n ≡ Err f) → (os : List ℕ) (f g : NasFault) → Has os f → Has os g → f ≡ g
  alone named os f g h k = same f g (decoded os) (named os f h) (named os g k)
