-- What a caller sees of a sorted list: its elements by rising key.
use Rattle.std.specs.Prelude.{ℕ, Bool, List, [], ◌∷◌, Option, Some, None, nat_lt, if◌then◌else◌, refl}
use Rattle.std.specs.Coded.{Coded, code_by, coded×, coded_ℕ, coded_bool, coded_list}

pub record Sorted (X : Type 0) : Type 0 where
  pub items : List X  -- by rising key
  pub room : ℕ  -- how many more can be inserted with no allocation
  pub steady : Bool  -- where an element is taken out there is room for another, at any key

-- a list is stored as the tuple of its fields
abbrev pub sorted_code : {X : Type 0} → Coded X → Coded (Sorted X)
sorted_code {X} code =
    code_by
    (List X × (ℕ × Bool))
    (coded× (coded_list code) (coded× coded_ℕ coded_bool))
    (λ s. (s.items, (s.room, s.steady)))
    (λ p. record { items = p.0; room = p.1.0; steady = p.1.1 })
    (λ _. refl)

module _ {X : Type 0} where
  -- the first element
  abbrev pub lowest : List X → Option X
  lowest [] = None
  lowest (y ∷ ys) = Some y

  -- the first element whose key is at least k
  abbrev pub lowest_from : (X → ℕ) → ℕ → List X → Option X
  lowest_from key k [] = None
  lowest_from key k (y ∷ ys) = if nat_lt (key y) k then lowest_from key k ys else Some y
