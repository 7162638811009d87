-- A list in which one element is changed.
use Rattle.std.specs.Prelude.{ℕ, zero, suc, List, [], ◌∷◌}

-- the one at k is changed by f, if the list is so long
abbrev pub changed_at : {X : Type 0} → ℕ → (X → X) → List X → List X
changed_at k f [] = []
changed_at zero f (x ∷ xs) = f x ∷ xs
changed_at (suc k) f (x ∷ xs) = x ∷ changed_at k f xs
