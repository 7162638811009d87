-- A list in which some elements are changed.
use Rattle.std.specs.Prelude.{ℕ, Bool, false, List, [], ◌∷◌}
pub use Rattle.mme_tables.specs.Changed.{changed_at}

-- flags, where those at the places are off
abbrev pub cleared : List ℕ → List Bool → List Bool
cleared [] bs = bs
cleared (k ∷ ks) bs = cleared ks (changed_at k (λ _. false) bs)
