-- Tests of lists: one that fails.
use Rattle.std.proofs.Common.{◌≡◌, ◌<◌, ℕ, List, length, map, get_or, Bool, false, ◌∙◌}
use Rattle.std.specs.List.{list_all}
use Rattle.std.proofs.lemmas.List.Folds.{list_all-map, list_all_at}

-- one that fails
pub one_fails : {X Y : Type 0} (p : Y → Bool) (f : X → Y) (xs : List X) (i : ℕ) (d : X) → i < length xs → p (f (get_or xs i d)) ≡ false
    → list_all p (map f xs) ≡ false
one_fails p f xs i d lt h = list_all-map p f xs ∙ list_all_at (λ x. p (f x)) xs i d lt h
