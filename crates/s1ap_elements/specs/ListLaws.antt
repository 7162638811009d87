-- Lists and optional values, taken to their formats' values and back.
use Rattle.std.proofs.Common.{◌≡◌, ℕ, List, [], ◌∷◌, map, option_map, Option, Some, None, refl, ap, ◌∙◌}
use Rattle.s1ap_elements.specs.Stations.{each}

pub map_back : {A B : Type 0} (f : A → B) (g : B → A) → ((x : A) → g (f x) ≡ x) → (xs : List A) → map g (map f xs) ≡ xs
map_back f g h [] = refl
map_back f g h (x ∷ xs) = ap (λ y. y ∷ map g (map f xs)) (h x) ∙ ap (λ ys. x ∷ ys) (map_back f g h xs)

pub option_back : {A B : Type 0} (f : A → B) (g : B → A) → ((x : A) → g (f x) ≡ x) → (o : Option A)
    → option_map g (option_map f o) ≡ o
option_back f g h None = refl
option_back f g h (Some x) = ap (λ y. Some y) (h x)

pub each_is : (xs : List (List ℕ)) → each xs ≡ xs
each_is [] = refl
each_is (x ∷ xs) = ap (λ ys. x ∷ ys) (each_is xs)
