-- What stands at a place of a list.
use Rattle.std.proofs.Common.{◌≡◌, ◌≤◌, ◌<◌, ℕ, zero, suc, ◌+◌, List, [], ◌∷◌, length, drop, true, false, Option, Some, None, sym, ◌∙◌, ap, arith}
use Rattle.std.specs.Prelude.{is_none, option_map, slice_get}
use Rattle.std.proofs.lemmas.List.{drop_more}
use Rattle.std.proofs.lemmas.Option.{get_or_from_slice_get, slice_get_within}

pub drop_at : {A : Type 0} (xs : List A) (i : ℕ) (x : A) → slice_get xs i ≡ Some x → drop i xs ≡ x ∷ drop (i + 1) xs
drop_at {A} xs i x there =
    drop_more xs i x (slice_get_within xs i x there)
    ∙ ap (λ (y : A). y ∷ drop (i + 1) xs) (get_or_from_slice_get xs i x x there)

-- nothing stands at a place past the end
pub past : {A : Type 0} (xs : List A) (i : ℕ) → None ≡ slice_get xs i → length xs ≤ i
past [] i none = omega arith
past (x ∷ xs) zero none = absurd (cc none)
past (x ∷ xs) (suc i) none = let le = past xs i none in omega (arith, le)

-- by whether something was found there
pub past_if : {A B : Type 0} (f : A → B) (o : Option A) (xs : List B) (i : ℕ) → is_none o ≡ true → option_map f o ≡ slice_get xs i
    → length xs ≤ i
past_if f None xs i none there = past xs i there
past_if f (Some x) xs i none there = absurd (cc none)

pub within_if : {A B : Type 0} (f : A → B) (o : Option A) (xs : List B) (i : ℕ) → is_none o ≡ false
    → option_map f o ≡ slice_get xs i → i < length xs
within_if f None xs i some there = absurd (cc some)
within_if f (Some x) xs i some there = slice_get_within xs i (f x) (sym there)
