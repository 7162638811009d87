-- The first item that passes a test, in a list where an item is added or changed.
use Rattle.std.proofs.Common.{◌≡◌, ℕ, zero, suc, ◌+◌, ◌<◌, List, [], ◌∷◌, ◌++◌, length, get_or, set, not, refl, sym, ◌∙◌, ap, arith, add-one}
use Rattle.std.specs.Prelude.{Bool, true, false, cond, if◌then◌else◌, Option, Some, None, option_map, is_some, find, position, nat_lt, slice_get}
use Rattle.std.specs.List.{position_or_len}
use Rattle.std.proofs.lemmas.Bool.Decides.{nat_tests}
use Rattle.sim_crowd.specs.Items.{item_of}

module _ {X : Type 0} (p : X → Bool) where
  cons_at : (n : ℕ) (x : X) (xs : List X) (b : Bool)
      → cond (nat_lt (cond (not b) (1 + n) 0) (suc (length xs))) (Some (cond (not b) (1 + n) 0)) None
      ≡ cond b (Some 0) (option_map (λ i. i + 1) (cond (nat_lt n (length xs)) (Some n) None))
  cons_at n x xs true = grind (arith, nat_tests)
  cons_at n x xs false = grind (arith, nat_tests)

  pub position-cons : (x : X) (xs : List X)
      → position p (x ∷ xs) ≡ (if p x then Some 0 else option_map (λ i. i + 1) (position p xs))
  position-cons x xs = cons_at (position_or_len p xs) x xs (p x)

  pushed_by : (x y : X) (ys : List X) (b : Bool) (o r : Option ℕ) → r ≡ cond (is_some o) o (if p x then Some (length ys) else None)
      → cond b (Some 0) (option_map (λ i. i + 1) r)
      ≡ cond (is_some (cond b (Some 0) (option_map (λ i. i + 1) o))) (cond b (Some 0) (option_map (λ i. i + 1) o))
      (if p x then Some (suc (length ys)) else None)
  pushed_by x y ys true o r e = refl
  pushed_by x y ys false None r e = grind (arith, nat_tests)
  pushed_by x y ys false (Some i) r e = grind (arith, nat_tests)

  -- one more item
  pub position-push : (x : X) (xs : List X)
      → position p (xs ++ x ∷ []) ≡ cond (is_some (position p xs)) (position p xs) (if p x then Some (length xs) else None)
  position-push x [] = position-cons x []
  position-push x (y ∷ ys) =
      rw (position-cons y (ys ++ x ∷ []), position-cons y ys)
      (pushed_by x y ys (p y) (position p ys) (position p (ys ++ x ∷ [])) (position-push x ys))

  -- an item in the place of one that the test can't tell from it
  pub position-set : (i : ℕ) (x y : X) (xs : List X) → x ≡ get_or xs i x → p y ≡ p x → position p (set xs i y) ≡ position p xs
  position-set i x y [] e same = refl
  position-set zero x y (z ∷ zs) e same =
      position-cons y zs ∙ ap (λ b. cond b (Some 0) (option_map (λ i. i + 1) (position p zs))) (same ∙ ap p e)
      ∙ sym (position-cons z zs)
  position-set (suc i) x y (z ∷ zs) e same =
      position-cons z (set zs i y) ∙ ap (λ o. cond (p z) (Some 0) (option_map (λ i. i + 1) o)) (position-set i x y zs e same)
      ∙ sym (position-cons z zs)

  get_next : (x : X) (xs : List X) (b : Bool) (o : Option ℕ) (r : Option X) → item_of o xs ≡ r
      → item_of (cond b (Some 0) (option_map (λ i. i + 1) o)) (x ∷ xs) ≡ cond b (Some x) r
  get_next x xs true o r e = refl
  get_next x xs false None r e = e
  get_next x xs false (Some i) r e = rw (add-one) e

  -- the item at that place
  pub item-position : (xs : List X) → item_of (position p xs) xs ≡ find p xs
  item-position [] = refl
  item-position (x ∷ xs) =
      ap (λ o. item_of o (x ∷ xs)) (position-cons x xs) ∙ get_next x xs (p x) (position p xs) (find p xs) (item-position xs)

  still_there : (o : Option ℕ) → cond (is_some o) o None ≡ o
  still_there None = refl
  still_there (Some i) = refl

  -- one more item, where the test is true of it alone if it is
  pub position-new : (x : X) (xs : List X) (same : Bool) → p x ≡ same → (same ≡ true → position p xs ≡ None)
      → position p (xs ++ x ∷ []) ≡ (if same then Some (length xs) else position p xs)
  position-new x xs true e none = position-push x xs ∙ rw (e, none refl) refl
  position-new x xs false e none = position-push x xs ∙ rw e (still_there (position p xs))

  some_next : (b : Bool) (x : X) (r : Option X) (o : Option ℕ) → is_some r ≡ is_some o
      → is_some (cond b (Some x) r) ≡ is_some (cond b (Some 0) (option_map (λ i. i + 1) o))
  some_next true x r o e = refl
  some_next false x r None e = e
  some_next false x r (Some i) e = e

  -- there is an item if it has a place
  pub some-position : (xs : List X) → is_some (find p xs) ≡ is_some (position p xs)
  some-position [] = refl
  some-position (x ∷ xs) = some_next (p x) x (find p xs) (position p xs) (some-position xs) ∙ ap is_some (sym (position-cons x xs))

-- an item by its place
pub get-some : {X : Type 0} (i : ℕ) (x : X) (xs : List X) → i < length xs → x ≡ get_or xs i x → slice_get xs i ≡ Some x
get-some i x [] lt e = absurd (omega arith)
get-some zero x (y ∷ ys) lt e = ap (λ z. Some z) (sym e)
get-some (suc i) x (y ∷ ys) lt e = get-some i x ys (omega arith) e
