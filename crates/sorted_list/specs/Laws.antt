-- The laws of lists in order.
use Rattle.std.proofs.Common.{◌≡◌, ℕ, zero, suc, ◌+◌, ◌<◌, ◌≤◌, List, [], ◌∷◌, length, get_or, set, refl, sym, ◌∙◌, ap, arith, add-one}
use Rattle.std.specs.Prelude.{nat_lt, ◌==◌, Some, None, Bool, true, false, cond, if◌then◌else◌}
use Rattle.std.specs.List.{insert, remove}
use Rattle.std.proofs.lemmas.Bool.Decides.{nat_tests}
use Rattle.sorted_list.specs.Ordered.{place, put, add, without, at, ordered, AllOver, Rising}

module _ {X : Type 0} (key : X → ℕ) where
  pub over_more : (j k : ℕ) (xs : List X) → j ≤ k → AllOver key k xs → AllOver key j xs
  over_more j k [] le h = tt
  over_more j k (x ∷ xs) le h = (omega (arith, h.0), over_more j k xs le h.1)

  pub over_at : (k i : ℕ) (x : X) (xs : List X) → AllOver key k xs → i < length xs → x ≡ get_or xs i x → k < key x
  over_at k i x [] h lt e = absurd (omega arith)
  over_at k zero x (y ∷ ys) h lt e = let same : key x ≡ key y = ap key e in omega (arith, h.0)
  over_at k (suc i) x (y ∷ ys) h lt e = over_at k i x ys h.1 (omega arith) e

  pub over-put : (j : ℕ) (x : X) (xs : List X) → j < key x → AllOver key j xs → AllOver key j (put key x xs)
  over-put j x [] lt h = (lt, tt)
  over-put j x (y ∷ ys) lt h =
      elim (nat_lt (key y) (key x)) as
      (λ b. AllOver key j (cond b (y ∷ put key x ys) (cond (key y == key x) (x ∷ ys) (x ∷ y ∷ ys)))) [
        | true ↦ (h.0, over-put j x ys lt h.1)
        | false ↦ elim (key y == key x) as (λ b. AllOver key j (cond b (x ∷ ys) (x ∷ y ∷ ys)))
            [ true ↦ (lt, h.1) | false ↦ (lt, h) ]
      ]

  pub over-add : (j : ℕ) (x : X) (xs : List X) → j < key x → AllOver key j xs → AllOver key j (add key x xs)
  over-add j x [] lt h = (lt, tt)
  over-add j x (y ∷ ys) lt h = elim (nat_lt (key y) (key x)) as (λ b. AllOver key j (cond b (y ∷ add key x ys) (x ∷ y ∷ ys))) [
    | true ↦ (h.0, over-add j x ys lt h.1)
    | false ↦ (lt, h)
  ]

  pub over-without : (j k : ℕ) (xs : List X) → AllOver key j xs → AllOver key j (without key k xs)
  over-without j k [] h = tt
  over-without j k (y ∷ ys) h =
      elim (key y == k) as (λ b. AllOver key j (cond b ys (y ∷ without key k ys)))
      [ true ↦ h.1 | false ↦ (h.0, over-without j k ys h.1) ]

  rising_put_at : (x y : X) (ys : List X) (b c : Bool) → nat_lt (key y) (key x) ≡ b → (key y == key x) ≡ c → AllOver key (key y) ys
      → Rising key ys → Rising key (put key x ys)
      → Rising key (cond b (y ∷ put key x ys) (cond c (x ∷ ys) (x ∷ y ∷ ys)))
  rising_put_at x y ys true c e f over h ih =
      let lt : key y < key x = grind (arith, nat_tests) in (over-put (key y) x ys lt over, ih)
  rising_put_at x y ys false true e f over h ih =
      let same : key x ≤ key y = grind (arith, nat_tests) in (over_more (key x) (key y) ys same over, h)
  rising_put_at x y ys false false e f over h ih =
      let lt : key x < key y = grind (arith, nat_tests) in
      let le : key x ≤ key y = omega arith in
      ((lt, over_more (key x) (key y) ys le over), (over, h))

  -- order is kept
  pub rising-put : (x : X) (xs : List X) → Rising key xs → Rising key (put key x xs)
  rising-put x [] h = (tt, tt)
  rising-put x (y ∷ ys) h = rising_put_at x y ys _ _ refl refl h.0 h.1 (rising-put x ys h.1)

  pub rising-without : (k : ℕ) (xs : List X) → Rising key xs → Rising key (without key k xs)
  rising-without k [] h = tt
  rising-without k (y ∷ ys) h = elim (key y == k) as (λ b. Rising key (cond b ys (y ∷ without key k ys))) [
    | true ↦ h.1
    | false ↦ (over-without (key y) k ys h.0, rising-without k ys h.1)
  ]

  -- two additions commute
  pub add-add : (x y : X) (zs : List X) → (key x ≡ key y → ⊥) → add key x (add key y zs) ≡ add key y (add key x zs)
  add-add x y [] apart = grind (arith, nat_tests)
  add-add x y (z ∷ zs) apart = let ih = add-add x y zs apart in grind (arith, nat_tests)

  -- what is not there
  pub without_over : (k : ℕ) (xs : List X) → AllOver key k xs → without key k xs ≡ xs
  without_over k [] h = refl
  without_over k (y ∷ ys) h = let ih = without_over k ys h.1 in let lt : k < key y = h.0 in grind (arith, nat_tests)

  pub at_over : (k : ℕ) (xs : List X) → AllOver key k xs → at key k xs ≡ None
  at_over k [] h = refl
  at_over k (y ∷ ys) h = let ih = at_over k ys h.1 in let lt : k < key y = h.0 in grind (arith, nat_tests)

  pub at_key : (k : ℕ) (x : X) (xs : List X) → at key k xs ≡ Some x → key x ≡ k
  at_key k x [] h = absurd (cc)
  at_key k x (y ∷ ys) h = let ih = at_key k x ys in grind (arith, nat_tests)

  -- places
  pub place_le : (k : ℕ) (xs : List X) → place key k xs ≤ length xs
  place_le k [] = omega arith
  place_le k (y ∷ ys) = let ih = place_le k ys in grind (arith, nat_tests)

  pub place_above : (k i : ℕ) (x : X) (xs : List X) → Rising key xs → i < length xs → x ≡ get_or xs i x → key x < k
      → i < place key k xs
  place_above k i x [] h lt e less = absurd (omega arith)
  place_above k zero x (y ∷ ys) h lt e less = let same : key x ≡ key y = ap key e in grind (arith, nat_tests)
  place_above k (suc i) x (y ∷ ys) h lt e less =
      let ih = place_above k i x ys h.1 (omega arith) e less in
      let over : key y < key x = over_at (key y) i x ys h.0 (omega arith) e in
      grind (arith, nat_tests)

  pub place_below : (k i : ℕ) (x : X) (xs : List X) → i < length xs → x ≡ get_or xs i x → k ≤ key x → place key k xs ≤ i
  place_below k i x [] lt e le = absurd (omega arith)
  place_below k zero x (y ∷ ys) lt e le = let same : key x ≡ key y = ap key e in grind (arith, nat_tests)
  place_below k (suc i) x (y ∷ ys) lt e le = let ih = place_below k i x ys (omega arith) e le in grind (arith, nat_tests)

  -- the element at its place
  pub at_place : (k i : ℕ) (x : X) (xs : List X) → i ≡ place key k xs → i < length xs → x ≡ get_or xs i x → key x ≡ k
      → at key k xs ≡ Some x
  at_place k i x [] p lt e same = absurd (omega arith)
  at_place k zero x (y ∷ ys) p lt e same = let eq : key x ≡ key y = ap key e in grind (arith, nat_tests)
  at_place k (suc i) x (y ∷ ys) p lt e same = let ih = at_place k i x ys in grind (arith, nat_tests)

  pub at_absent : (k i : ℕ) (x : X) (xs : List X) → Rising key xs → i ≡ place key k xs → i < length xs → x ≡ get_or xs i x
      → (key x ≡ k → ⊥) → at key k xs ≡ None
  at_absent k i x [] h p lt e other = refl
  at_absent k zero x (y ∷ ys) h p lt e other =
      let eq : key x ≡ key y = ap key e in
      let under : k < key y = grind (arith, nat_tests) in
      at_over k (y ∷ ys) (under, over_more k (key y) ys (omega arith) h.0)
  at_absent k (suc i) x (y ∷ ys) h p lt e other = let ih = at_absent k i x ys h.1 in grind (arith, nat_tests)

  pub at_end : (k : ℕ) (xs : List X) → place key k xs ≡ length xs → at key k xs ≡ None
  at_end k [] p = refl
  at_end k (y ∷ ys) p = let ih = at_end k ys in grind (arith, nat_tests)

  pub without_absent : (k : ℕ) (xs : List X) → at key k xs ≡ None → without key k xs ≡ xs
  without_absent k [] h = refl
  without_absent k (y ∷ ys) h = let ih = without_absent k ys in grind (arith, nat_tests)

  -- what a write, an insertion and a removal at the place make
  pub put_set : (k i : ℕ) (x z : X) (xs : List X) → i ≡ place key k xs → i < length xs → x ≡ get_or xs i x → key x ≡ k → key z ≡ k
      → set xs i z ≡ put key z xs
  put_set k i x z [] p lt e same new = absurd (omega arith)
  put_set k zero x z (y ∷ ys) p lt e same new = let eq : key x ≡ key y = ap key e in grind (arith, nat_tests)
  put_set k (suc i) x z (y ∷ ys) p lt e same new = let ih = put_set k i x z ys in grind (arith, nat_tests)

  add_insert_at : (z y : X) (ys : List X) (b : Bool) → nat_lt (key y) (key z) ≡ b
      → insert ys (place key (key z) ys) z ≡ add key z ys
      → insert (y ∷ ys) (cond b (place key (key z) ys + 1) 0) z ≡ cond b (y ∷ add key z ys) (z ∷ y ∷ ys)
  add_insert_at z y ys true e ih = rw (add-one) (ap (λ zs. y ∷ zs) ih)
  add_insert_at z y ys false e ih = refl

  pub add_insert : (z : X) (xs : List X) → insert xs (place key (key z) xs) z ≡ add key z xs
  add_insert z [] = refl
  add_insert z (y ∷ ys) = add_insert_at z y ys (nat_lt (key y) (key z)) refl (add_insert z ys)

  pub put_add : (z : X) (xs : List X) → at key (key z) xs ≡ None → put key z xs ≡ add key z xs
  put_add z [] h = refl
  put_add z (y ∷ ys) h = let ih = put_add z ys in grind (arith, nat_tests)

  pub remove_without : (k i : ℕ) (x : X) (xs : List X) → i ≡ place key k xs → i < length xs → x ≡ get_or xs i x → key x ≡ k
      → remove xs i ≡ without key k xs
  remove_without k i x [] p lt e same = absurd (omega arith)
  remove_without k zero x (y ∷ ys) p lt e same = let eq : key x ≡ key y = ap key e in grind (arith, nat_tests)
  remove_without k (suc i) x (y ∷ ys) p lt e same = let ih = remove_without k i x ys in grind (arith, nat_tests)

  remove_at_by : (k : ℕ) (e y : X) (ys : List X) (b : Bool) → nat_lt (key y) k ≡ b → (c : Bool) → (key y == k) ≡ c
      → Rising key (y ∷ ys) → cond c (Some y) (at key k ys) ≡ Some e
      → (at key k ys ≡ Some e → (place key k ys < length ys) × (remove ys (place key k ys) ≡ without key k ys))
      → (cond b (place key k ys + 1) 0 < length (y ∷ ys))
      × (remove (y ∷ ys) (cond b (place key k ys + 1) 0) ≡ cond c ys (y ∷ without key k ys))
  remove_at_by k e y ys true l true f h a ih = absurd (grind (arith, nat_tests))
  remove_at_by k e y ys true l false f h a ih = let r = ih a in (omega (arith, r.0), rw (add-one) (ap (λ zs. y ∷ zs) r.1))
  remove_at_by k e y ys false l true f h a ih = (omega arith, refl)
  remove_at_by k e y ys false l false f h a ih =
      let under : k < key y = grind (arith, nat_tests) in
      let none = at_over k ys (over_more k (key y) ys (omega arith) h.0) in
      absurd (cc)

  pub remove_at : (k : ℕ) (e : X) (xs : List X) → Rising key xs → at key k xs ≡ Some e
      → (place key k xs < length xs) × (remove xs (place key k xs) ≡ without key k xs)
  remove_at k e [] h a = absurd (cc)
  remove_at k e (y ∷ ys) h a = remove_at_by k e y ys (nat_lt (key y) k) refl (key y == k) refl h a (remove_at k e ys h.1)

  -- a look-up after a write
  pub at-put : (k : ℕ) (x : X) (xs : List X) → Rising key xs
      → at key k (put key x xs) ≡ (if key x == k then Some x else at key k xs)
  at-put k x [] h = refl
  at-put k x (y ∷ ys) h = let ih = at-put k x ys h.1 in grind (arith, nat_tests)

  at_without_by : (j k : ℕ) (y : X) (ys : List X) (b : Bool) → (key y == j) ≡ b → Rising key (y ∷ ys)
      → at key k (without key j ys) ≡ (if j == k then None else at key k ys)
      → at key k (cond b ys (y ∷ without key j ys)) ≡ (if j == k then None else at key k (y ∷ ys))
  at_without_by j k y ys true e h ih = let o = at_over (key y) ys h.0 in grind (arith, nat_tests)
  at_without_by j k y ys false e h ih = grind (arith, nat_tests)

  pub at-without : (j k : ℕ) (xs : List X) → Rising key xs → at key k (without key j xs) ≡ (if j == k then None else at key k xs)
  at-without j k [] h = grind (arith, nat_tests)
  at-without j k (y ∷ ys) h = at_without_by j k y ys (key y == j) refl h (at-without j k ys h.1)

-- Two orders of one list: k is the key by which it is kept, q that of the second list
module _ {X : Type 0} (k q : X → ℕ) (apart : (x y : X) → q x ≡ q y → k x ≡ k y) where
  ordered_put_by : (x y : X) (ys : List X) (b : Bool) → nat_lt (k y) (k x) ≡ b → (c : Bool) → (k y == k x) ≡ c → Rising k (y ∷ ys)
      → ordered q (put k x ys) ≡ add q x (ordered q (without k (k x) ys))
      → ordered q (cond b (y ∷ put k x ys) (cond c (x ∷ ys) (x ∷ y ∷ ys)))
      ≡ add q x (ordered q (cond c ys (y ∷ without k (k x) ys)))
  ordered_put_by x y ys true e true f h ih = absurd (grind (arith, nat_tests))
  ordered_put_by x y ys true e false f h ih =
      let other : q y ≡ q x → ⊥ = λ s. let t = apart y x s in grind (arith, nat_tests) in
      ap (add q y) ih ∙ add-add q y x (ordered q (without k (k x) ys)) other
  ordered_put_by x y ys false e true f h ih = refl
  ordered_put_by x y ys false e false f h ih =
      let under : k x ≤ k y = grind (arith, nat_tests) in
      ap (λ zs. add q x (add q y (ordered q zs))) (sym (without_over k (k x) ys (over_more k (k x) (k y) ys under h.0)))

  pub ordered-put : (x : X) (xs : List X) → Rising k xs → ordered q (put k x xs) ≡ add q x (ordered q (without k (k x) xs))
  ordered-put x [] h = refl
  ordered-put x (y ∷ ys) h = ordered_put_by x y ys (nat_lt (k y) (k x)) refl (k y == k x) refl h (ordered-put x ys h.1)

  ordered_found_by : (r : ℕ) (x y : X) (ys : List X) (b : Bool) → (k y == r) ≡ b → cond b (Some y) (at k r ys) ≡ Some x
      → (at k r ys ≡ Some x → ordered q ys ≡ add q x (ordered q (without k r ys)))
      → add q y (ordered q ys) ≡ add q x (ordered q (cond b ys (y ∷ without k r ys)))
  ordered_found_by r x y ys true e h ih = let s : y ≡ x = cc in ap (λ z. add q z (ordered q ys)) s
  ordered_found_by r x y ys false e h ih =
      let own : k x ≡ r = at_key k r x ys h in
      let other : q y ≡ q x → ⊥ = λ s. let t = apart y x s in grind (arith, nat_tests) in
      ap (add q y) (ih h) ∙ add-add q y x (ordered q (without k r ys)) other

  pub ordered_found : (r : ℕ) (x : X) (xs : List X) → at k r xs ≡ Some x → ordered q xs ≡ add q x (ordered q (without k r xs))
  ordered_found r x [] h = absurd (cc)
  ordered_found r x (y ∷ ys) h = ordered_found_by r x y ys (k y == r) refl h (ordered_found r x ys)

  -- those that meet a test, which stand before the others in both orders
  pub over-ordered : (j : ℕ) (xs : List X) → AllOver q j xs → AllOver q j (ordered q xs)
  over-ordered j [] h = tt
  over-ordered j (x ∷ xs) h = over-add q j x (ordered q xs) h.0 (over-ordered j xs h.1)

pub get_or_self : {X : Type 0} (i : ℕ) (d : X) (xs : List X) → i < length xs → get_or xs i d ≡ get_or xs i (get_or xs i d)
get_or_self i d [] lt = absurd (omega arith)
get_or_self zero d (x ∷ xs) lt = refl
get_or_self (suc i) d (x ∷ xs) lt = get_or_self i d xs (omega arith)
