-- A list kept in the order of the key k, whose elements have each a name q of their own.
use Rattle.std.proofs.Common.{◌≡◌, ℕ, ◌<◌, ◌≤◌, List, [], ◌∷◌, map, refl, sym, ◌∙◌, ap, subst, arith}
use Rattle.std.specs.Prelude.{nat_lt, ◌==◌, Some, None, Bool, true, false, cond, if◌then◌else◌, option_map}
use Rattle.std.proofs.lemmas.Bool.Decides.{nat_tests}
use Rattle.sorted_list.specs.Ordered.{put, add, without, at, ordered, AllOver, Rising, Every, Distinct}
use Rattle.sorted_list.specs.Laws.{add-add, at_key, over-add, over_more, without_over, at_over}

module _ {X : Type 0} (P : X → Type 0) (key : X → ℕ) where
  pub every-add : (x : X) (xs : List X) → P x → Every P xs → Every P (add key x xs)
  every-add x [] p h = (p, tt)
  every-add x (y ∷ ys) p h =
      elim (nat_lt (key y) (key x)) as (λ b. Every P (cond b (y ∷ add key x ys) (x ∷ y ∷ ys)))
      [ true ↦ (h.0, every-add x ys p h.1) | false ↦ (p, h) ]

  pub every-without : (k : ℕ) (xs : List X) → Every P xs → Every P (without key k xs)
  every-without k [] h = tt
  every-without k (y ∷ ys) h =
      elim (key y == k) as (λ b. Every P (cond b ys (y ∷ without key k ys))) [ true ↦ h.1 | false ↦ (h.0, every-without k ys h.1) ]

  pub every-ordered : (xs : List X) → Every P xs → Every P (ordered key xs)
  every-ordered [] h = tt
  every-ordered (y ∷ ys) h = every-add y (ordered key ys) h.0 (every-ordered ys h.1)

  every_at_by : (k : ℕ) (x y : X) (ys : List X) (b : Bool) → cond b (Some y) (at key k ys) ≡ Some x → P y
      → (at key k ys ≡ Some x → P x) → P x
  every_at_by k x y ys true e p ih = let s : y ≡ x = cc in subst P s p
  every_at_by k x y ys false e p ih = ih e

  pub every_at : (k : ℕ) (x : X) (xs : List X) → at key k xs ≡ Some x → Every P xs → P x
  every_at k x [] e h = absurd (cc)
  every_at k x (y ∷ ys) e h = every_at_by k x y ys (key y == k) e h.0 (λ g. every_at k x ys g h.1)

module _ {X : Type 0} (key : X → ℕ) where
  -- where an element was added
  pub at-add : (k : ℕ) (x : X) (xs : List X) → at key (key x) xs ≡ None → (q : X → ℕ)
      → at key k (add q x xs) ≡ (if key x == k then Some x else at key k xs)
  at-add k x [] h q = refl
  at-add k x (y ∷ ys) h q = let ih = at-add k x ys in grind (arith, nat_tests)

module _ {X : Type 0} (k q : X → ℕ) where
  over_found : (j r : ℕ) (e : X) (xs : List X) → AllOver k j xs → at q r xs ≡ Some e → j < k e
  over_found j r e [] h p = absurd (cc)
  over_found j r e (y ∷ ys) h p = let ih = over_found j r e ys h.1 in let lt : j < k y = h.0 in grind (arith, nat_tests)

  -- the element with a name stands once in the list by keys
  pub at_named : (r : ℕ) (e : X) (xs : List X) → Rising k xs → at q r xs ≡ Some e → at k (k e) xs ≡ Some e
  at_named r e [] h p = absurd (cc)
  at_named r e (y ∷ ys) h p = let ih = at_named r e ys h.1 in let over = over_found (k y) r e ys h.0 in grind (arith, nat_tests)

  pub without_named : (r : ℕ) (e : X) (xs : List X) → Rising k xs → at q r xs ≡ Some e → without k (k e) xs ≡ without q r xs
  without_named r e [] h p = refl
  without_named r e (y ∷ ys) h p =
      let ih = without_named r e ys h.1 in let over = over_found (k y) r e ys h.0 in grind (arith, nat_tests)

  over_all : (r : ℕ) (x : X) (xs : List X) → at q r (x ∷ xs) ≡ None → at q r xs ≡ None
  over_all r x xs h = grind (arith, nat_tests)

  -- the second order does not see where the first one puts
  ordered_add_by : (x y : X) (ys : List X) (b : Bool) → at q (q x) (y ∷ ys) ≡ None
      → (at q (q x) ys ≡ None → ordered q (add k x ys) ≡ add q x (ordered q ys))
      → ordered q (cond b (y ∷ add k x ys) (x ∷ y ∷ ys)) ≡ add q x (add q y (ordered q ys))
  ordered_add_by x y ys true h ih =
      let other : q y ≡ q x → ⊥ = λ s. grind (arith, nat_tests) in
      ap (add q y) (ih (over_all (q x) y ys h)) ∙ add-add q y x (ordered q ys) other
  ordered_add_by x y ys false h ih = refl

  pub ordered-add : (x : X) (xs : List X) → at q (q x) xs ≡ None → ordered q (add k x xs) ≡ add q x (ordered q xs)
  ordered-add x [] h = refl
  ordered-add x (y ∷ ys) h = ordered_add_by x y ys (nat_lt (k y) (k x)) h (ordered-add x ys)

  ordered_taken_by : (r : ℕ) (e y : X) (ys : List X) (b : Bool) → (q y == r) ≡ b → cond b (Some y) (at q r ys) ≡ Some e
      → (at q r ys ≡ Some e → ordered q ys ≡ add q e (ordered q (without q r ys)))
      → add q y (ordered q ys) ≡ add q e (ordered q (cond b ys (y ∷ without q r ys)))
  ordered_taken_by r e y ys true t h ih = let s : y ≡ e = cc in ap (λ z. add q z (ordered q ys)) s
  ordered_taken_by r e y ys false t h ih =
      let own : q e ≡ r = at_key q r e ys h in
      let other : q y ≡ q e → ⊥ = λ s. grind (arith, nat_tests) in
      ap (add q y) (ih h) ∙ add-add q y e (ordered q (without q r ys)) other

  pub ordered_taken : (r : ℕ) (e : X) (xs : List X) → Distinct q xs → at q r xs ≡ Some e
      → ordered q xs ≡ add q e (ordered q (without q r xs))
  ordered_taken r e [] d h = absurd (cc)
  ordered_taken r e (y ∷ ys) d h = ordered_taken_by r e y ys (q y == r) refl h (ordered_taken r e ys d.1)

module _ {X : Type 0} (q : X → ℕ) where
  pub at-ordered : (r : ℕ) (xs : List X) → Distinct q xs → at q r (ordered q xs) ≡ at q r xs
  at-ordered r [] d = refl
  at-ordered r (y ∷ ys) d =
      let ih = at-ordered r ys d.1 in
      let own = at-ordered (q y) ys d.1 in
      at-add q r y (ordered q ys) (own ∙ d.0) q ∙ ap (λ o. if q y == r then Some y else o) ih

  pub without-add : (r : ℕ) (e : X) (zs : List X) → q e ≡ r → without q r (add q e zs) ≡ zs
  without-add r e [] s = grind (arith, nat_tests)
  without-add r e (y ∷ ys) s = let ih = without-add r e ys s in grind (arith, nat_tests)

  rising_add_by : (x y : X) (ys : List X) (b : Bool) → nat_lt (q y) (q x) ≡ b → at q (q x) (y ∷ ys) ≡ None → Rising q (y ∷ ys)
      → (at q (q x) ys ≡ None → Rising q ys → Rising q (add q x ys)) → Rising q (cond b (y ∷ add q x ys) (x ∷ y ∷ ys))
  rising_add_by x y ys true e h r ih =
      let lt : q y < q x = grind (arith, nat_tests) in
      let rest : at q (q x) ys ≡ None = grind (arith, nat_tests) in
      (over-add q (q y) x ys lt r.0, ih rest r.1)
  rising_add_by x y ys false e h r ih =
      let lt : q x < q y = grind (arith, nat_tests) in
      ((lt, over_more q (q x) (q y) ys (omega arith) r.0), r)

  pub rising-add : (x : X) (xs : List X) → at q (q x) xs ≡ None → Rising q xs → Rising q (add q x xs)
  rising-add x [] h r = (tt, tt)
  rising-add x (y ∷ ys) h r = rising_add_by x y ys (nat_lt (q y) (q x)) refl h r (rising-add x ys)

  pub rising-ordered : (xs : List X) → Distinct q xs → Rising q (ordered q xs)
  rising-ordered [] d = tt
  rising-ordered (y ∷ ys) d = rising-add y (ordered q ys) (at-ordered (q y) ys d.1 ∙ d.0) (rising-ordered ys d.1)

  add_over : (x : X) (xs : List X) → AllOver q (q x) xs → add q x xs ≡ x ∷ xs
  add_over x [] h = refl
  add_over x (y ∷ ys) h = let lt : q x < q y = h.0 in grind (arith, nat_tests)

  put_is_add_by : (x y : X) (ys : List X) (b : Bool) → nat_lt (q y) (q x) ≡ b → (c : Bool) → (q y == q x) ≡ c → Rising q (y ∷ ys)
      → put q x ys ≡ add q x (without q (q x) ys)
      → cond b (y ∷ put q x ys) (cond c (x ∷ ys) (x ∷ y ∷ ys)) ≡ add q x (cond c ys (y ∷ without q (q x) ys))
  put_is_add_by x y ys true e true f r ih = absurd (grind (arith, nat_tests))
  put_is_add_by x y ys true e false f r ih = grind (arith, nat_tests)
  put_is_add_by x y ys false e true f r ih =
      let le : q x ≤ q y = grind (arith, nat_tests) in sym (add_over x ys (over_more q (q x) (q y) ys le r.0))
  put_is_add_by x y ys false e false f r ih =
      let le : q x ≤ q y = grind (arith, nat_tests) in
      let same = without_over q (q x) ys (over_more q (q x) (q y) ys le r.0) in
      grind (arith, nat_tests)

  pub put_is_add : (x : X) (xs : List X) → Rising q xs → put q x xs ≡ add q x (without q (q x) xs)
  put_is_add x [] r = refl
  put_is_add x (y ∷ ys) r = put_is_add_by x y ys (nat_lt (q y) (q x)) refl (q y == q x) refl r (put_is_add x ys r.1)

  at_without_by : (j k : ℕ) (y : X) (ys : List X) (b : Bool) → (q y == j) ≡ b → Distinct q (y ∷ ys)
      → at q k (without q j ys) ≡ (if j == k then None else at q k ys)
      → at q k (cond b ys (y ∷ without q j ys)) ≡ (if j == k then None else at q k (y ∷ ys))
  at_without_by j k y ys true e d ih = let o = d.0 in grind (arith, nat_tests)
  at_without_by j k y ys false e d ih = grind (arith, nat_tests)

  pub at-without_distinct : (j k : ℕ) (xs : List X) → Distinct q xs → at q k (without q j xs) ≡ (if j == k then None else at q k xs)
  at-without_distinct j k [] d = grind (arith, nat_tests)
  at-without_distinct j k (y ∷ ys) d = at_without_by j k y ys (q y == j) refl d (at-without_distinct j k ys d.1)

  distinct_add_by : (k : X → ℕ) (x y : X) (ys : List X) (b : Bool) → at q (q x) (y ∷ ys) ≡ None → Distinct q (y ∷ ys)
      → (at q (q x) ys ≡ None → Distinct q ys → Distinct q (add k x ys)) → Distinct q (cond b (y ∷ add k x ys) (x ∷ y ∷ ys))
  distinct_add_by k x y ys true h d ih =
      let rest : at q (q x) ys ≡ None = grind (arith, nat_tests) in
      let there = at-add q (q y) x ys rest k in
      let o = d.0 in
      let gone : at q (q y) (add k x ys) ≡ None = grind (arith, nat_tests) in
      (gone, ih rest d.1)
  distinct_add_by k x y ys false h d ih = (h, d)

  pub distinct-add : (k : X → ℕ) (x : X) (xs : List X) → at q (q x) xs ≡ None → Distinct q xs → Distinct q (add k x xs)
  distinct-add k x [] h d = (refl, tt)
  distinct-add k x (y ∷ ys) h d = distinct_add_by k x y ys (nat_lt (k y) (k x)) h d (distinct-add k x ys)

  distinct_without_by : (r : ℕ) (y : X) (ys : List X) (b : Bool) → Distinct q (y ∷ ys) → Distinct q (without q r ys)
      → Distinct q (cond b ys (y ∷ without q r ys))
  distinct_without_by r y ys true d ih = d.1
  distinct_without_by r y ys false d ih =
      let w = at-without_distinct r (q y) ys d.1 in
      let o = d.0 in
      let gone : at q (q y) (without q r ys) ≡ None = grind (arith, nat_tests) in
      (gone, ih)

  pub distinct-without : (r : ℕ) (xs : List X) → Distinct q xs → Distinct q (without q r xs)
  distinct-without r [] d = tt
  distinct-without r (y ∷ ys) d = distinct_without_by r y ys (q y == r) d (distinct-without r ys d.1)

-- the order does not change where the elements change but their keys stay
module _ {X Y : Type 0} (f : Y → X) (q : X → ℕ) where
  pub map-add : (y : Y) (ys : List Y) → map f (add (λ z. q (f z)) y ys) ≡ add q (f y) (map f ys)
  map-add y [] = refl
  map-add y (z ∷ zs) = let ih = map-add y zs in grind (arith, nat_tests)

  pub map-without : (r : ℕ) (ys : List Y) → map f (without (λ z. q (f z)) r ys) ≡ without q r (map f ys)
  map-without r [] = refl
  map-without r (z ∷ zs) = let ih = map-without r zs in grind (arith, nat_tests)

  at_map_by : (r : ℕ) (z : Y) (zs : List Y) (b : Bool) → at q r (map f zs) ≡ option_map f (at (λ w. q (f w)) r zs)
      → cond b (Some (f z)) (at q r (map f zs)) ≡ option_map f (cond b (Some z) (at (λ w. q (f w)) r zs))
  at_map_by r z zs true ih = refl
  at_map_by r z zs false ih = ih

  pub at-map : (r : ℕ) (ys : List Y) → at q r (map f ys) ≡ option_map f (at (λ z. q (f z)) r ys)
  at-map r [] = refl
  at-map r (z ∷ zs) = at_map_by r z zs (q (f z) == r) (at-map r zs)

  over-map : (j : ℕ) (ys : List Y) → AllOver (λ z. q (f z)) j ys → AllOver q j (map f ys)
  over-map j [] h = tt
  over-map j (z ∷ zs) h = (h.0, over-map j zs h.1)

  pub rising-map : (ys : List Y) → Rising (λ z. q (f z)) ys → Rising q (map f ys)
  rising-map [] h = tt
  rising-map (z ∷ zs) h = (over-map (q (f z)) zs h.0, rising-map zs h.1)

module _ {X : Type 0} (key : X → ℕ) where
  pub at_added : (x : X) (xs : List X) → at key (key x) (add key x xs) ≡ Some x
  at_added x [] = grind (arith, nat_tests)
  at_added x (y ∷ ys) = let ih = at_added x ys in grind (arith, nat_tests)

  pub rising_distinct : (xs : List X) → Rising key xs → Distinct key xs
  rising_distinct [] h = tt
  rising_distinct (y ∷ ys) h = (at_over key (key y) ys h.0, rising_distinct ys h.1)

-- a removal by the key k, seen by another key
module _ {X : Type 0} (k q : X → ℕ) where
  pub none_without : (j r : ℕ) (xs : List X) → at q j xs ≡ None → at q j (without k r xs) ≡ None
  none_without j r [] h = refl
  none_without j r (y ∷ ys) h = let ih = none_without j r ys in grind (arith, nat_tests)

  pub distinct_other : (r : ℕ) (xs : List X) → Distinct q xs → Distinct q (without k r xs)
  distinct_other r [] d = tt
  distinct_other r (y ∷ ys) d =
      elim (k y == r) as (λ b. Distinct q (cond b ys (y ∷ without k r ys)))
      [ true ↦ d.1 | false ↦ (none_without (q y) r ys d.0, distinct_other r ys d.1) ]

  pub not_member : (j r : ℕ) (e : X) (xs : List X) → at k r xs ≡ Some e → at q j xs ≡ None → q e ≡ j → ⊥
  not_member j r e [] h n s = absurd (cc)
  not_member j r e (y ∷ ys) h n s = let ih = not_member j r e ys in grind (arith, nat_tests)

  gone_other_by : (r : ℕ) (e y : X) (ys : List X) (b : Bool) → cond b (Some y) (at k r ys) ≡ Some e → Distinct q (y ∷ ys)
      → (at k r ys ≡ Some e → at q (q e) (without k r ys) ≡ None)
      → at q (q e) (cond b ys (y ∷ without k r ys)) ≡ None
  gone_other_by r e y ys true h d ih = let s : y ≡ e = cc in let n = d.0 in subst (λ z. at q (q z) ys ≡ None) s n
  gone_other_by r e y ys false h d ih =
      let n = d.0 in
      let other : q e ≡ q y → ⊥ = not_member (q y) r e ys h n in
      let rest = ih h in
      grind (arith, nat_tests)

  pub gone_other : (r : ℕ) (e : X) (xs : List X) → Distinct q xs → at k r xs ≡ Some e → at q (q e) (without k r xs) ≡ None
  gone_other r e [] d h = refl
  gone_other r e (y ∷ ys) d h = gone_other_by r e y ys (k y == r) h d (gone_other r e ys d.1)

  pub none_add : (j : ℕ) (x : X) (xs : List X) → at q j xs ≡ None → (q x ≡ j → ⊥) → at q j (add k x xs) ≡ None
  none_add j x [] h n = grind (arith, nat_tests)
  none_add j x (y ∷ ys) h n = let ih = none_add j x ys in grind (arith, nat_tests)

  pub distinct_add : (x : X) (xs : List X) → Distinct q xs → at q (q x) xs ≡ None → Distinct q (add k x xs)
  distinct_add x xs d h = distinct-add q k x xs h d

-- two keys, where among those that are ok the second tells apart what the first does
module _ {X : Type 0} (k q : X → ℕ) (ok : X → Type 0) (apart : (x y : X) → ok x → ok y → q x ≡ q y → k x ≡ k y) where
  pub apart_none : (x : X) (xs : List X) → ok x → Every ok xs → at k (k x) xs ≡ None → at q (q x) xs ≡ None
  apart_none x [] o h n = refl
  apart_none x (y ∷ ys) o h n =
      let ih = apart_none x ys o h.1 in
      let far : q y ≡ q x → k y ≡ k x = apart y x h.0 o in
      grind (arith, nat_tests)

  pub apart_distinct : (xs : List X) → Every ok xs → Distinct k xs → Distinct q xs
  apart_distinct [] h d = tt
  apart_distinct (y ∷ ys) h d = (apart_none y ys h.0 h.1 d.0, apart_distinct ys h.1 d.1)

  ordered_left_by : (r : ℕ) (x y : X) (ys : List X) (b : Bool) → (k y == r) ≡ b → Every ok (y ∷ ys)
      → cond b (Some y) (at k r ys) ≡ Some x
      → (at k r ys ≡ Some x → ordered q ys ≡ add q x (ordered q (without k r ys)))
      → add q y (ordered q ys) ≡ add q x (ordered q (cond b ys (y ∷ without k r ys)))
  ordered_left_by r x y ys true e o h ih = let s : y ≡ x = cc in ap (λ z. add q z (ordered q ys)) s
  ordered_left_by r x y ys false e o h ih =
      let own : k x ≡ r = at_key k r x ys h in
      let fine : ok x = every_at ok k r x ys h o.1 in
      let other : q y ≡ q x → ⊥ = λ s. let t = apart y x o.0 fine s in grind (arith, nat_tests) in
      ap (add q y) (ih h) ∙ add-add q y x (ordered q (without k r ys)) other

  pub ordered_left : (r : ℕ) (x : X) (xs : List X) → Every ok xs → at k r xs ≡ Some x
      → ordered q xs ≡ add q x (ordered q (without k r xs))
  ordered_left r x [] o h = absurd (cc)
  ordered_left r x (y ∷ ys) o h = ordered_left_by r x y ys (k y == r) refl o h (ordered_left r x ys o.1)
