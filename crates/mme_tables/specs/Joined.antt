-- Two lists in order, one after the other: what is put into the one, taken out of it or looked up there, and a tick of both.
use Rattle.std.proofs.Common.{◌≡◌, ℕ, ◌-◌, ◌<◌, List, [], ◌∷◌, ◌++◌, Bool, true, false, refl, ◌∙◌, ap, arith}
use Rattle.std.specs.Prelude.{◌==◌, nat_lt, nat_le, cond, Some}
use Rattle.std.proofs.lemmas.Bool.Decides.{nat_tests}
use Rattle.sorted_list.specs.Ordered.{put, without, at, AllOver, Every}
use Rattle.sorted_list.specs.Laws.{without_over}
use Rattle.timer_queue.specs.Countdowns.{Countdown, aged, due_of}

module _ {X : Type 0} (key : X → ℕ) where
  pub put_over : (x : X) (xs : List X) → AllOver key (key x) xs → put key x xs ≡ x ∷ xs
  put_over x [] h = refl
  put_over x (y ∷ ys) h = let lt : key x < key y = h.0 in grind (arith, nat_tests)

  pub put_past : (x y : X) (ys : List X) → key y < key x → put key x (y ∷ ys) ≡ y ∷ put key x ys
  put_past x y ys lt = grind (arith, nat_tests)

  pub put_same : (x y : X) (ys : List X) → key y ≡ key x → put key x (y ∷ ys) ≡ x ∷ ys
  put_same x y ys e = grind (arith, nat_tests)

  pub without_past : (k : ℕ) (y : X) (ys : List X) → key y < k → without key k (y ∷ ys) ≡ y ∷ without key k ys
  without_past k y ys lt = grind (arith, nat_tests)

  pub without_same : (k : ℕ) (y : X) (ys : List X) → key y ≡ k → without key k (y ∷ ys) ≡ ys
  without_same k y ys e = grind (arith, nat_tests)

  pub at_past : (k : ℕ) (y : X) (ys : List X) → key y < k → at key k (y ∷ ys) ≡ at key k ys
  at_past k y ys lt = grind (arith, nat_tests)

  pub at_same : (k : ℕ) (y : X) (ys : List X) → key y ≡ k → at key k (y ∷ ys) ≡ Some y
  at_same k y ys e = grind (arith, nat_tests)

  pub without_other : (k : ℕ) (y : X) (ys : List X) → (key y ≡ k → ⊥) → without key k (y ∷ ys) ≡ y ∷ without key k ys
  without_other k y ys ne = let other : (key y == k) ≡ false = grind (arith, nat_tests) in rw other refl

  -- what belongs after all of the first list
  pub put_back : (x : X) (xs ys : List X) → Every (λ y. key y < key x) xs → put key x (xs ++ ys) ≡ xs ++ put key x ys
  put_back x [] ys h = refl
  put_back x (y ∷ xs) ys h = put_past x y (xs ++ ys) h.0 ∙ ap (λ zs. y ∷ zs) (put_back x xs ys h.1)

  pub without_back : (k : ℕ) (xs ys : List X) → Every (λ y. key y < k) xs → without key k (xs ++ ys) ≡ xs ++ without key k ys
  without_back k [] ys h = refl
  without_back k (y ∷ xs) ys h = without_past k y (xs ++ ys) h.0 ∙ ap (λ zs. y ∷ zs) (without_back k xs ys h.1)

  pub at_back : (k : ℕ) (xs ys : List X) → Every (λ y. key y < k) xs → at key k (xs ++ ys) ≡ at key k ys
  at_back k [] ys h = refl
  at_back k (y ∷ xs) ys h = at_past k y (xs ++ ys) h.0 ∙ at_back k xs ys h.1

  -- and before all of the second
  put_front_by : (x y : X) (xs ys : List X) (b c : Bool) → put key x (xs ++ ys) ≡ put key x xs ++ ys
      → cond b (y ∷ put key x (xs ++ ys)) (cond c (x ∷ (xs ++ ys)) (x ∷ y ∷ (xs ++ ys)))
      ≡ cond b (y ∷ put key x xs) (cond c (x ∷ xs) (x ∷ y ∷ xs)) ++ ys
  put_front_by x y xs ys true c ih = ap (λ zs. y ∷ zs) ih
  put_front_by x y xs ys false true ih = refl
  put_front_by x y xs ys false false ih = refl

  pub put_front : (x : X) (xs ys : List X) → AllOver key (key x) ys → put key x (xs ++ ys) ≡ put key x xs ++ ys
  put_front x [] ys h = put_over x ys h
  put_front x (y ∷ xs) ys h = put_front_by x y xs ys (nat_lt (key y) (key x)) (key y == key x) (put_front x xs ys h)

  without_front_by : (k : ℕ) (y : X) (xs ys : List X) (b : Bool) → without key k (xs ++ ys) ≡ without key k xs ++ ys
      → cond b (xs ++ ys) (y ∷ without key k (xs ++ ys)) ≡ cond b xs (y ∷ without key k xs) ++ ys
  without_front_by k y xs ys true ih = refl
  without_front_by k y xs ys false ih = ap (λ zs. y ∷ zs) ih

  pub without_front : (k : ℕ) (xs ys : List X) → AllOver key k ys → without key k (xs ++ ys) ≡ without key k xs ++ ys
  without_front k [] ys h = without_over key k ys h
  without_front k (y ∷ xs) ys h = without_front_by k y xs ys (key y == k) (without_front k xs ys h)

-- ---- a tick

aged_by : (c : Countdown) (xs ys : List Countdown) (b : Bool) → aged (xs ++ ys) ≡ aged xs ++ aged ys
    → cond b (aged (xs ++ ys)) (record { timer = c.timer; ticks = c.ticks - 1 } ∷ aged (xs ++ ys))
    ≡ cond b (aged xs) (record { timer = c.timer; ticks = c.ticks - 1 } ∷ aged xs) ++ aged ys
aged_by c xs ys true ih = ih
aged_by c xs ys false ih = ap (λ cs. record { timer = c.timer; ticks = c.ticks - 1 } ∷ cs) ih

pub aged_joined : (xs ys : List Countdown) → aged (xs ++ ys) ≡ aged xs ++ aged ys
aged_joined [] ys = refl
aged_joined (c ∷ xs) ys = aged_by c xs ys (nat_le c.ticks 1) (aged_joined xs ys)

due_by : (c : Countdown) (xs ys : List Countdown) (b : Bool) → due_of (xs ++ ys) ≡ due_of xs ++ due_of ys
    → cond b (c.timer ∷ due_of (xs ++ ys)) (due_of (xs ++ ys)) ≡ cond b (c.timer ∷ due_of xs) (due_of xs) ++ due_of ys
due_by c xs ys true ih = ap (λ ts. c.timer ∷ ts) ih
due_by c xs ys false ih = ih

pub due_joined : (xs ys : List Countdown) → due_of (xs ++ ys) ≡ due_of xs ++ due_of ys
due_joined [] ys = refl
due_joined (c ∷ xs) ys = due_by c xs ys (nat_le c.ticks 1) (due_joined xs ys)
