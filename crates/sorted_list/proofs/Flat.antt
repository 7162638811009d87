-- Lists in chunks.
use Rattle.std.proofs.Common.{◌≡◌, ℕ, zero, suc, ◌+◌, ◌-◌, ◌<◌, ◌≤◌, List, [], ◌∷◌, ◌++◌, length, get_or, set, take, drop, refl, sym, ◌∙◌, ap, subst, arith, add-one, append_assoc, append-nil, length-drop}
use Rattle.std.specs.Prelude.{nat_lt, ◌==◌, Option, Some, None, Bool, true, false, cond, if◌then◌else◌, Result, Ok, Err, IsOk, is_ok, is_some}
use Rattle.std.proofs.lemmas.List.{set-get_or}
use Rattle.std.proofs.lemmas.Bool.Decides.{nat_tests}
use Rattle.std.specs.List.{insert, remove}
use Rattle.sorted_list.specs.Ordered.{place, at, add, put, without, AllOver, Rising, Every}
use Rattle.sorted_list.specs.Laws.{over_more, without_over, without_absent, at_over, at-without, rising-put, rising-without}
use Rattle.sorted_list.specs.Indexed.{rising-add}
use Rattle.sorted_list.specs.Sorted.{lowest, lowest_from}
use Rattle.sorted_list.specs.Chunks.{flat, head_key, home, AllUnder, IsHome, IsFilled, IsEmpty, IsChunked}

pub when_ok : {X E Y : Type 0} (r : Result X E) (a b : Y) → IsOk r → (if is_ok r then a else b) ≡ a
when_ok (Ok x) a b h = refl
when_ok (Err e) a b h = absurd (cc)

module _ {X : Type 0} (key : X → ℕ) where
  under_more : (j k : ℕ) (xs : List X) → j ≤ k → AllUnder key j xs → AllUnder key k xs
  under_more j k [] le h = tt
  under_more j k (y ∷ ys) le h = let lt : key y < j = h.0 in (omega arith, under_more j k ys le h.1)

  pub head_is : (x : X) (xs : List X) → x ≡ get_or xs 0 x → IsFilled xs → key x ≡ head_key key xs
  head_is x [] e f = absurd (omega arith)
  head_is x (y ∷ ys) e f = ap key e

  last_by : (i : ℕ) (x : X) (xs : List X) → Rising key xs → i + 1 ≡ length xs → x ≡ get_or xs i x → AllUnder key (key x + 1) xs
  last_by i x [] h l e = tt
  last_by zero x (y ∷ []) h l e = let same : key x ≡ key y = ap key e in (omega (arith, same), tt)
  last_by zero x (y ∷ (z ∷ zs)) h l e = absurd (omega arith)
  last_by (suc i) x (y ∷ []) h l e = absurd (omega arith)
  last_by (suc i) x (y ∷ (z ∷ zs)) h l e =
      let ih = last_by i x (z ∷ zs) h.1 (omega arith) e in
      let below : key y < key z = h.0.0 in
      let under : key z < key x + 1 = ih.0 in
      (omega (arith, below, under), ih)

  -- no key exceeds that of the last element
  pub last_under : (i k : ℕ) (x : X) (xs : List X) → Rising key xs → i + 1 ≡ length xs → x ≡ get_or xs i x → k ≡ key x
      → AllUnder key (k + 1) xs
  last_under i k x xs h l e s = subst (λ n. AllUnder key (n + 1) xs) (sym s) (last_by i x xs h l e)

  -- ---- two lists, one after the other

  over_right : (k : ℕ) (xs ys : List X) → AllOver key k (xs ++ ys) → AllOver key k ys
  over_right k [] ys h = h
  over_right k (x ∷ xs) ys h = over_right k xs ys h.1

  over_left : (k : ℕ) (xs ys : List X) → AllOver key k (xs ++ ys) → AllOver key k xs
  over_left k [] ys h = tt
  over_left k (x ∷ xs) ys h = (h.0, over_left k xs ys h.1)

  pub rising_right : (xs ys : List X) → Rising key (xs ++ ys) → Rising key ys
  rising_right [] ys h = h
  rising_right (x ∷ xs) ys h = rising_right xs ys h.1

  pub rising_left : (xs ys : List X) → Rising key (xs ++ ys) → Rising key xs
  rising_left [] ys h = tt
  rising_left (x ∷ xs) ys h = (over_left (key x) xs ys h.0, rising_left xs ys h.1)

  over_one : (k : ℕ) (xs : List X) (y : X) (ys : List X) → AllOver key k (xs ++ y ∷ ys) → k < key y
  over_one k [] y ys h = h.0
  over_one k (x ∷ xs) y ys h = over_one k xs y ys h.1

  -- what stands before an element is below it
  under_left : (xs : List X) (y : X) (ys : List X) → Rising key (xs ++ y ∷ ys) → AllUnder key (key y) xs
  under_left [] y ys h = tt
  under_left (x ∷ xs) y ys h = (over_one (key x) xs y ys h.0, under_left xs y ys h.1)

  -- ---- where a key belongs to the first of the two

  pub at_front : (k : ℕ) (xs ys : List X) → AllOver key k ys → at key k (xs ++ ys) ≡ at key k xs
  at_front k [] ys h = at_over key k ys h
  at_front k (x ∷ xs) ys h = ap (λ o. if key x == k then Some x else o) (at_front k xs ys h)

  add_over : (x : X) (ys : List X) → AllOver key (key x) ys → add key x ys ≡ x ∷ ys
  add_over x [] h = refl
  add_over x (y ∷ ys) h = let lt : key x < key y = h.0 in grind (arith, nat_tests)

  add_front_by : (z x : X) (xs ys : List X) (b : Bool) → add key z (xs ++ ys) ≡ add key z xs ++ ys
      → cond b (x ∷ add key z (xs ++ ys)) (z ∷ x ∷ (xs ++ ys)) ≡ cond b (x ∷ add key z xs) (z ∷ x ∷ xs) ++ ys
  add_front_by z x xs ys true ih = ap (λ zs. x ∷ zs) ih
  add_front_by z x xs ys false ih = refl

  pub add_front : (z : X) (xs ys : List X) → AllOver key (key z) ys → add key z (xs ++ ys) ≡ add key z xs ++ ys
  add_front z [] ys h = add_over z ys h
  add_front z (x ∷ xs) ys h = add_front_by z x xs ys (nat_lt (key x) (key z)) (add_front z xs ys h)

  without_front_by : (k : ℕ) (x : X) (xs ys : List X) (b : Bool) → without key k (xs ++ ys) ≡ without key k xs ++ ys
      → cond b (xs ++ ys) (x ∷ without key k (xs ++ ys)) ≡ cond b xs (x ∷ without key k xs) ++ ys
  without_front_by k x xs ys true ih = refl
  without_front_by k x xs ys false ih = ap (λ zs. x ∷ zs) ih

  pub without_front : (k : ℕ) (xs ys : List X) → AllOver key k ys → without key k (xs ++ ys) ≡ without key k xs ++ ys
  without_front k [] ys h = without_over key k ys h
  without_front k (x ∷ xs) ys h = without_front_by k x xs ys (key x == k) (without_front k xs ys h)

  -- ---- where it belongs to the second

  pub at_back : (k : ℕ) (xs ys : List X) → AllUnder key k xs → at key k (xs ++ ys) ≡ at key k ys
  at_back k [] ys h = refl
  at_back k (x ∷ xs) ys h = let lt : key x < k = h.0 in let ih = at_back k xs ys h.1 in grind (arith, nat_tests)

  pub add_back : (z : X) (xs ys : List X) → AllUnder key (key z) xs → add key z (xs ++ ys) ≡ xs ++ add key z ys
  add_back z [] ys h = refl
  add_back z (x ∷ xs) ys h = let lt : key x < key z = h.0 in let ih = add_back z xs ys h.1 in grind (arith, nat_tests)

  pub without_back : (k : ℕ) (xs ys : List X) → AllUnder key k xs → without key k (xs ++ ys) ≡ xs ++ without key k ys
  without_back k [] ys h = refl
  without_back k (x ∷ xs) ys h = let lt : key x < k = h.0 in let ih = without_back k xs ys h.1 in grind (arith, nat_tests)

  pub from_back : (k : ℕ) (xs ys : List X) → AllUnder key k xs → lowest_from key k (xs ++ ys) ≡ lowest_from key k ys
  from_back k [] ys h = refl
  from_back k (x ∷ xs) ys h = let lt : key x < k = h.0 in let ih = from_back k xs ys h.1 in grind (arith, nat_tests)

  -- ---- the first keys of the chunks

  heads_over : (k : ℕ) (cs : List (List X)) → AllOver key k (flat cs) → Every IsFilled cs → AllOver (head_key key) k cs
  heads_over k [] h f = tt
  heads_over k ([] ∷ cs) h f = absurd (omega (arith, f.0))
  heads_over k ((x ∷ xs) ∷ cs) h f = (h.0, heads_over k cs (over_right k xs (flat cs) h.1) f.1)

  pub rising_heads : (cs : List (List X)) → Rising key (flat cs) → Every IsFilled cs → Rising (head_key key) cs
  rising_heads [] h f = tt
  rising_heads ([] ∷ cs) h f = absurd (omega (arith, f.0))
  rising_heads ((x ∷ xs) ∷ cs) h f = (
    heads_over (key x) cs (over_right (key x) xs (flat cs) h.0) f.1,
    rising_heads cs
        (rising_right xs (flat cs) h.1) f.1,
  )

  -- ---- the search finds where a key belongs

  over_first : (k : ℕ) (x : X) (zs : List X) → k < key x → AllOver key (key x) zs → AllOver key k zs
  over_first k x zs lt h = over_more key k (key x) zs (omega arith) h

  home_next : (k p : ℕ) (x : X) (xs : List X) (cs : List (List X)) → Rising key ((x ∷ xs) ++ flat cs) → Every IsFilled cs
      → p ≡ place (head_key key) (k + 1) cs
      → (0 < length cs → IsHome key k (p - 1) cs) → IsHome key k p ((x ∷ xs) ∷ cs)
  home_next k zero x xs [] h f e ih = tt
  home_next k (suc p) x xs [] h f e ih = absurd (omega arith)
  home_next k zero x xs ([] ∷ cs) h f e ih = absurd (omega (arith, f.0))
  home_next k (suc p) x xs ([] ∷ cs) h f e ih = absurd (omega (arith, f.0))
  home_next k zero x xs ((y ∷ ys) ∷ cs) h f e ih =
      let lt : k < key y = grind (arith, nat_tests) in
      let r = rising_right (x ∷ xs) ((y ∷ ys) ++ flat cs) h in
      (lt, over_first k y (ys ++ flat cs) lt r.0)
  home_next k (suc p) x xs ((y ∷ ys) ∷ cs) h f e ih =
      let le : key y ≤ k = grind (arith, nat_tests) in
      let less : suc p - 1 ≡ p = omega arith in (
        under_more (key y) k (x ∷ xs) le (under_left (x ∷ xs) y (ys ++ flat cs) h),
        subst (λ i. IsHome key k i ((y ∷ ys) ∷ cs)) less
            (ih (omega arith)),
      )

  home_by : (k : ℕ) (x : X) (xs : List X) (cs : List (List X)) (b : Bool) → nat_lt (key x) (k + 1) ≡ b
      → Rising key ((x ∷ xs) ++ flat cs) → Every IsFilled cs
      → (0 < length cs → IsHome key k (home key k cs) cs) → IsHome key k (cond b (place (head_key key) (k + 1) cs + 1) 0 - 1)
      ((x ∷ xs) ∷ cs)
  home_by k x xs cs true e h f ih =
      let less : place (head_key key) (k + 1) cs ≡ place (head_key key) (k + 1) cs + 1 - 1 = omega arith in
      subst (λ i. IsHome key k i ((x ∷ xs) ∷ cs)) less (home_next k (place (head_key key) (k + 1) cs) x xs cs h f refl ih)
  home_by k x xs cs false e h f ih =
      let lt : k < key x = grind (arith, nat_tests) in
      over_right k xs (flat cs) (over_first k x (xs ++ flat cs) lt h.0)

  pub home_is : (k : ℕ) (cs : List (List X)) → Rising key (flat cs) → Every IsFilled cs → 0 < length cs
      → IsHome key k (home key k cs) cs
  home_is k [] h f lt = absurd (omega arith)
  home_is k ([] ∷ cs) h f lt = absurd (omega (arith, f.0))
  home_is k ((x ∷ xs) ∷ cs) h f lt = home_by k x xs cs (nat_lt (key x) (k + 1)) refl h f.1
      (home_is k cs (rising_right (x ∷ xs) (flat cs) h) f.1)

  pub home_within : (k i : ℕ) (cs : List (List X)) → IsHome key k i cs → i < length cs
  home_within k i [] h = absurd h
  home_within k zero (c ∷ cs) h = omega arith
  home_within k (suc i) (c ∷ cs) h = let ih = home_within k i cs h.1 in omega arith

  is_home : (k i : ℕ) (cs : List (List X)) → Rising key (flat cs) → Every IsFilled cs → 0 < length cs → i ≡ home key k cs
      → IsHome key k i cs
  is_home k i cs h f lt e = subst (λ j. IsHome key k j cs) (sym e) (home_is k cs h f lt)

  -- the same of what a search in a list that isn't empty found
  pub home_found : (k i n : ℕ) (cs ds : List (List X)) → Rising key (flat cs) → Every IsFilled cs → false ≡ (n == 0)
      → n ≡ length cs → ds ≡ cs → i ≡ home key k ds
      → IsHome key k i cs
  home_found k i n cs ds h f some l same e =
      let there : 0 < length cs = grind (arith, nat_tests) in
      is_home k i cs h f there (e ∙ ap (home key k) same)

  -- ---- what is done to the chunk where a key belongs is done to the list

  pub at_home : (k i : ℕ) (c : List X) (cs : List (List X)) → IsHome key k i cs → c ≡ get_or cs i c → at key k (flat cs) ≡ at key k
      c
  at_home k i c [] h e = absurd h
  at_home k zero c (d ∷ cs) h e = at_front k d (flat cs) h ∙ ap (at key k) (sym e)
  at_home k (suc i) c (d ∷ cs) h e = at_back k d (flat cs) h.0 ∙ at_home k i c cs h.1 e

  pub add_home : (i : ℕ) (z : X) (c : List X) (cs : List (List X)) → IsHome key (key z) i cs → c ≡ get_or cs i c
      → add key z (flat cs) ≡ flat (set cs i (add key z c))
  add_home i z c [] h e = absurd h
  add_home zero z c (d ∷ cs) h e = add_front z d (flat cs) h ∙ ap (λ ys. add key z ys ++ flat cs) (sym e)
  add_home (suc i) z c (d ∷ cs) h e = add_back z d (flat cs) h.0 ∙ ap (λ ys. d ++ ys) (add_home i z c cs h.1 e)

  pub without_home : (k i : ℕ) (c : List X) (cs : List (List X)) → IsHome key k i cs → c ≡ get_or cs i c → without key k (flat cs)
      ≡ flat (set cs i (without key k c))
  without_home k i c [] h e = absurd h
  without_home k zero c (d ∷ cs) h e = without_front k d (flat cs) h ∙ ap (λ ys. without key k ys ++ flat cs) (sym e)
  without_home k (suc i) c (d ∷ cs) h e = without_back k d (flat cs) h.0 ∙ ap (λ ys. d ++ ys) (without_home k i c cs h.1 e)

  put_over : (z : X) (ys : List X) → AllOver key (key z) ys → put key z ys ≡ z ∷ ys
  put_over z [] h = refl
  put_over z (y ∷ ys) h = let lt : key z < key y = h.0 in grind (arith, nat_tests)

  put_front_by : (z x : X) (xs ys : List X) (b c : Bool) → put key z (xs ++ ys) ≡ put key z xs ++ ys
      → cond b (x ∷ put key z (xs ++ ys)) (cond c (z ∷ (xs ++ ys)) (z ∷ x ∷ (xs ++ ys))) ≡ cond b (x ∷ put key z xs)
      (cond c (z ∷ xs) (z ∷ x ∷ xs)) ++ ys
  put_front_by z x xs ys true c ih = ap (λ zs. x ∷ zs) ih
  put_front_by z x xs ys false true ih = refl
  put_front_by z x xs ys false false ih = refl

  pub put_front : (z : X) (xs ys : List X) → AllOver key (key z) ys → put key z (xs ++ ys) ≡ put key z xs ++ ys
  put_front z [] ys h = put_over z ys h
  put_front z (x ∷ xs) ys h = put_front_by z x xs ys (nat_lt (key x) (key z)) (key x == key z) (put_front z xs ys h)

  pub put_back : (z : X) (xs ys : List X) → AllUnder key (key z) xs → put key z (xs ++ ys) ≡ xs ++ put key z ys
  put_back z [] ys h = refl
  put_back z (x ∷ xs) ys h = let lt : key x < key z = h.0 in let ih = put_back z xs ys h.1 in grind (arith, nat_tests)

  pub put_home : (i : ℕ) (z : X) (c : List X) (cs : List (List X)) → IsHome key (key z) i cs → c ≡ get_or cs i c
      → put key z (flat cs) ≡ flat (set cs i (put key z c))
  put_home i z c [] h e = absurd h
  put_home zero z c (d ∷ cs) h e = put_front z d (flat cs) h ∙ ap (λ ys. put key z ys ++ flat cs) (sym e)
  put_home (suc i) z c (d ∷ cs) h e = put_back z d (flat cs) h.0 ∙ ap (λ ys. d ++ ys) (put_home i z c cs h.1 e)

  -- an element is put where one with its key is, or nothing changes
  pub replaced_home : (i : ℕ) (z : X) (r : Option X) (c d : List X) (cs : List (List X)) → IsHome key (key z) i cs
      → c ≡ get_or cs i c → d ≡ (if is_some r then put key z c else c)
      → flat (set cs i d) ≡ (if is_some r then put key z (flat cs) else flat cs)
  replaced_home i z (Some x) c d cs h e p = ap (λ b. flat (set cs i b)) p ∙ sym (put_home i z c cs h e)
  replaced_home i z None c d cs h e p = ap (λ b. flat (set cs i b)) (p ∙ e) ∙ ap flat (set-get_or cs i c)

  pub rising_chunk : (i : ℕ) (c : List X) (cs : List (List X)) → Rising key (flat cs) → i < length cs → c ≡ get_or cs i c
      → Rising key c
  rising_chunk i c [] h lt e = absurd (omega arith)
  rising_chunk zero c (d ∷ cs) h lt e = subst (Rising key) (sym e) (rising_left d (flat cs) h)
  rising_chunk (suc i) c (d ∷ cs) h lt e = rising_chunk i c cs (rising_right d (flat cs) h) (omega arith) e

  -- an element is added to one of two halves
  pub add_lower : (z : X) (xs ys : List X) → Rising key (xs ++ ys) → key z < head_key key ys → add key z (xs ++ ys) ≡ add key z xs
      ++ ys
  add_lower z xs [] h lt = absurd (omega arith)
  add_lower z xs (y ∷ ys) h lt = add_front z xs (y ∷ ys) (lt, over_first (key z) y ys lt (rising_right xs (y ∷ ys) h).0)

  pub add_last : (j : ℕ) (z : X) (xs : List X) → AllUnder key (j + 1) xs → j < key z → xs ++ add key z [] ≡ add key z xs
  add_last j z xs h lt = sym (add_back z xs [] (under_more (j + 1) (key z) xs (omega arith) h)) ∙ ap (add key z) (append-nil xs)

  pub add_upper : (z : X) (xs ys : List X) → Rising key (xs ++ ys) → 0 < length ys → head_key key ys ≤ key z
      → add key z (xs ++ ys) ≡ xs ++ add key z ys
  add_upper z xs [] h lt le = absurd (omega arith)
  add_upper z xs (y ∷ ys) h lt le = add_back z xs (y ∷ ys) (under_more (key y) (key z) xs le (under_left xs y ys h))

  -- ---- the first element from a key on

  pub from_end : (k : ℕ) (xs : List X) → place key k xs ≡ length xs → lowest_from key k xs ≡ None
  from_end k [] p = refl
  from_end k (y ∷ ys) p = let ih = from_end k ys in grind (arith, nat_tests)

  pub from_place : (k i : ℕ) (x : X) (xs : List X) → i ≡ place key k xs → i < length xs → x ≡ get_or xs i x
      → lowest_from key k xs ≡ Some x
  from_place k i x [] p lt e = absurd (omega arith)
  from_place k zero x (y ∷ ys) p lt e = let same : x ≡ y = e in grind (arith, nat_tests)
  from_place k (suc i) x (y ∷ ys) p lt e = let ih = from_place k i x ys in grind (arith, nat_tests)

  from_front_by : (k : ℕ) (x y : X) (xs ys : List X) (b : Bool)
      → (lowest_from key k xs ≡ Some y → lowest_from key k (xs ++ ys) ≡ Some y)
      → cond b (lowest_from key k xs) (Some x) ≡ Some y → cond b (lowest_from key k (xs ++ ys)) (Some x) ≡ Some y
  from_front_by k x y xs ys true ih e = ih e
  from_front_by k x y xs ys false ih e = e

  from_front : (k : ℕ) (y : X) (xs ys : List X) → lowest_from key k xs ≡ Some y → lowest_from key k (xs ++ ys) ≡ Some y
  from_front k y [] ys e = absurd (cc)
  from_front k y (x ∷ xs) ys e = from_front_by k x y xs ys (nat_lt (key x) k) (from_front k y xs ys) e

  from_past_by : (k : ℕ) (x : X) (xs ys : List X) (b : Bool)
      → (lowest_from key k xs ≡ None → lowest_from key k (xs ++ ys) ≡ lowest_from key k ys)
      → cond b (lowest_from key k xs) (Some x) ≡ None → cond b (lowest_from key k (xs ++ ys)) (Some x) ≡ lowest_from key k ys
  from_past_by k x xs ys true ih e = ih e
  from_past_by k x xs ys false ih e = absurd (cc)

  from_past : (k : ℕ) (xs ys : List X) → lowest_from key k xs ≡ None → lowest_from key k (xs ++ ys) ≡ lowest_from key k ys
  from_past k [] ys e = refl
  from_past k (x ∷ xs) ys e = from_past_by k x xs ys (nat_lt (key x) k) (from_past k xs ys) e

  pub from_home : (k i : ℕ) (y : X) (c : List X) (cs : List (List X)) → IsHome key k i cs → c ≡ get_or cs i c
      → lowest_from key k c ≡ Some y → lowest_from key k (flat cs) ≡ Some y
  from_home k i y c [] h e q = absurd h
  from_home k zero y c (d ∷ cs) h e q = from_front k y d (flat cs) (ap (lowest_from key k) (sym e) ∙ q)
  from_home k (suc i) y c (d ∷ cs) h e q = from_back k d (flat cs) h.0 ∙ from_home k i y c cs h.1 e q

  from_head : (k : ℕ) (c d : List X) (cs : List (List X)) → AllOver key k (flat (c ∷ cs)) → IsFilled c → d ≡ c
      → lowest_from key k (flat (c ∷ cs)) ≡ lowest d
  from_head k [] d cs h f e = absurd (omega arith)
  from_head k (x ∷ xs) d cs h f e = let lt : k < key x = h.0 in let there : lowest_from key k (flat ((x ∷ xs) ∷ cs)) ≡ Some x =
      grind (arith, nat_tests) in there ∙ ap lowest (sym e)

  pub from_next : (k i : ℕ) (c d : List X) (cs : List (List X)) → IsHome key k i cs → Every IsFilled cs → c ≡ get_or cs i c
      → lowest_from key k c ≡ None → suc i < length cs → d ≡ get_or cs (suc i) d
      → lowest_from key k (flat cs) ≡ lowest d
  from_next k i c d [] h f e q lt n = absurd h
  from_next k zero c d (b ∷ []) h f e q lt n = absurd (omega arith)
  from_next k zero c d (b ∷ (a ∷ cs)) h f e q lt n = from_past k b (flat (a ∷ cs)) (ap (lowest_from key k) (sym e) ∙ q)
      ∙ from_head k a d cs h f.1.0 n
  from_next k (suc i) c d (b ∷ cs) h f e q lt n = from_back k b (flat cs) h.0 ∙ from_next k i c d cs h.1 f.1 e q (omega arith) n

  pub from_last : (k i : ℕ) (c : List X) (cs : List (List X)) → IsHome key k i cs → c ≡ get_or cs i c → lowest_from key k c ≡ None
      → length cs ≤ suc i → lowest_from key k (flat cs) ≡ None
  from_last k i c [] h e q le = absurd h
  from_last k zero c (b ∷ []) h e q le = from_past k b [] (ap (lowest_from key k) (sym e) ∙ q)
  from_last k zero c (b ∷ (a ∷ cs)) h e q le = absurd (omega arith)
  from_last k (suc i) c (b ∷ cs) h e q le = from_back k b (flat cs) h.0 ∙ from_last k i c cs h.1 e q (omega arith)

-- ---- a chunk is replaced, divided, dropped

module _ {X : Type 0} where
  pub flat_split : (i : ℕ) (a b : List X) (cs : List (List X)) → i < length cs → flat (insert (set cs i a) (suc i) b) ≡ flat
      (set cs i (a ++ b))
  flat_split i a b [] lt = absurd (omega arith)
  flat_split zero a b (d ∷ cs) lt = sym (append_assoc a b (flat cs))
  flat_split (suc i) a b (d ∷ cs) lt = ap (λ ys. d ++ ys) (flat_split i a b cs (omega arith))

  pub flat_dropped : (i : ℕ) (cs : List (List X)) → i < length cs → flat (remove cs i) ≡ flat (set cs i [])
  flat_dropped i [] lt = absurd (omega arith)
  flat_dropped zero (d ∷ cs) lt = refl
  flat_dropped (suc i) (d ∷ cs) lt = ap (λ ys. d ++ ys) (flat_dropped i cs (omega arith))

  -- a chunk that became empty
  pub flat_emptied : (i : ℕ) (d : List X) (cs : List (List X)) → i < length cs → d ≡ [] → flat (remove (set cs i d) i) ≡ flat
      (set cs i d)
  flat_emptied i d [] lt e = absurd (omega arith)
  flat_emptied zero d (c ∷ cs) lt e = ap (λ xs. xs ++ flat cs) (sym e)
  flat_emptied (suc i) d (c ∷ cs) lt e = ap (λ ys. c ++ ys) (flat_emptied i d cs (omega arith) e)

  -- ---- a chunk and the next one are joined

  pub get_before : (i : ℕ) (x : List X) (cs : List (List X)) → suc i < length cs → x ≡ get_or (remove cs (suc i)) i x
      → x ≡ get_or cs i x
  get_before i x [] lt e = absurd (omega arith)
  get_before zero x (c ∷ cs) lt e = e
  get_before (suc i) x (c ∷ cs) lt e = get_before i x cs (omega arith) e

  pub flat_joined : (i : ℕ) (a b : List X) (cs : List (List X)) → suc i < length cs → a ≡ get_or cs i a → b ≡ get_or cs (suc i) b
      → flat (set (remove cs (suc i)) i (a ++ b)) ≡ flat cs
  flat_joined i a b [] lt e f = absurd (omega arith)
  flat_joined i a b (c ∷ []) lt e f = absurd (omega arith)
  flat_joined zero a b (c ∷ (d ∷ cs)) lt e f = append_assoc a b (flat cs) ∙ ap (λ x. x ++ (b ++ flat cs)) e
      ∙ ap (λ x. c ++ (x ++ flat cs)) f
  flat_joined (suc i) a b (c ∷ (d ∷ cs)) lt e f = ap (λ xs. c ++ xs) (flat_joined i a b (d ∷ cs) (omega arith) e f)

  -- ---- the chunks up to one of them, and the next

  pub flat_next : (i : ℕ) (c : List X) (cs : List (List X)) → i < length cs → c ≡ get_or cs i c → flat (take (suc i) cs) ≡ flat
      (take i cs) ++ c
  flat_next i c [] lt e = absurd (omega arith)
  flat_next zero c (d ∷ cs) lt e = append-nil d ∙ sym e
  flat_next (suc i) c (d ∷ cs) lt e = ap (λ xs. d ++ xs) (flat_next i c cs (omega arith) e)
      ∙ sym (append_assoc d (flat (take i cs)) c)

module _ {Y : Type 0} (P : Y → Type 0) where
  pub every-last : (y : Y) (ys : List Y) → Every P (ys ++ y ∷ []) → P y
  every-last y [] h = h.0
  every-last y (z ∷ zs) h = every-last y zs h.1

  pub every-push : (y : Y) (ys : List Y) → Every P ys → P y → Every P (ys ++ y ∷ [])
  every-push y [] h p = (p, tt)
  every-push y (z ∷ zs) h p = (h.0, every-push y zs h.1 p)

  pub every-init : (zs ys : List Y) → Every P (ys ++ zs) → Every P ys
  every-init zs [] h = tt
  every-init zs (y ∷ ys) h = (h.0, every-init zs ys h.1)

  pub every-set : (i : ℕ) (y : Y) (ys : List Y) → P y → Every P ys → Every P (set ys i y)
  every-set i y [] p h = h
  every-set zero y (z ∷ zs) p h = (p, h.1)
  every-set (suc i) y (z ∷ zs) p h = (h.0, every-set i y zs p h.1)

  pub every-insert : (i : ℕ) (y : Y) (ys : List Y) → P y → Every P ys → Every P (insert ys i y)
  every-insert zero y ys p h = (p, h)
  every-insert (suc i) y [] p h = (p, h)
  every-insert (suc i) y (z ∷ zs) p h = (h.0, every-insert i y zs p h.1)

  pub every-remove : (i : ℕ) (ys : List Y) → Every P ys → Every P (remove ys i)
  every-remove zero [] h = tt
  every-remove (suc i) [] h = tt
  every-remove zero (z ∷ zs) h = h.1
  every-remove (suc i) (z ∷ zs) h = (h.0, every-remove i zs h.1)

  pub every-get : (i : ℕ) (y : Y) (ys : List Y) → Every P ys → i < length ys → y ≡ get_or ys i y → P y
  every-get i y [] h lt e = absurd (omega arith)
  every-get zero y (z ∷ zs) h lt e = subst P (sym e) h.0
  every-get (suc i) y (z ∷ zs) h lt e = every-get i y zs h.1 (omega arith) e

  pub every-take : (n : ℕ) (ys : List Y) → Every P ys → Every P (take n ys)
  every-take zero [] h = tt
  every-take (suc n) [] h = tt
  every-take zero (z ∷ zs) h = tt
  every-take (suc n) (z ∷ zs) h = (h.0, every-take n zs h.1)

pub length-add : {X : Type 0} (key : X → ℕ) (x : X) (xs : List X) → length (add key x xs) ≡ length xs + 1
length-add key x [] = omega arith
length-add key x (y ∷ ys) = let ih = length-add key x ys in grind (arith, nat_tests)

pub length-without : {X : Type 0} (key : X → ℕ) (k : ℕ) (e : X) (xs : List X) → at key k xs ≡ Some e → length (without key k xs) +
    1 ≡ length xs
length-without key k e [] h = absurd (cc)
length-without key k e (y ∷ ys) h = let ih = length-without key k e ys in grind (arith, nat_tests)

pub length_without : {X : Type 0} (key : X → ℕ) (k : ℕ) (xs : List X) → length (without key k xs) ≤ length xs
length_without key k [] = omega arith
length_without key k (y ∷ ys) = let ih = length_without key k ys in grind (arith, nat_tests)

length_put_by : {X : Type 0} (key : X → ℕ) (x e y : X) (ys : List X) (b c : Bool) → nat_lt (key y) (key x) ≡ b
    → (key y == key x) ≡ c → Rising key (y ∷ ys)
    → cond c (Some y) (at key (key x) ys) ≡ Some e → (at key (key x) ys ≡ Some e → length (put key x ys) ≡ length ys)
    → length (cond b (y ∷ put key x ys) (cond c (x ∷ ys) (x ∷ y ∷ ys))) ≡ suc (length ys)
length_put_by key x e y ys true true l m r h ih = absurd (grind (arith, nat_tests))
length_put_by key x e y ys true false l m r h ih = ap (λ n. suc n) (ih h)
length_put_by key x e y ys false true l m r h ih = refl
length_put_by key x e y ys false false l m r h ih =
    let lt : key x < key y = grind (arith, nat_tests) in
    let none = at_over key (key x) ys (over_more key (key x) (key y) ys (omega arith) r.0) in
    absurd (cc)

pub length-put : {X : Type 0} (key : X → ℕ) (x e : X) (xs : List X) → Rising key xs → at key (key x) xs ≡ Some e
    → length (put key x xs) ≡ length xs
length-put key x e [] r h = absurd (cc)
length-put key x e (y ∷ ys) r h = length_put_by key x e y ys (nat_lt (key y) (key x)) (key y == key x) refl refl r h
    (length-put key x e ys r.1)

pub whole : {X : Type 0} (n : ℕ) (xs : List X) → length xs ≤ n → take n xs ≡ xs
whole zero [] le = refl
whole (suc n) [] le = refl
whole zero (x ∷ xs) le = absurd (omega arith)
whole (suc n) (x ∷ xs) le = ap (λ ys. x ∷ ys) (whole n xs (omega arith))

halves : {X : Type 0} (n : ℕ) (xs : List X) → take n xs ++ drop n xs ≡ xs
halves zero [] = refl
halves (suc n) [] = refl
halves zero (x ∷ xs) = refl
halves (suc n) (x ∷ xs) = ap (λ ys. x ∷ ys) (halves n xs)

pub upper_half : {X : Type 0} (n : ℕ) (xs : List X) → take (length xs - n) (drop n xs) ≡ drop n xs
upper_half n xs = let l = length-drop n xs in whole (length xs - n) (drop n xs) (omega (arith, l))

pub divided : {X : Type 0} (n : ℕ) (xs : List X) → take n xs ++ take (length xs - n) (drop n xs) ≡ xs
divided n xs = ap (λ ys. take n xs ++ ys) (upper_half n xs) ∙ halves n xs

pub length_upper : {X : Type 0} (n : ℕ) (xs : List X) → length (take (length xs - n) (drop n xs)) ≡ length xs - n
length_upper n xs = ap length (upper_half n xs) ∙ length-drop n xs

pub get_set : {Y : Type 0} (i : ℕ) (r y : Y) (ys : List Y) → i < length ys → r ≡ get_or (set ys i y) i r → r ≡ y
get_set i r y [] lt e = absurd (omega arith)
get_set zero r y (z ∷ zs) lt e = e
get_set (suc i) r y (z ∷ zs) lt e = get_set i r y zs (omega arith) e

-- the index of a list that isn't the last one
pub not_last : (n i : ℕ) → suc i < n → ((n - i) == 1) ≡ false
not_last n i lt = grind (arith, nat_tests)

pub none_there : {Y : Type 0} (n : ℕ) (ys : List Y) → true ≡ (n == 0) → n ≡ length ys → ys ≡ []
none_there n [] e l = refl
none_there n (y ∷ ys) e l = absurd (grind (arith, nat_tests))

-- a chunk got an element, or was divided for it
module _ {X : Type 0} (key : X → ℕ) where
  pub divided_home : (i : ℕ) (z : X) (a b c : List X) (cs : List (List X)) → IsHome key (key z) i cs → c ≡ get_or cs i c
      → a ++ b ≡ add key z c
      → flat (insert (set cs i a) (i + 1) b) ≡ add key z (flat cs)
  divided_home i z a b c cs h e both =
      ap (λ n. flat (insert (set cs i a) n b)) (add-one i) ∙ flat_split i a b cs (home_within key (key z) i cs h)
      ∙ ap (λ d. flat (set cs i d)) both ∙ sym (add_home key i z c cs h e)

  -- ---- what is kept

  pub kept_add : (x : X) (cs ds ss ts : List (List X)) (len : ℕ) → IsChunked key cs ss len → at key (key x) (flat cs) ≡ None
      → flat ds ≡ add key x (flat cs) → Every IsFilled ds → Every IsEmpty ts → IsChunked key ds ts (len + 1)
  kept_add x cs ds ss ts len k free e f n =
      let l = ap length e ∙ length-add key x (flat cs) in
      let count = k.count in
      record {
        rising = subst (Rising key) (sym e) (rising-add key x (flat cs) free k.rising);
        filled = f;
        empty = n;
        count = omega
            (arith, l, count);
      }

  pub kept_without : (k : ℕ) (x : X) (cs ds ss ts : List (List X)) (len : ℕ) → IsChunked key cs ss len → at key k (flat cs) ≡ Some
      x → flat ds ≡ without key k (flat cs) → Every IsFilled ds → Every IsEmpty ts → IsChunked key ds ts (len - 1)
  kept_without k x cs ds ss ts len i there e f n =
      let l = ap length e in
      let w = length-without key k x (flat cs) there in
      let count = i.count in
      record {
        rising = subst (Rising key) (sym e) (rising-without key k (flat cs) i.rising);
        filled = f;
        empty = n;
        count = omega
            (arith, l, w, count);
      }

  pub kept_replaced : (x : X) (r : Option X) (cs ds ss : List (List X)) (len : ℕ) → IsChunked key cs ss len
      → r ≡ at key (key x) (flat cs)
      → flat ds ≡ (if is_some r then put key x (flat cs) else flat cs) → Every IsFilled ds → IsChunked key ds ss len
  kept_replaced x (Some y) cs ds ss len i was e f =
      let l = ap length e ∙ length-put key x y (flat cs) i.rising (sym was) in
      record {
        rising = subst (Rising key) (sym e) (rising-put key x (flat cs) i.rising);
        filled = f;
        empty = i.empty;
        count =
            i.count ∙ sym l;
      }
  kept_replaced x None cs ds ss len i was e f =
      record { rising = subst (Rising key) (sym e) i.rising; filled = f; empty = i.empty; count = i.count ∙ ap length (sym e) }

  pub kept_spares : (cs ds ss ts : List (List X)) (len : ℕ) → IsChunked key cs ss len → ds ≡ cs → Every IsEmpty ts
      → IsChunked key ds ts len
  kept_spares cs ds ss ts len i e n =
      record {
        rising = subst (λ bs. Rising key (flat bs)) (sym e) i.rising;
        filled = subst (Every IsFilled) (sym e) i.filled;
        empty = n;
        count = i.count ∙ ap (λ bs. length (flat bs)) (sym e);
      }

  pub kept_absent : (k : ℕ) (cs ds ss ts : List (List X)) (len : ℕ) → IsChunked key cs ss len → at key k (flat cs) ≡ None
      → flat ds ≡ without key k (flat cs) → Every IsFilled ds → Every IsEmpty ts → IsChunked key ds ts len
  kept_absent k cs ds ss ts len i none e f n =
      let same = e ∙ without_absent key k (flat cs) none in
      record { rising = subst (Rising key) (sym same) i.rising; filled = f; empty = n; count = i.count ∙ ap length (sym same) }

  pub gone : (k : ℕ) (cs ds : List (List X)) → Rising key (flat cs) → flat ds ≡ without key k (flat cs) → at key k (flat ds) ≡ None
  gone k cs ds h e =
      let w = at-without key k k (flat cs) h in
      ap (at key k) e ∙ grind (arith, nat_tests)
