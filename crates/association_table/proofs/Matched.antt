-- What is gathered of the entries, and what closing it leaves.
use Rattle.std.proofs.Common.{◌≡◌, ℕ, zero, suc, ◌+◌, ◌<◌, ◌≤◌, List, [], ◌∷◌, length, take, drop, get_or, refl, sym, ◌∙◌, ap, subst, arith}
use Rattle.std.specs.Prelude.{nat_lt, nat_le, ◌==◌, ◌&&◌, ◌||◌, not, Option, Some, None, is_some, Bool, true, false, cond, filter}
use Rattle.std.specs.List.{list_any}
use Rattle.std.proofs.lemmas.Bool.Decides.{nat_tests}
use borrow.Author.Tests.{eqb-true}
use Rattle.sorted_list.specs.Ordered.{add, AllOver, Rising, Every}
use Rattle.sorted_list.specs.Sorted.{lowest}
use Rattle.sorted_list.specs.Laws.{at_over, at_key}
use Rattle.association_table.specs.declared.association.Association.{Association}
use Rattle.association_table.specs.declared.association.Listed.{Listed}
use Rattle.association_table.specs.Table.{association_id, found, closed}
use Rattle.association_table.specs.Listing.{agrees, matches, is_listed}
use Rattle.association_table.specs.Gathering.{is_matched, is_numbered, first_numbered, gives_alone, put_once, Gathers, GathersNext, closed_all}
use Rattle.association_table.proofs.Stations.{found_over, add_over}

-- ---- tests and filters

or_false : (b : Bool) → b ≡ (b || false)
or_false true = refl
or_false false = refl

or_true : (b : Bool) → (b || true) ≡ true
or_true true = refl
or_true false = refl

and_false : (b : Bool) → (b && false) ≡ false
and_false true = refl
and_false false = refl

or_or : (a b c : Bool) → ((a || b) || c) ≡ (a || (b || c))
or_or true b c = refl
or_or false b c = refl

every_map : (P Q : Association → Type 0) → ((z : Association) → P z → Q z) → (es : List Association) → Every P es → Every Q es
every_map P Q f [] h = tt
every_map P Q f (z ∷ zs) h = (f z h.0, every_map P Q f zs h.1)

same_filter : (f g : Association → Bool) (es : List Association) → Every (λ z. f z ≡ g z) es → filter f es ≡ filter g es
same_filter f g [] h = refl
same_filter f g (z ∷ zs) h =
    ap (λ b. cond b (z ∷ filter f zs) (filter f zs)) h.0 ∙ ap (λ xs. cond (g z) (z ∷ xs) xs) (same_filter f g zs h.1)

over_filter : (f : Association → Bool) (j : ℕ) (es : List Association) → AllOver association_id j es
    → AllOver association_id j (filter f es)
over_filter f j [] h = tt
over_filter f j (z ∷ zs) h = elim (f z) as (λ b. AllOver association_id j (cond b (z ∷ filter f zs) (filter f zs))) [ true ↦ (h.0, over_filter f j zs h.1) | false ↦ over_filter f j zs h.1 ]

-- ---- one entry has an id

over_other : (k : ℕ) (a : Association) (es : List Association) → AllOver association_id k es → Every (λ z. z.id ≡ k → z ≡ a) es
over_other k a [] h = tt
over_other k a (z ∷ zs) h = ((λ q. absurd (omega (arith, h.0, q))), over_other k a zs h.1)

unique_by : (k : ℕ) (a y : Association) (ys : List Association) (b : Bool) → (y.id == k) ≡ b → AllOver association_id y.id ys
    → cond b (Some y) (found k ys) ≡ Some a
    → (found k ys ≡ Some a → Every (λ z. z.id ≡ k → z ≡ a) ys) → Every (λ z. z.id ≡ k → z ≡ a) (y ∷ ys)
unique_by k a y ys true s over q ih =
    let same : y ≡ a = cc in
    ((λ r. same), over_other k a ys (subst (λ i. AllOver association_id i ys) (eqb-true y.id k s) over))
unique_by k a y ys false s over q ih = ((λ r. absurd (grind (arith, nat_tests))), ih q)

unique : (k : ℕ) (a : Association) (es : List Association) → Rising association_id es → found k es ≡ Some a
    → Every (λ z. z.id ≡ k → z ≡ a) es
unique k a [] h q = tt
unique k a (y ∷ ys) h q = unique_by k a y ys (y.id == k) refl h.0 q (unique k a ys h.1)

found_filter_by : (f : Association → Bool) (k : ℕ) (a y : Association) (ys : List Association) (b c : Bool) → (y.id == k) ≡ b
    → f y ≡ c → AllOver association_id y.id ys
    → cond b (Some y) (found k ys) ≡ Some a → (found k ys ≡ Some a → found k (filter f ys) ≡ cond (f a) (Some a) None)
    → found k (cond c (y ∷ filter f ys) (filter f ys)) ≡ cond (f a) (Some a) None
found_filter_by f k a y ys true true s t over q ih =
    let same : y ≡ a = cc in
    ap (λ b. cond b (Some y) (found k (filter f ys))) s ∙ q ∙ sym (ap (λ b. cond b (Some a) None) (ap f (sym same) ∙ t))
found_filter_by f k a y ys true false s t over q ih =
    let same : y ≡ a = cc in
    at_over association_id k (filter f ys) (over_filter f k ys (subst (λ i. AllOver association_id i ys) (eqb-true y.id k s) over))
    ∙ sym (ap (λ b. cond b (Some a) None) (ap f (sym same) ∙ t))
found_filter_by f k a y ys false true s t over q ih = ap (λ b. cond b (Some y) (found k (filter f ys))) s ∙ ih q
found_filter_by f k a y ys false false s t over q ih = ih q

found_filter : (f : Association → Bool) (k : ℕ) (a : Association) (es : List Association) → Rising association_id es
    → found k es ≡ Some a → found k (filter f es) ≡ cond (f a) (Some a) None
found_filter f k a [] h q = absurd (cc)
found_filter f k a (y ∷ ys) h q = found_filter_by f k a y ys (y.id == k) (f y) refl refl h.0 q (found_filter f k a ys h.1)

-- ---- an entry is gathered

other_id : (f : Association → Bool) (k : ℕ) (z : Association) → k < z.id → f z ≡ (f z || (z.id == k))
other_id f k z lt =
    let isnt : (z.id == k) ≡ false = grind (arith, nat_tests) in
    or_false (f z) ∙ ap (λ b. f z || b) (sym isnt)

over_same : (f : Association → Bool) (k : ℕ) (es : List Association) → AllOver association_id k es
    → Every (λ z. f z ≡ (f z || (z.id == k))) es
over_same f k [] h = tt
over_same f k (z ∷ zs) h = (other_id f k z h.0, over_same f k zs h.1)

add_filter_by : (f : Association → Bool) (a y : Association) (ys : List Association) (b c : Bool) → (y.id == a.id) ≡ b → f y ≡ c
    → AllOver association_id y.id ys
    → cond b (Some y) (found a.id ys) ≡ Some a → f a ≡ false
    → (found a.id ys ≡ Some a → add association_id a (filter f ys) ≡ filter (λ z. f z || (z.id == a.id)) ys)
    → add association_id a (cond c (y ∷ filter f ys) (filter f ys))
    ≡ cond (c || b) (y ∷ filter (λ z. f z || (z.id == a.id)) ys) (filter (λ z. f z || (z.id == a.id)) ys)
add_filter_by f a y ys true true s t over q isnt ih =
    let same : y ≡ a = cc in
    absurd (let e = ap f same in cc)
add_filter_by f a y ys true false s t over q isnt ih =
    let same : y ≡ a = cc in
    let above = subst (λ i. AllOver association_id i ys) (eqb-true y.id a.id s) over in
    add_over a (filter f ys) (over_filter f a.id ys above)
    ∙ ap (λ zs. a ∷ zs) (same_filter f (λ z. f z || (z.id == a.id)) ys (over_same f a.id ys above))
    ∙ ap (λ w. w ∷ filter (λ z. f z || (z.id == a.id)) ys) (sym same)
add_filter_by f a y ys false true s t over q isnt ih =
    let lt : y.id < a.id = found_over a.id y.id a ys over q in
    let under : nat_lt y.id a.id ≡ true = grind (arith, nat_tests) in
    ap (λ b. cond b (y ∷ add association_id a (filter f ys)) (a ∷ y ∷ filter f ys)) under ∙ ap (λ zs. y ∷ zs) (ih q)
add_filter_by f a y ys false false s t over q isnt ih = ih q

add_filter : (f : Association → Bool) (a : Association) (es : List Association) → Rising association_id es → found a.id es ≡ Some a
    → f a ≡ false
    → add association_id a (filter f es) ≡ filter (λ z. f z || (z.id == a.id)) es
add_filter f a [] h q isnt = absurd (cc)
add_filter f a (y ∷ ys) h q isnt =
    add_filter_by f a y ys (y.id == a.id) (f y) refl refl h.0 q isnt (λ r. add_filter f a ys h.1 r isnt)

here_by : (f : Association → Bool) (a z : Association) (b : Bool) → (z.id == a.id) ≡ b → f a ≡ true → (z.id ≡ a.id → z ≡ a)
    → f z ≡ (f z || b)
here_by f a z true s t u =
    let so_is : f z ≡ true = ap f (u (eqb-true z.id a.id s)) ∙ t in
    so_is ∙ ap (λ b. b || true) (sym so_is)
here_by f a z false s t u = or_false (f z)

once_by : (f : Association → Bool) (a : Association) (es : List Association) (b : Bool) → f a ≡ b → Rising association_id es
    → found a.id es ≡ Some a
    → put_once a (filter f es) ≡ filter (λ z. f z || (z.id == a.id)) es
once_by f a es true t h q =
    let there = found_filter f a.id a es h q ∙ ap (λ b. cond b (Some a) None) t in
    ap (λ o. cond (is_some o) (filter f es) (add association_id a (filter f es))) there
    ∙ same_filter f (λ z. f z || (z.id == a.id)) es (every_map (λ z. z.id ≡ a.id → z ≡ a) (λ z. f z ≡ (f z || (z.id == a.id))) (λ z u. here_by f a z (z.id == a.id) refl t u) es (unique a.id a es h q))
once_by f a es false t h q =
    let there = found_filter f a.id a es h q ∙ ap (λ b. cond b (Some a) None) t in
    ap (λ o. cond (is_some o) (filter f es) (add association_id a (filter f es))) there ∙ add_filter f a es h q t

once : (f : Association → Bool) (a : Association) (es : List Association) → Rising association_id es → found a.id es ≡ Some a
    → put_once a (filter f es) ≡ filter (λ z. f z || (z.id == a.id)) es
once f a es h q = once_by f a es (f a) refl h q

-- ---- what a test gathers

no_more : (before test : Association → Bool) (z : Association) → test z ≡ false → before z ≡ (before z || test z)
no_more before test z isnt = or_false (before z) ∙ ap (λ b. before z || b) (sym isnt)

pub gathers_none : (test : Association → Bool) (es gs : List Association) → Every (λ z. test z ≡ false) es → Gathers test es gs gs
gathers_none test es gs h before q =
    q ∙ same_filter before (λ z. before z || test z) es (every_map (λ z. test z ≡ false) (λ z. before z ≡ (before z || test z)) (no_more before test) es h)

pub gathers_one : (test : Association → Bool) (a : Association) (es gs : List Association) → Rising association_id es
    → found a.id es ≡ Some a → Every (λ z. (z.id == a.id) ≡ test z) es
    → Gathers test es gs (put_once a gs)
gathers_one test a es gs h f t before q =
    ap (put_once a) q ∙ once before a es h f
    ∙ same_filter (λ z. before z || (z.id == a.id)) (λ z. before z || test z) es
    (every_map (λ z. (z.id == a.id) ≡ test z) (λ z. (before z || (z.id == a.id)) ≡ (before z || test z)) (λ z e. ap (λ b. before z || b) e) es t)

-- ---- by an id

-- an item with an id, and maybe an eNB UE id
abbrev named : ℕ → Option ℕ → Listed
named id n = record { id = Some id; enb_ue_id = n }

other_matched : (e id : ℕ) (n : Option ℕ) (z : Association) → (z.id == id) ≡ false → is_matched e (named id n) z ≡ false
other_matched e id n z isnt = ap (λ b. (z.station == e) && (b && agrees n z.enb_ue_id)) isnt ∙ and_false (z.station == e)

pub none_matched : (e id : ℕ) (n : Option ℕ) (es : List Association) → found id es ≡ None
    → Every (λ z. is_matched e (named id n) z ≡ false) es
none_matched e id n [] q = tt
none_matched e id n (y ∷ ys) q =
    let isnt : (y.id == id) ≡ false = grind (arith, nat_tests) in
    let rest : found id ys ≡ None = grind (arith, nat_tests) in
    (other_matched e id n y isnt, none_matched e id n ys rest)

matched_by : (e id : ℕ) (n : Option ℕ) (a z : Association) (b : Bool) → (z.id == id) ≡ b → (z.id ≡ id → z ≡ a)
    → is_matched e (named id n) z ≡ (b && is_matched e (named id n) a)
matched_by e id n a z true s u = ap (is_matched e (named id n)) (u (eqb-true z.id id s))
matched_by e id n a z false s u = other_matched e id n z s

pub others_matched : (e id : ℕ) (n : Option ℕ) (a : Association) (es : List Association) → Rising association_id es
    → found id es ≡ Some a → is_matched e (named id n) a ≡ false
    → Every (λ z. is_matched e (named id n) z ≡ false) es
others_matched e id n a es h q isnt =
    every_map (λ z. z.id ≡ id → z ≡ a) (λ z. is_matched e (named id n) z ≡ false)
    (λ z u. matched_by e id n a z (z.id == id) refl u ∙ ap (λ b. (z.id == id) && b) isnt ∙ and_false (z.id == id)) es (unique id a es h q)

and_true : (b : Bool) → b ≡ (b && true)
and_true true = refl
and_true false = refl

pub one_matched : (e id : ℕ) (n : Option ℕ) (a : Association) (es : List Association) → Rising association_id es
    → found id es ≡ Some a → is_matched e (named id n) a ≡ true
    → Every (λ z. (z.id == a.id) ≡ is_matched e (named id n) z) es
one_matched e id n a es h q so_is =
    let own = at_key association_id id a es q in
    every_map (λ z. z.id ≡ id → z ≡ a) (λ z. (z.id == a.id) ≡ is_matched e (named id n) z)
    (λ z u. ap (λ i. z.id == i) own ∙ and_true (z.id == id) ∙ ap (λ b. (z.id == id) && b) (sym so_is) ∙ sym (matched_by e id n a z (z.id == id) refl u)) es (unique id a es h q)

pub known_is : (id : ℕ) (a : Association) (es : List Association) → found id es ≡ Some a → found a.id es ≡ Some a
known_is id a es q = ap (λ i. found i es) (at_key association_id id a es q) ∙ q

pub own_matched : (e id : ℕ) (n : Option ℕ) (a : Association) (es : List Association) → found id es ≡ Some a
    → is_matched e (named id n) a ≡ (a.station == e && agrees n a.enb_ue_id)
own_matched e id n a es q =
    let own = at_key association_id id a es q in
    let so_is : (a.id == id) ≡ true = grind (arith, nat_tests) in
    ap (λ b. (a.station == e) && (b && agrees n a.enb_ue_id)) so_is

-- ---- by an eNB UE id

-- those of a number whose ids are below
abbrev pub below : ℕ → ℕ → ℕ → Association → Bool
below e n m z = is_numbered e n z && nat_lt z.id m

first_by : (e n m : ℕ) (a y : Association) (ys : List Association) (b c : Bool) → is_numbered e n y ≡ b → nat_le m y.id ≡ c
    → cond b (cond c (Some y) (first_numbered e n m ys)) (first_numbered e n m ys) ≡ Some a
    → (first_numbered e n m ys ≡ Some a → (is_numbered e n a ≡ true) × (m ≤ a.id)) → (is_numbered e n a ≡ true) × (m ≤ a.id)
first_by e n m a y ys true true s t q ih =
    let same : y ≡ a = cc in
    let le : m ≤ y.id = grind (arith, nat_tests) in
    (ap (is_numbered e n) (sym same) ∙ s, subst (λ (z : Association). m ≤ z.id) same le)
first_by e n m a y ys true false s t q ih = ih q
first_by e n m a y ys false c s t q ih = ih q

pub first_is_numbered : (e n m : ℕ) (a : Association) (es : List Association) → first_numbered e n m es ≡ Some a
    → (is_numbered e n a ≡ true) × (m ≤ a.id)
first_is_numbered e n m a [] q = absurd (cc)
first_is_numbered e n m a (y ∷ ys) q =
    first_by e n m a y ys (is_numbered e n y) (nat_le m y.id) refl refl q (first_is_numbered e n m a ys)

first_over_by : (e n m j : ℕ) (a y : Association) (ys : List Association) (b c : Bool) → j < y.id
    → cond b (cond c (Some y) (first_numbered e n m ys)) (first_numbered e n m ys) ≡ Some a
    → (first_numbered e n m ys ≡ Some a → j < a.id) → j < a.id
first_over_by e n m j a y ys true true lt q ih = let same : y ≡ a = cc in subst (λ (z : Association). j < z.id) same lt
first_over_by e n m j a y ys true false lt q ih = ih q
first_over_by e n m j a y ys false c lt q ih = ih q

first_numbered_over : (e n m j : ℕ) (a : Association) (es : List Association) → AllOver association_id j es
    → first_numbered e n m es ≡ Some a → j < a.id
first_numbered_over e n m j a [] h q = absurd (cc)
first_numbered_over e n m j a (y ∷ ys) h q =
    first_over_by e n m j a y ys (is_numbered e n y) (nat_le m y.id) h.0 q (first_numbered_over e n m j a ys h.1)

first_found_by : (e n m : ℕ) (a y : Association) (ys : List Association) (b c : Bool) → AllOver association_id y.id ys
    → cond b (cond c (Some y) (first_numbered e n m ys)) (first_numbered e n m ys) ≡ Some a
    → (first_numbered e n m ys ≡ Some a → found a.id ys ≡ Some a) → found a.id (y ∷ ys) ≡ Some a
first_found_by e n m a y ys true true over q ih =
    let same : y ≡ a = cc in subst (λ (z : Association). found z.id (y ∷ ys) ≡ Some z) same (grind (arith, nat_tests))
first_found_by e n m a y ys true false over q ih =
    let lt = first_numbered_over e n m y.id a ys over q in let rest = ih q in grind (arith, nat_tests)
first_found_by e n m a y ys false c over q ih =
    let lt = first_numbered_over e n m y.id a ys over q in let rest = ih q in grind (arith, nat_tests)

pub first_is_found : (e n m : ℕ) (a : Association) (es : List Association) → Rising association_id es
    → first_numbered e n m es ≡ Some a → found a.id es ≡ Some a
first_is_found e n m a [] h q = absurd (cc)
first_is_found e n m a (y ∷ ys) h q =
    first_found_by e n m a y ys (is_numbered e n y) (nat_le m y.id) h.0 q (first_is_found e n m a ys h.1)

-- nobody of the number stands between
abbrev IsFirst : ℕ → ℕ → ℕ → ℕ → Association → Type 0
IsFirst e n m id z = is_numbered e n z ≡ true → m ≤ z.id → id ≤ z.id

over_first : (e n m id : ℕ) (es : List Association) → AllOver association_id id es → Every (IsFirst e n m id) es
over_first e n m id [] h = tt
over_first e n m id (z ∷ zs) h = ((λ s t. omega (arith, h.0)), over_first e n m id zs h.1)

lowest_by : (e n m : ℕ) (a y : Association) (ys : List Association) (b c : Bool) → is_numbered e n y ≡ b → nat_le m y.id ≡ c
    → AllOver association_id y.id ys
    → cond b (cond c (Some y) (first_numbered e n m ys)) (first_numbered e n m ys) ≡ Some a
    → (first_numbered e n m ys ≡ Some a → Every (IsFirst e n m a.id) ys) → Every (IsFirst e n m a.id) (y ∷ ys)
lowest_by e n m a y ys true true s t over q ih =
    let same : y ≡ a = cc in
    subst (λ (w : Association). Every (IsFirst e n m w.id) (y ∷ ys)) same ((λ r l. omega arith), over_first e n m y.id ys over)
lowest_by e n m a y ys true false s t over q ih = ((λ r l. absurd (grind (arith, nat_tests))), ih q)
lowest_by e n m a y ys false c s t over q ih = ((λ r l. absurd (let isnt = sym s ∙ r in cc)), ih q)

first_lowest : (e n m : ℕ) (a : Association) (es : List Association) → Rising association_id es → first_numbered e n m es ≡ Some a
    → Every (IsFirst e n m a.id) es
first_lowest e n m a [] h q = tt
first_lowest e n m a (y ∷ ys) h q =
    lowest_by e n m a y ys (is_numbered e n y) (nat_le m y.id) refl refl h.0 q (first_lowest e n m a ys h.1)

none_by : (e n m : ℕ) (y : Association) (ys : List Association) (b c : Bool) → is_numbered e n y ≡ b → nat_le m y.id ≡ c
    → cond b (cond c (Some y) (first_numbered e n m ys)) (first_numbered e n m ys) ≡ None
    → (first_numbered e n m ys ≡ None → Every (λ z. below e n m z ≡ is_numbered e n z) ys)
    → Every (λ z. below e n m z ≡ is_numbered e n z) (y ∷ ys)
none_by e n m y ys true true s t q ih = absurd (cc)
none_by e n m y ys true false s t q ih =
    let lt : nat_lt y.id m ≡ true = grind (arith, nat_tests) in
    (ap (λ b. is_numbered e n y && b) lt ∙ sym (and_true (is_numbered e n y)), ih q)
none_by e n m y ys false c s t q ih = (ap (λ b. b && nat_lt y.id m) s ∙ sym s, ih q)

none_left : (e n m : ℕ) (es : List Association) → first_numbered e n m es ≡ None → Every (λ z. below e n m z ≡ is_numbered e n z) es
none_left e n m [] q = tt
none_left e n m (y ∷ ys) q = none_by e n m y ys (is_numbered e n y) (nat_le m y.id) refl refl q (none_left e n m ys)

none_below : (e n : ℕ) (es : List Association) → Every (λ z. below e n 0 z ≡ false) es
none_below e n [] = tt
none_below e n (z ∷ zs) =
    let over : nat_lt z.id 0 ≡ false = grind (arith, nat_tests) in
    (ap (λ b. is_numbered e n z && b) over ∙ and_false (is_numbered e n z), none_below e n zs)

pub number_begins : (e n : ℕ) (es gs : List Association) → Gathers (below e n 0) es gs gs
number_begins e n es gs = gathers_none (below e n 0) es gs (none_below e n es)

next_by : (e n m : ℕ) (a z : Association) (b : Bool) → is_numbered e n z ≡ b → is_numbered e n a ≡ true → m ≤ a.id
    → (z.id ≡ a.id → z ≡ a) → IsFirst e n m a.id z
    → ((b && nat_lt z.id m) || (z.id == a.id)) ≡ (b && nat_lt z.id (a.id + 1))
next_by e n m a z true s so_is le u l = let first : m ≤ z.id → a.id ≤ z.id = l s in grind (arith, nat_tests)
next_by e n m a z false s so_is le u l =
    let other : z.id ≡ a.id → ⊥ = λ r. (let isnt = sym s ∙ ap (is_numbered e n) (u r) ∙ so_is in cc) in
    grind (arith, nat_tests)

every_both : (P Q : Association → Type 0) (es : List Association) → Every P es → Every Q es → Every (λ z. P z × Q z) es
every_both P Q [] h k = tt
every_both P Q (z ∷ zs) h k = ((h.0, k.0), every_both P Q zs h.1 k.1)

pub number_goes_on : (e n m : ℕ) (a : Association) (es old gs : List Association) → Rising association_id es
    → first_numbered e n m es ≡ Some a → Gathers (below e n m) es old gs
    → Gathers (below e n (a.id + 1)) es old (put_once a gs)
number_goes_on e n m a es old gs h q so before p =
    let is = first_is_numbered e n m a es q in
    let there = first_is_found e n m a es h q in
    ap (put_once a) (so before p) ∙ once (λ z. before z || below e n m z) a es h there
    ∙ same_filter (λ z. (before z || below e n m z) || (z.id == a.id)) (λ z. before z || below e n (a.id + 1) z) es
    (every_map (λ z. (z.id ≡ a.id → z ≡ a) × IsFirst e n m a.id z) (λ z. ((before z || below e n m z) || (z.id == a.id)) ≡ (before z || below e n (a.id + 1) z))
    (λ z w. or_or (before z) (below e n m z) (z.id == a.id) ∙ ap (λ b. before z || b) (next_by e n m a z (is_numbered e n z) refl is.0 is.1 w.0 w.1)) es
    (every_both (λ z. z.id ≡ a.id → z ≡ a) (IsFirst e n m a.id) es (unique a.id a es h there) (first_lowest e n m a es h q)))

pub number_ends : (e n m : ℕ) (es old gs : List Association) → first_numbered e n m es ≡ None → Gathers (below e n m) es old gs
    → Gathers (is_numbered e n) es old gs
number_ends e n m es old gs q so before p =
    so before p
    ∙ same_filter (λ z. before z || below e n m z) (λ z. before z || is_numbered e n z) es
    (every_map (λ z. below e n m z ≡ is_numbered e n z) (λ z. (before z || below e n m z) ≡ (before z || is_numbered e n z)) (λ z w. ap (λ b. before z || b) w) es (none_left e n m es q))

-- ---- an item, and items

none_empty : (e : ℕ) (es : List Association) → Every (λ z. is_matched e (record { id = None; enb_ue_id = None }) z ≡ false) es
none_empty e [] = tt
none_empty e (z ∷ zs) = (and_false (z.station == e), none_empty e zs)

pub gathers_empty : (e : ℕ) (es gs : List Association) → Gathers (is_matched e (record { id = None; enb_ue_id = None })) es gs gs
gathers_empty e es gs = gathers_none (is_matched e (record { id = None; enb_ue_id = None })) es gs (none_empty e es)

pub none_listed : (e : ℕ) (es : List Association) → filter (is_listed e []) es ≡ []
none_listed e [] = refl
none_listed e (z ∷ zs) =
    ap (λ b. cond b (z ∷ filter (is_listed e []) zs) (filter (is_listed e []) zs)) (and_false (z.station == e)) ∙ none_listed e zs

any_next : (test : Listed → Bool) (i : ℕ) (x : Listed) (xs : List Listed) → i < length xs → x ≡ get_or xs i x
    → list_any test (take (suc i) xs) ≡ (list_any test (take i xs) || test x)
any_next test i x [] lt is = absurd (omega arith)
any_next test zero x (y ∷ ys) lt is = ap (λ w. test w || false) (sym is) ∙ sym (or_false (test x))
any_next test (suc i) x (y ∷ ys) lt is =
    ap (λ b. test y || b) (any_next test i x ys (omega arith) is) ∙ sym (or_or (test y) (list_any test (take i ys)) (test x))

and_or : (a b c : Bool) → (a && (b || c)) ≡ ((a && b) || (a && c))
and_or true b c = refl
and_or false b c = refl

pub listed_next : (e i : ℕ) (x : Listed) (xs : List Listed) (es gs hs : List Association) → i < length xs → x ≡ get_or xs i x
    → gs ≡ filter (is_listed e (take i xs)) es → GathersNext e (take i xs) x es gs hs
    → hs ≡ filter (is_listed e (take (suc i) xs)) es
listed_next e i x xs es gs hs lt is q so =
    so q ∙ same_filter (λ z. is_listed e (take i xs) z || is_matched e x z) (is_listed e (take (suc i) xs)) es (each es)
  where
    each : (zs : List Association)
        → Every (λ z. (is_listed e (take i xs) z || is_matched e x z) ≡ is_listed e (take (suc i) xs) z) zs
    each [] = tt
    each (z ∷ zs) =
        (sym (and_or (z.station == e) (list_any (matches z) (take i xs)) (matches z x)) ∙ ap (λ b. (z.station == e) && b) (sym (any_next (matches z) i x xs lt is)), each zs)

-- what gathers a test gathers an item that means the same
pub gathers_next : (e : ℕ) (xs : List Listed) (x : Listed) (es gs hs : List Association) → Gathers (is_matched e x) es gs hs
    → GathersNext e xs x es gs hs
gathers_next e xs x es gs hs so q = so (is_listed e xs) q

-- an item that names the number means what it means alone
abbrev alone : ℕ → Listed
alone n = record { id = None; enb_ue_id = Some n }

named_means_by : (e n : ℕ) (z : Association) (id number : Option ℕ) → gives_alone n (record { id = id; enb_ue_id = number }) ≡ true
    → is_matched e (alone n) z ≡ true → matches z (record { id = id; enb_ue_id = number }) ≡ true
named_means_by e n z (Some id) number q s = absurd (cc)
named_means_by e n z None None q s = absurd (cc)
named_means_by e n z None (Some number) q s =
    let same : n ≡ number = eqb-true n number q in
    let own : (z.enb_ue_id == n) ≡ true = grind (arith, nat_tests) in
    ap (λ m. z.enb_ue_id == m) (sym same) ∙ own

named_any_by : (e n : ℕ) (z : Association) (x : Listed) (xs : List Listed) (b : Bool) → gives_alone n x ≡ b
    → (b || list_any (gives_alone n) xs) ≡ true → is_matched e (alone n) z ≡ true
    → (list_any (gives_alone n) xs ≡ true → list_any (matches z) xs ≡ true) → list_any (matches z) (x ∷ xs) ≡ true
named_any_by e n z x xs true t r s ih = ap (λ b. b || list_any (matches z) xs) (named_means_by e n z x.id x.enb_ue_id t s)
named_any_by e n z x xs false t r s ih = ap (λ b. matches z x || b) (ih r) ∙ or_true (matches z x)

named_any : (e n : ℕ) (z : Association) (xs : List Listed) → list_any (gives_alone n) xs ≡ true → is_matched e (alone n) z ≡ true
    → list_any (matches z) xs ≡ true
named_any e n z [] q s = absurd (cc)
named_any e n z (x ∷ xs) q s = named_any_by e n z x xs (gives_alone n x) refl q s (λ r. named_any e n z xs r s)

named_same_by : (e n : ℕ) (xs : List Listed) (z : Association) (b : Bool) → is_matched e (alone n) z ≡ b
    → list_any (gives_alone n) xs ≡ true → is_listed e xs z ≡ (is_listed e xs z || b)
named_same_by e n xs z true s q =
    let here : (z.station == e) ≡ true = grind (arith, nat_tests) in
    let all : is_listed e xs z ≡ true = ap (λ b. b && list_any (matches z) xs) here ∙ named_any e n z xs q s in
    all ∙ sym (or_true (is_listed e xs z))
named_same_by e n xs z false s q = or_false (is_listed e xs z)

pub named_before : (e n : ℕ) (xs : List Listed) (es gs : List Association) → list_any (gives_alone n) xs ≡ true
    → GathersNext e xs (alone n) es gs gs
named_before e n xs es gs h q = q ∙ same_filter (is_listed e xs) (λ z. is_listed e xs z || is_matched e (alone n) z) es (each es)
  where
    each : (zs : List Association) → Every (λ z. is_listed e xs z ≡ (is_listed e xs z || is_matched e (alone n) z)) zs
    each [] = tt
    each (z ∷ zs) = (named_same_by e n xs z (is_matched e (alone n) z) refl h, each zs)

-- ---- closing all that were gathered

closed_over : (y : Association) (gs ys : List Association) → AllOver association_id y.id gs
    → closed_all gs (y ∷ ys) ≡ y ∷ closed_all gs ys
closed_over y [] ys h = refl
closed_over y (g ∷ gs) ys h =
    let lt : y.id < g.id = h.0 in
    let other : (y.id == g.id) ≡ false = grind (arith, nat_tests) in
    ap (λ b. closed_all gs (cond b ys (y ∷ closed g.id ys))) other ∙ closed_over y gs (closed g.id ys) h.1

closed_by : (f : Association → Bool) (y : Association) (ys : List Association) (b : Bool) → AllOver association_id y.id ys
    → closed_all (filter f ys) ys ≡ filter (λ z. not (f z)) ys
    → closed_all (cond b (y ∷ filter f ys) (filter f ys)) (y ∷ ys)
    ≡ cond (not b) (y ∷ filter (λ z. not (f z)) ys) (filter (λ z. not (f z)) ys)
closed_by f y ys true over ih =
    let own : (y.id == y.id) ≡ true = grind (arith, nat_tests) in
    ap (λ b. closed_all (filter f ys) (cond b ys (y ∷ closed y.id ys))) own ∙ ih
closed_by f y ys false over ih = closed_over y (filter f ys) ys (over_filter f y.id ys over) ∙ ap (λ zs. y ∷ zs) ih

pub closed_filter : (f : Association → Bool) (es : List Association) → Rising association_id es
    → closed_all (filter f es) es ≡ filter (λ z. not (f z)) es
closed_filter f [] h = refl
closed_filter f (y ∷ ys) h = closed_by f y ys (f y) h.0 (closed_filter f ys h.1)

pub close_next : (a : Association) (gs es : List Association) → lowest gs ≡ Some a
    → closed_all (drop 1 gs) (closed a.id es) ≡ closed_all gs es
close_next a [] es q = absurd (cc)
close_next a (g ∷ gs) es q = let same : g ≡ a = cc in ap (λ (z : Association). closed_all gs (closed z.id es)) (sym same)

pub fewer : (a : Association) (gs : List Association) → lowest gs ≡ Some a → length (drop 1 gs) < length gs
fewer a [] q = absurd (cc)
fewer a (g ∷ gs) q = omega arith

pub close_end : (gs es : List Association) → lowest gs ≡ None → closed_all gs es ≡ es
close_end [] es q = refl
close_end (g ∷ gs) es q = absurd (cc)
