-- What a change of the slab and its list makes of the rows.
use Rattle.std.proofs.Common.{◌≡◌, ◌≢◌, ℕ, ◌+◌, ◌<◌, ◌≤◌, ◌^◌, List, [], ◌∷◌, length, refl, sym, ◌∙◌, ap, subst, arith}
use Rattle.std.specs.Prelude.{◌==◌, nat_lt, Option, Some, None, IsSome, Bool, true, false, cond, option_map}
use Rattle.std.proofs.lemmas.Bool.Decides.{nat_tests}
use borrow.Author.Tests.{eqb-true}
use Rattle.slab.specs.Slab.{Slab, get, slab_len, Updates}
use Rattle.sorted_list.specs.Ordered.{add, at, put, without, AllOver, Rising, Every, Distinct}
use Rattle.sorted_list.specs.Laws.{put_add, rising-without}
use Rattle.sorted_list.specs.Indexed.{every-add, every-without, every_at, rising-add, distinct_add, distinct_other, gone_other, map-add, map-without, at-map, rising-map, not_member}
use Rattle.sorted_list.specs.Sorted.{lowest_from}
use Rattle.mme_tables.specs.declared.places.StrangerPlace.{StrangerPlace}
use Rattle.mme_tables.specs.declared.sleeper.Sleeper.{Sleeper}
use Rattle.mme_tables.specs.KeptStrangers.{IsTable, row_at, rows_of, or_blank, place_id, place_key}
use Rattle.mme_tables.specs.StrangerRows.{AreRows, Row, row_id}

-- ---- what stands in the list is what stands in the slab

pub rising_rows : (s : Slab Sleeper) (ps : List StrangerPlace) → Rising place_id ps → Rising row_id (rows_of s ps)
rising_rows s ps h = rising-map (row_at s) row_id ps h

pub at_rows : (s : Slab Sleeper) (id : ℕ) (ps : List StrangerPlace)
    → at row_id id (rows_of s ps) ≡ option_map (row_at s) (at place_id id ps)
at_rows s id ps = at-map (row_at s) row_id id ps

lowest_by : (s : Slab Sleeper) (n : ℕ) (p : StrangerPlace) (ps : List StrangerPlace) (b : Bool)
    → lowest_from row_id n (rows_of s ps) ≡ option_map (row_at s) (lowest_from place_id n ps)
    → cond b (lowest_from row_id n (rows_of s ps)) (Some (row_at s p))
    ≡ option_map (row_at s) (cond b (lowest_from place_id n ps) (Some p))
lowest_by s n p ps true ih = ih
lowest_by s n p ps false ih = refl

pub lowest_rows : (s : Slab Sleeper) (n : ℕ) (ps : List StrangerPlace)
    → lowest_from row_id n (rows_of s ps) ≡ option_map (row_at s) (lowest_from place_id n ps)
lowest_rows s n [] = refl
lowest_rows s n (p ∷ ps) = lowest_by s n p ps (nat_lt p.id n) (lowest_rows s n ps)

lowest_over : (n j : ℕ) (p : StrangerPlace) (ps : List StrangerPlace) → AllOver place_id j ps → lowest_from place_id n ps ≡ Some p
    → j < p.id
lowest_over n j p [] h q = absurd cc
lowest_over n j p (y ∷ ys) h q = let ih = lowest_over n j p ys h.1 in let lt : j < y.id = h.0 in grind (arith, nat_tests)

-- the first place from a number on is that of its id
pub at_lowest : (n : ℕ) (p : StrangerPlace) (ps : List StrangerPlace) → Rising place_id ps → lowest_from place_id n ps ≡ Some p
    → at place_id p.id ps ≡ Some p
at_lowest n p [] h q = absurd cc
at_lowest n p (y ∷ ys) h q = let ih = at_lowest n p ys h.1 in let over = lowest_over n y.id p ys h.0 in grind (arith, nat_tests)

pub lowest_high : (n : ℕ) (p : StrangerPlace) (ps : List StrangerPlace) → lowest_from place_id n ps ≡ Some p → n ≤ p.id
lowest_high n p [] q = absurd cc
lowest_high n p (y ∷ ys) q = let ih = lowest_high n p ys in grind (arith, nat_tests)

later : (j id : ℕ) (p : StrangerPlace) (ps : List StrangerPlace) → AllOver place_id j ps → at place_id id ps ≡ Some p → j < id
later j id p [] h q = absurd cc
later j id p (y ∷ ys) h q = let ih = later j id p ys h.1 in let lt : j < y.id = h.0 in grind (arith, nat_tests)

-- ---- a change at another key

pub none_some : {X : Type 0} (o : Option X) → IsSome o → o ≡ None → ⊥
none_some None h e = cc
none_some (Some x) h e = cc

vacant_by : (s : Slab Sleeper) (key : ℕ) (p : StrangerPlace) (ps : List StrangerPlace) (b : Bool) → (p.key == key) ≡ b
    → get s key ≡ None → IsSome (get s p.key) → at place_key key ps ≡ None
    → cond b (Some p) (at place_key key ps) ≡ None
vacant_by s key p ps true e n h ih =
    let same : p.key ≡ key = eqb-true _ _ e in absurd (none_some (get s key) (subst (λ k. IsSome (get s k)) same h) n)
vacant_by s key p ps false e n h ih = ih

pub vacant_none : (s : Slab Sleeper) (key : ℕ) (ps : List StrangerPlace) → get s key ≡ None → Every (λ p. IsSome (get s p.key)) ps
    → at place_key key ps ≡ None
vacant_none s key [] n h = refl
vacant_none s key (p ∷ ps) n h = vacant_by s key p ps (p.key == key) refl n h.0 (vacant_none s key ps n h.1)

other_key : (key : ℕ) (p : StrangerPlace) (ps : List StrangerPlace) → at place_key key (p ∷ ps) ≡ None
    → (p.key ≡ key → ⊥) × (at place_key key ps ≡ None)
other_key key p ps h = ((λ e. grind (arith, nat_tests)), grind (arith, nat_tests))

pub same_rows : (s t : Slab Sleeper) (key : ℕ) (ps : List StrangerPlace) → ((o : ℕ) → o ≢ key → get t o ≡ get s o)
    → at place_key key ps ≡ None → rows_of t ps ≡ rows_of s ps
same_rows s t key [] u h = refl
same_rows s t key (p ∷ ps) u h =
    let o = other_key key p ps h in
    ap (λ x. record { id = p.id; sleeper = or_blank x } ∷ rows_of t ps) (u p.key o.0) ∙ ap (λ ks. row_at s p ∷ ks) (same_rows s t key ps u o.1)

pub same_held : (s t : Slab Sleeper) (key : ℕ) (ps : List StrangerPlace) → ((o : ℕ) → o ≢ key → get t o ≡ get s o)
    → at place_key key ps ≡ None → Every (λ p. IsSome (get s p.key)) ps
    → Every (λ p. IsSome (get t p.key)) ps
same_held s t key [] u n h = tt
same_held s t key (p ∷ ps) u n h =
    let o = other_key key p ps n in
    (subst IsSome (sym (u p.key o.0)) h.0, same_held s t key ps u o.1 h.1)

some_is : (o : Option Sleeper) (x : Sleeper) → o ≡ Some x → IsSome o
some_is o x e = subst IsSome (sym e) refl

-- ---- how many stand in the list

length_add : (p : StrangerPlace) (ps : List StrangerPlace) → length (add place_id p ps) ≡ length ps + 1
length_add p [] = refl
length_add p (y ∷ ys) = let ih = length_add p ys in grind (arith, nat_tests)

length_without : (id : ℕ) (p : StrangerPlace) (ps : List StrangerPlace) → at place_id id ps ≡ Some p
    → length (without place_id id ps) + 1 ≡ length ps
length_without id p [] q = absurd cc
length_without id p (y ∷ ys) q = let ih = length_without id p ys in grind (arith, nat_tests)

-- ---- a new stranger

pub added_rows : (s t : Slab Sleeper) (id key : ℕ) (x : Sleeper) (ps : List StrangerPlace) → IsTable s ps → at place_id id ps ≡ None
    → get s key ≡ None → Updates s t key (Some x)
    → rows_of t (add place_id (record { id = id; key = key }) ps) ≡ put row_id (record { id = id; sleeper = x }) (rows_of s ps)
added_rows s t id key x ps k f n u =
    let free = at_rows s id ps ∙ ap (option_map (row_at s)) f in
    map-add (row_at t) row_id (record { id = id; key = key }) ps
    ∙ ap (λ o. add row_id (record { id = id; sleeper = or_blank o }) (rows_of t ps)) u.changed
    ∙ ap (add row_id (record { id = id; sleeper = x })) (same_rows s t key ps u.others (vacant_none s key ps n k.held))
    ∙ sym (put_add row_id (record { id = id; sleeper = x }) (rows_of s ps) free)

pub added_table : (s t : Slab Sleeper) (id key : ℕ) (x : Sleeper) (ps : List StrangerPlace) → IsTable s ps
    → at place_id id ps ≡ None → get s key ≡ None → Updates s t key (Some x)
    → slab_len t ≡ slab_len s + 1 → id < 2 ^ 32 → IsTable t (add place_id (record { id = id; key = key }) ps)
added_table s t id key x ps k f n u len lt =
    let p : StrangerPlace = record { id = id; key = key } in
    let none = vacant_none s key ps n k.held in
    record {
      rising = rising-add place_id p ps f k.rising;
      keys = distinct_add place_id place_key p ps k.keys none;
      held = every-add (λ q. IsSome (get t q.key)) place_id p ps (some_is (get t key) x u.changed) (same_held s t key ps u.others none k.held);
      alone = len ∙ ap (λ n. n + 1) k.alone ∙ sym (length_add p ps);
      small = every-add (λ q. q.id < 2 ^ 32) place_id p ps lt k.small;
    }

-- ---- another stranger at a place

row_here : (n id : ℕ) (o : Option Sleeper) (x : Sleeper) → n ≡ id → o ≡ Some x
    → (let k : Row = record { id = n; sleeper = or_blank o } in k) ≡ record { id = id; sleeper = x }
row_here n id o x here is =
    ap (λ m. record { id = m; sleeper = or_blank o }) here ∙ ap (λ y. record { id = id; sleeper = or_blank y }) is

put_by : (s t : Slab Sleeper) (id : ℕ) (x : Sleeper) (p q : StrangerPlace) (qs : List StrangerPlace) (b : Bool) → (q.id == id) ≡ b
    → Rising place_id (q ∷ qs) → Distinct place_key (q ∷ qs)
    → cond b (Some q) (at place_id id qs) ≡ Some p → Updates s t p.key (Some x)
    → (at place_id id qs ≡ Some p → rows_of t qs ≡ put row_id (record { id = id; sleeper = x }) (rows_of s qs))
    → rows_of t (q ∷ qs) ≡ put row_id (record { id = id; sleeper = x }) (rows_of s (q ∷ qs))
put_by s t id x p q qs true e r d h u ih =
    let same : q ≡ p = cc in
    let here : q.id ≡ id = eqb-true _ _ e in
    let changed : get t q.key ≡ Some x = ap (λ (z : StrangerPlace). get t z.key) same ∙ u.changed in
    let none : at place_key p.key qs ≡ None = subst (λ (z : StrangerPlace). at place_key z.key qs ≡ None) same d.0 in
    let rest = same_rows s t p.key qs u.others none in
    let head : row_at t q ≡ record { id = id; sleeper = x } = row_here q.id id (get t q.key) x here changed in
    let there : put row_id (record { id = id; sleeper = x }) (rows_of s (q ∷ qs)) ≡ record { id = id; sleeper = x } ∷ rows_of s qs =
    grind (arith, nat_tests) in
    ap (λ y. y ∷ rows_of t qs) head ∙ ap (λ ys. record { id = id; sleeper = x } ∷ ys) rest ∙ sym there
put_by s t id x p q qs false e r d h u ih =
    let lt : q.id < id = later q.id id p qs r.0 h in
    let under : nat_lt q.id id ≡ true = grind (arith, nat_tests) in
    let other = not_member place_id place_key q.key id p qs h d.0 in
    let kept = u.others q.key (λ same. other (sym same)) in
    ap (λ o. record { id = q.id; sleeper = or_blank o } ∷ rows_of t qs) kept ∙ rw under (ap (λ ks. row_at s q ∷ ks) (ih h))

pub put_rows : (s t : Slab Sleeper) (id : ℕ) (x : Sleeper) (p : StrangerPlace) (ps : List StrangerPlace) → Rising place_id ps
    → Distinct place_key ps → at place_id id ps ≡ Some p
    → Updates s t p.key (Some x) → rows_of t ps ≡ put row_id (record { id = id; sleeper = x }) (rows_of s ps)
put_rows s t id x p [] r d h u = absurd cc
put_rows s t id x p (q ∷ qs) r d h u = put_by s t id x p q qs (q.id == id) refl r d h u (λ g. put_rows s t id x p qs r.1 d.1 g u)

held_by : (s t : Slab Sleeper) (key : ℕ) (x : Sleeper) (q : StrangerPlace) (b : Bool) → (q.key == key) ≡ b
    → Updates s t key (Some x) → IsSome (get s q.key) → IsSome (get t q.key)
held_by s t key x q true e u h = let same : q.key ≡ key = eqb-true _ _ e in some_is (get t q.key) x (ap (get t) same ∙ u.changed)
held_by s t key x q false e u h = let other : q.key ≢ key = grind (arith, nat_tests) in subst IsSome (sym (u.others q.key other)) h

put_held : (s t : Slab Sleeper) (key : ℕ) (x : Sleeper) (ps : List StrangerPlace) → Updates s t key (Some x)
    → Every (λ p. IsSome (get s p.key)) ps → Every (λ p. IsSome (get t p.key)) ps
put_held s t key x [] u h = tt
put_held s t key x (q ∷ qs) u h = (held_by s t key x q (q.key == key) refl u h.0, put_held s t key x qs u h.1)

pub put_table : (s t : Slab Sleeper) (key : ℕ) (x : Sleeper) (ps : List StrangerPlace) → IsTable s ps → Updates s t key (Some x)
    → slab_len t ≡ slab_len s → IsTable t ps
put_table s t key x ps k u len = record {
  rising = k.rising;
  keys = k.keys;
  held = put_held s t key x ps u k.held;
  alone = len ∙ k.alone;
  small = k.small;
}

-- ---- a closing

pub closed_rows : (s t : Slab Sleeper) (id : ℕ) (p : StrangerPlace) (ps : List StrangerPlace) → Distinct place_key ps
    → at place_id id ps ≡ Some p → Updates s t p.key None
    → rows_of t (without place_id id ps) ≡ without row_id id (rows_of s ps)
closed_rows s t id p ps d h u =
    same_rows s t p.key (without place_id id ps) u.others (gone_other place_id place_key id p ps d h)
    ∙ map-without (row_at s) row_id id ps

pub closed_table : (s t : Slab Sleeper) (id : ℕ) (p : StrangerPlace) (ps : List StrangerPlace) → IsTable s ps
    → at place_id id ps ≡ Some p → Updates s t p.key None → slab_len t + 1 ≡ slab_len s
    → IsTable t (without place_id id ps)
closed_table s t id p ps k h u len =
    let gone = gone_other place_id place_key id p ps k.keys h in
    let fewer = length_without id p ps h in
    let alone = k.alone in
    record {
      rising = rising-without place_id id ps k.rising;
      keys = distinct_other place_id place_key id ps k.keys;
      held = same_held s t p.key (without place_id id ps) u.others gone (every-without (λ q. IsSome (get s q.key)) place_id id ps k.held);
      alone = omega arith;
      small = every-without (λ q. q.id < 2 ^ 32) place_id id ps k.small;
    }

-- ---- more room

pub table_room : (s t : Slab Sleeper) (ps qs : List StrangerPlace) → IsTable s ps → t ≡ record s { capacity = t.capacity } → qs ≡ ps
    → IsTable t qs
table_room s t ps qs k e f =
    let there : IsTable (record s { capacity = t.capacity }) ps =
    record { rising = k.rising; keys = k.keys; held = k.held; alone = k.alone; small = k.small } in
    subst (λ x. IsTable x qs) (sym e) (subst (IsTable (record s { capacity = t.capacity })) (sym f) there)

-- ---- what stands at a place

pub there_some : (s : Slab Sleeper) (id : ℕ) (p : StrangerPlace) (ps : List StrangerPlace) → IsTable s ps
    → at place_id id ps ≡ Some p → IsSome (get s p.key)
there_some s id p ps k h = every_at (λ q. IsSome (get s q.key)) place_id id p ps h k.held

blank_some : (o : Option Sleeper) → IsSome o → o ≡ Some (or_blank o)
blank_some None h = absurd cc
blank_some (Some x) h = refl

pub at_place : (s : Slab Sleeper) (id : ℕ) (p : StrangerPlace) (ps : List StrangerPlace) → IsTable s ps → at place_id id ps ≡ Some p
    → get s p.key ≡ Some (row_at s p).sleeper
at_place s id p ps k h = blank_some (get s p.key) (there_some s id p ps k h)

pub same_room : (s t : Slab Sleeper) (ps qs : List StrangerPlace) → t ≡ record s { capacity = t.capacity } → qs ≡ ps
    → rows_of t qs ≡ rows_of s ps
same_room s t ps qs e f = ap (λ x. rows_of x qs) e ∙ ap (rows_of (record s { capacity = t.capacity })) f

-- ---- the rows

small_rows : (s : Slab Sleeper) (ps : List StrangerPlace) → Every (λ p. p.id < 2 ^ 32) ps
    → Every (λ (r : Row). r.id < 2 ^ 32) (rows_of s ps)
small_rows s [] h = tt
small_rows s (p ∷ ps) h = (h.0, small_rows s ps h.1)

pub table_rows : (s : Slab Sleeper) (ps : List StrangerPlace) → IsTable s ps → AreRows (rows_of s ps)
table_rows s ps k = record { rising = rising_rows s ps k.rising; small = small_rows s ps k.small }
