-- The entries of a station, and how they are found by the index.
use Rattle.std.proofs.Common.{◌≡◌, ℕ, ◌+◌, ◌^◌, ◌<◌, ◌≤◌, List, [], ◌∷◌, length, map, refl, sym, ◌∙◌, ap, subst, arith}
use Rattle.std.specs.Prelude.{nat_lt, nat_le, ◌==◌, Option, Some, None, Bool, true, false, cond, if◌then◌else◌, option_map}
use Rattle.std.proofs.lemmas.Bool.{eq-eqb, eqb-true}
use Rattle.std.proofs.lemmas.Bool.Decides.{nat_tests}
use Rattle.std.proofs.lemmas.Option.{none-some}
use Rattle.sorted_list.specs.Laws.{at_over}
use Rattle.sorted_list.specs.Sorted.{lowest_from}
use Rattle.sorted_list.specs.Ordered.{add, ordered, AllOver, Rising, Every}
use Rattle.sorted_list.specs.Indexed.{every-ordered}
use Rattle.association_table.specs.declared.association.Association.{Association}
use Rattle.association_table.specs.declared.places.IndexEntry.{IndexEntry}
use Rattle.association_table.specs.Table.{association_id, found, opened, closed, moved, at_station, elsewhere}
use Rattle.slab.specs.Slab.{Slab}
use Rattle.association_table.specs.declared.places.Held.{Held}
use Rattle.association_table.specs.declared.places.SlabPlace.{SlabPlace}
use Rattle.association_table.proofs.Entries.{rising_entries}
use Rattle.association_table.specs.Gathering.{is_numbered, first_numbered}
use Rattle.sorted_list.specs.Paired.{paired}
use Rattle.association_table.specs.Kept.{IsTable, entries_of, station_group, number_group, group_at, index_entry, index_rank, indexing, index_of, IsId, IsIndexEntry, first_indexed, first_from}

-- ---- the search among the index

entry_over : (e n j : ℕ) (ss : List IndexEntry) → paired e (2 ^ 32) ≤ j → AllOver index_rank j ss → Every IsIndexEntry ss
    → first_indexed e n ss ≡ None
entry_over e n j [] le h s = refl
entry_over e n j (y ∷ ys) le h s =
    let ih = entry_over e n j ys le h.1 s.1 in
    let lt : j < index_rank y = h.0 in
    let small : y.id < 2 ^ 32 = s.0 in
    let other : y.group ≡ e → ⊥ = λ q. absurd (omega arith) in
    grind (arith, nat_tests)

passed : (e n : ℕ) (y : IndexEntry) → index_rank y < paired e n → y.group ≡ e → y.id < n
passed e n y lt q = omega arith

pub entry_end : (e n : ℕ) (ss : List IndexEntry) → lowest_from index_rank (paired e n) ss ≡ None → first_indexed e n ss ≡ None
entry_end e n [] p = refl
entry_end e n (y ∷ ys) p =
    let ih = entry_end e n ys in
    let past = passed e n y in
    grind (arith, nat_tests)

next_station : (e n : ℕ) (y : IndexEntry) → paired e n ≤ index_rank y → y.id < 2 ^ 32 → (y.group ≡ e → ⊥)
    → paired e (2 ^ 32) ≤ index_rank y
next_station e n y le small other = omega arith

entry_absent_by : (e n : ℕ) (s y : IndexEntry) (ys : List IndexEntry) (b : Bool) → nat_lt (index_rank y) (paired e n) ≡ b
    → Rising index_rank (y ∷ ys) → Every IsIndexEntry (y ∷ ys)
    → cond b (lowest_from index_rank (paired e n) ys) (Some y) ≡ Some s → (s.group ≡ e → ⊥)
    → (lowest_from index_rank (paired e n) ys ≡ Some s → first_indexed e n ys ≡ None)
    → first_indexed e n (y ∷ ys) ≡ None
entry_absent_by e n s y ys true t h small q other ih =
    let rest = ih q in
    let past = passed e n y in
    grind (arith, nat_tests)
entry_absent_by e n s y ys false t h small q other ih =
    let same : y ≡ s = cc in
    let apart : y.group ≡ e → ⊥ = subst (λ (z : IndexEntry). z.group ≡ e → ⊥) (sym same) other in
    let le : paired e n ≤ index_rank y = grind (arith, nat_tests) in
    let rest = entry_over e n (index_rank y) ys (next_station e n y le small.0 apart) h.0 small.1 in
    grind (arith, nat_tests)

pub entry_absent : (e n : ℕ) (s : IndexEntry) (ss : List IndexEntry) → Rising index_rank ss → Every IsIndexEntry ss
    → lowest_from index_rank (paired e n) ss ≡ Some s → (s.group ≡ e → ⊥)
    → first_indexed e n ss ≡ None
entry_absent e n s [] h small q other = refl
entry_absent e n s (y ∷ ys) h small q other =
    entry_absent_by e n s y ys (nat_lt (index_rank y) (paired e n)) refl h small q other
    (λ r. entry_absent e n s ys h.1 small.1 r other)

entry_found_by : (e n : ℕ) (s y : IndexEntry) (ys : List IndexEntry) (b : Bool) → nat_lt (index_rank y) (paired e n) ≡ b
    → cond b (lowest_from index_rank (paired e n) ys) (Some y) ≡ Some s → s.group ≡ e
    → (lowest_from index_rank (paired e n) ys ≡ Some s → first_indexed e n ys ≡ Some s.id)
    → first_indexed e n (y ∷ ys) ≡ Some s.id
entry_found_by e n s y ys true t q there ih =
    let rest = ih q in
    let past = passed e n y in
    grind (arith, nat_tests)
entry_found_by e n s y ys false t q there ih =
    let same : y ≡ s = cc in
    let here : y.group ≡ e = subst (λ (z : IndexEntry). z.group ≡ e) (sym same) there in
    let le : paired e n ≤ index_rank y = grind (arith, nat_tests) in
    let high : n ≤ y.id = omega arith in
    let id : s.id ≡ y.id = ap (λ (z : IndexEntry). z.id) (sym same) in
    grind (arith, nat_tests)

pub entry_found : (e n : ℕ) (s : IndexEntry) (ss : List IndexEntry) → lowest_from index_rank (paired e n) ss ≡ Some s → s.group ≡ e
    → first_indexed e n ss ≡ Some s.id
entry_found e n s [] q there = absurd (cc)
entry_found e n s (y ∷ ys) q there =
    entry_found_by e n s y ys (nat_lt (index_rank y) (paired e n)) refl q there (λ r. entry_found e n s ys r there)

-- ---- the index are those of the entries

entry_map_by : (a : Association) (s : Option ℕ) (f : Option Association) (b c : Bool) → s ≡ option_map association_id f
    → cond b (cond c (Some a.id) s) s ≡ option_map association_id (cond b (cond c (Some a) f) f)
entry_map_by a s f true true ih = refl
entry_map_by a s f true false ih = ih
entry_map_by a s f false c ih = ih

entry_map : (group : Association → ℕ) (e n : ℕ) (zs : List Association)
    → first_indexed e n (map (index_entry group) zs) ≡ option_map association_id (first_from group e n zs)
entry_map group e n [] = refl
entry_map group e n (a ∷ zs) = entry_map_by a _ _ (group a == e) (nat_le n a.id) (entry_map group e n zs)

-- an entry stands before the others of its group
abbrev IsBefore : (Association → ℕ) → Association → Association → Type 0
IsBefore group a z = group z ≡ group a → indexing group a < indexing group z

first_add : (group : Association → ℕ) (e n : ℕ) (a : Association) (zs : List Association) → Every (IsBefore group a) zs
    → first_from group e n (add (indexing group) a zs) ≡ first_from group e n (a ∷ zs)
first_add group e n a [] h = refl
first_add group e n a (y ∷ ys) h =
    let ih = first_add group e n a ys h.1 in
    let before : group y ≡ group a → indexing group a < indexing group y = h.0 in
    grind (arith, nat_tests)

before_by : (group : Association → ℕ) (a z : Association) → a.id < z.id → IsBefore group a z
before_by group a z lt q = omega (arith, lt, q)

befores : (group : Association → ℕ) (a : Association) (es : List Association) → AllOver association_id a.id es
    → Every (IsBefore group a) es
befores group a [] h = tt
befores group a (z ∷ zs) h = (before_by group a z h.0, befores group a zs h.1)

first_ordered : (group : Association → ℕ) (e n : ℕ) (es : List Association) → Rising association_id es
    → first_from group e n (ordered (indexing group) es) ≡ first_from group e n es
first_ordered group e n [] h = refl
first_ordered group e n (a ∷ es) h =
    first_add group e n a (ordered (indexing group) es)
    (every-ordered (IsBefore group a) (indexing group) es (befores group a es h.0))
    ∙ ap (λ f. if group a == e then (if nat_le n a.id then Some a else f) else f) (first_ordered group e n es h.1)

pub first_by_index : (group : Association → ℕ) (e n : ℕ) (es : List Association) → Rising association_id es
    → first_indexed e n (index_of group es) ≡ option_map association_id (first_from group e n es)
first_by_index group e n es h =
    entry_map group e n (ordered (indexing group) es) ∙ ap (option_map association_id) (first_ordered group e n es h)

index_small_by : (group : Association → ℕ) (zs : List Association) → Every IsId zs → Every IsIndexEntry (map (index_entry group) zs)
index_small_by group [] h = tt
index_small_by group (z ∷ zs) h = (h.0.0, index_small_by group zs h.1)

pub index_small : (group : Association → ℕ) (es : List Association) → Every IsId es → Every IsIndexEntry (index_of group es)
index_small group es h = index_small_by group (ordered (indexing group) es) (every-ordered IsId (indexing group) es h)

-- ---- the first entry of a group

pub first_is : (group : Association → ℕ) (e n : ℕ) (a : Association) (es : List Association) → first_from group e n es ≡ Some a
    → (group a ≡ e) × (n ≤ a.id)
first_is group e n a [] q = absurd (cc)
first_is group e n a (y ∷ ys) q = let ih = first_is group e n a ys in (grind (arith, nat_tests), grind (arith, nat_tests))

first_over : (group : Association → ℕ) (e n j : ℕ) (a : Association) (es : List Association) → AllOver association_id j es
    → first_from group e n es ≡ Some a → j < a.id
first_over group e n j a [] h q = absurd (cc)
first_over group e n j a (y ∷ ys) h q =
    let ih = first_over group e n j a ys h.1 in let lt : j < y.id = h.0 in grind (arith, nat_tests)

pub first_found : (group : Association → ℕ) (e n : ℕ) (a : Association) (es : List Association) → Rising association_id es
    → first_from group e n es ≡ Some a → found a.id es ≡ Some a
first_found group e n a [] h q = absurd (cc)
first_found group e n a (y ∷ ys) h q =
    let ih = first_found group e n a ys h.1 in let over = first_over group e n y.id a ys h.0 in grind (arith, nat_tests)

mapped_some : (id : ℕ) (o : Option Association) → option_map association_id o ≡ Some id
    → (a : Association) × (o ≡ Some a) × (a.id ≡ id)
mapped_some id None q = absurd (cc)
mapped_some id (Some a) q = (a, refl, (cc))

pub first_by_id : (group : Association → ℕ) (e n id : ℕ) (es : List Association) → Rising association_id es
    → option_map association_id (first_from group e n es) ≡ Some id → found id es ≡ first_from group e n es
first_by_id group e n id es h q =
    let a = mapped_some id (first_from group e n es) q in
    ap (λ i. found i es) (sym a.2) ∙ first_found group e n a.0 es h a.1 ∙ sym a.1

pub mapped_none : (o : Option Association) → option_map association_id o ≡ None → o ≡ None
mapped_none None q = refl
mapped_none (Some a) q = absurd (cc)

-- ---- clearing a station

pub elsewhere_closed : (e n : ℕ) (a : Association) (es : List Association) → Rising association_id es
    → first_from station_group e n es ≡ Some a → elsewhere e (closed a.id es) ≡ elsewhere e es
elsewhere_closed e n a [] h q = refl
elsewhere_closed e n a (y ∷ ys) h q =
    let ih = elsewhere_closed e n a ys h.1 in
    let over = first_over station_group e n y.id a ys h.0 in
    grind (arith, nat_tests)

pub none_elsewhere : (e : ℕ) (es : List Association) → first_from station_group e 0 es ≡ None → elsewhere e es ≡ es
none_elsewhere e [] q = refl
none_elsewhere e (y ∷ ys) q = let ih = none_elsewhere e ys in grind (arith, nat_tests)

pub length_closed : (id : ℕ) (a : Association) (es : List Association) → found id es ≡ Some a → length (closed id es) < length es
length_closed id a [] q = absurd (cc)
length_closed id a (y ∷ ys) q = let ih = length_closed id a ys in grind (arith, nat_tests)

-- ---- closing those of a station, one after the other

-- the first of them is there, and without it the others are left
pub record IsFirst (e : ℕ) (a : Association) (rest es : List Association) : Type 0 where
  pub there : found a.id es ≡ Some a
  pub others : at_station e (closed a.id es) ≡ rest
  pub away : elsewhere e (closed a.id es) ≡ elsewhere e es

-- one that is there isn't below all
apart : (j : ℕ) (a : Association) (es : List Association) → AllOver association_id j es → found a.id es ≡ Some a → (j == a.id) ≡ false
apart j a es over there = by (j == a.id) refl
  where
    by : (b : Bool) → (j == a.id) ≡ b → b ≡ false
    by true same =
        let none : found a.id es ≡ None = at_over association_id a.id es (subst (λ n. AllOver association_id n es) (eqb-true j a.id same) over) in
        absurd (none-some a (sym none ∙ there))
    by false same = refl

first_by : (e : ℕ) (a : Association) (rest : List Association) (y : Association) (ys : List Association) (b : Bool)
    → (y.station == e) ≡ b → AllOver association_id y.id ys
    → cond b (y ∷ at_station e ys) (at_station e ys) ≡ a ∷ rest → (at_station e ys ≡ a ∷ rest → IsFirst e a rest ys)
    → IsFirst e a rest (y ∷ ys)
first_by e a rest y ys true here over is ih =
    let same : y ≡ a = cc in
    let left : at_station e ys ≡ rest = cc in
    let own : (y.id == y.id) ≡ true = eq-eqb y.id y.id refl in
    subst (λ (z : Association). IsFirst e z rest (y ∷ ys)) same
    (record {
      there = ap (λ b. cond b (Some y) (found y.id ys)) own;
      others = ap (λ b. at_station e (cond b ys (y ∷ closed y.id ys))) own ∙ left;
      away = ap (λ b. elsewhere e (cond b ys (y ∷ closed y.id ys))) own
          ∙ sym (ap (λ b. cond b (elsewhere e ys) (y ∷ elsewhere e ys)) here);
    })
first_by e a rest y ys false here over is ih =
    let own = ih is in
    let other = apart y.id a ys over own.there in
    record {
      there = ap (λ b. cond b (Some y) (found a.id ys)) other ∙ own.there;
      others = ap (λ b. at_station e (cond b ys (y ∷ closed a.id ys))) other
          ∙ ap (λ b. cond b (y ∷ at_station e (closed a.id ys)) (at_station e (closed a.id ys))) here ∙ own.others;
      away = ap (λ b. elsewhere e (cond b ys (y ∷ closed a.id ys))) other
          ∙ ap (λ b. cond b (elsewhere e (closed a.id ys)) (y ∷ elsewhere e (closed a.id ys))) here
          ∙ ap (λ zs. y ∷ zs) own.away ∙ sym (ap (λ b. cond b (elsewhere e ys) (y ∷ elsewhere e ys)) here);
    }

pub first_there : (e : ℕ) (a : Association) (rest es : List Association) → Rising association_id es → at_station e es ≡ a ∷ rest
    → IsFirst e a rest es
first_there e a rest [] h is = absurd (cc)
first_there e a rest (y ∷ ys) h is = first_by e a rest y ys (y.station == e) refl h.0 is (first_there e a rest ys h.1)

-- and where none is left all are elsewhere
elsewhere_by : (e : ℕ) (y : Association) (ys : List Association) (b : Bool) → (y.station == e) ≡ b
    → cond b (y ∷ at_station e ys) (at_station e ys) ≡ [] → (at_station e ys ≡ [] → elsewhere e ys ≡ ys)
    → cond b (elsewhere e ys) (y ∷ elsewhere e ys) ≡ y ∷ ys
elsewhere_by e y ys true here is ih = absurd (cc)
elsewhere_by e y ys false here is ih = ap (λ zs. y ∷ zs) (ih is)

pub all_elsewhere : (e : ℕ) (es : List Association) → at_station e es ≡ [] → elsewhere e es ≡ es
all_elsewhere e [] is = refl
all_elsewhere e (y ∷ ys) is = elsewhere_by e y ys (y.station == e) refl is (all_elsewhere e ys)

-- ---- listing a station

-- the entries of a station whose ids are at least the number
abbrev pub station_from : ℕ → ℕ → List Association → List Association
station_from e n [] = []
station_from e n (a ∷ es) =
    if a.station == e then (if nat_le n a.id then a ∷ station_from e n es else station_from e n es) else station_from e n es

pub from_zero : (e : ℕ) (es : List Association) → station_from e 0 es ≡ at_station e es
from_zero e [] = refl
from_zero e (y ∷ ys) = let ih = from_zero e ys in grind (arith, nat_tests)

pub from_none : (e n : ℕ) (es : List Association) → first_from station_group e n es ≡ None → station_from e n es ≡ []
from_none e n [] q = refl
from_none e n (y ∷ ys) q = let ih = from_none e n ys in grind (arith, nat_tests)

same_from : (e n m j : ℕ) (es : List Association) → AllOver association_id j es → n ≤ j + 1 → m ≤ j + 1
    → station_from e n es ≡ station_from e m es
same_from e n m j [] h p q = refl
same_from e n m j (y ∷ ys) h p q =
    let ih = same_from e n m j ys h.1 p q in
    let lt : j < y.id = h.0 in
    grind (arith, nat_tests)

from_some_by : (e n : ℕ) (a y : Association) (ys : List Association) (b c : Bool) → (y.station == e) ≡ b → nat_le n y.id ≡ c
    → AllOver association_id y.id ys
    → cond b (cond c (Some y) (first_from station_group e n ys)) (first_from station_group e n ys) ≡ Some a
    → (first_from station_group e n ys ≡ Some a → station_from e n ys ≡ a ∷ station_from e (a.id + 1) ys)
    → cond b (cond c (y ∷ station_from e n ys) (station_from e n ys)) (station_from e n ys) ≡ a ∷ station_from e (a.id + 1) (y ∷ ys)
from_some_by e n a y ys true true s t over q ih =
    let same : y ≡ a = cc in
    let le : n ≤ y.id = grind (arith, nat_tests) in
    let rest = same_from e n (y.id + 1) y.id ys over (omega arith) (omega arith) in
    let skip : station_from e (y.id + 1) (y ∷ ys) ≡ station_from e (y.id + 1) ys = grind (arith, nat_tests) in
    subst (λ (z : Association). y ∷ station_from e n ys ≡ z ∷ station_from e (z.id + 1) (y ∷ ys)) same
    (ap (λ zs. y ∷ zs) (rest ∙ sym skip))
from_some_by e n a y ys true false s t over q ih =
    let lt = first_over station_group e n y.id a ys over q in
    let skip : station_from e (a.id + 1) (y ∷ ys) ≡ station_from e (a.id + 1) ys = grind (arith, nat_tests) in
    ih q ∙ ap (λ zs. a ∷ zs) (sym skip)
from_some_by e n a y ys false c s t over q ih =
    let skip : station_from e (a.id + 1) (y ∷ ys) ≡ station_from e (a.id + 1) ys = grind (arith, nat_tests) in
    ih q ∙ ap (λ zs. a ∷ zs) (sym skip)

pub from_some : (e n : ℕ) (a : Association) (es : List Association) → Rising association_id es
    → first_from station_group e n es ≡ Some a → station_from e n es ≡ a ∷ station_from e (a.id + 1) es
from_some e n a [] h q = absurd (cc)
from_some e n a (y ∷ ys) h q = from_some_by e n a y ys (y.station == e) (nat_le n y.id) refl refl h.0 q (from_some e n a ys h.1)

-- ---- moving

pub found_over : (id j : ℕ) (a : Association) (es : List Association) → AllOver association_id j es → found id es ≡ Some a → j < id
found_over id j a [] h q = absurd (cc)
found_over id j a (y ∷ ys) h q = let ih = found_over id j a ys h.1 in let lt : j < y.id = h.0 in grind (arith, nat_tests)

pub add_over : (a : Association) (es : List Association) → AllOver association_id a.id es → opened a es ≡ a ∷ es
add_over a [] h = refl
add_over a (y ∷ ys) h = let lt : a.id < y.id = h.0 in grind (arith, nat_tests)

moved_by : (id station enb_ue_id : ℕ) (a y : Association) (ys : List Association) (b : Bool) → (y.id == id) ≡ b
    → AllOver association_id y.id ys → cond b (Some y) (found id ys) ≡ Some a
    → (found id ys ≡ Some a → opened (record { id = id; owner = a.owner; station = station; enb_ue_id = enb_ue_id }) (closed id ys) ≡ moved id station enb_ue_id ys)
    → opened (record { id = id; owner = a.owner; station = station; enb_ue_id = enb_ue_id }) (cond b ys (y ∷ closed id ys))
    ≡ cond b (record { id = id; owner = y.owner; station = station; enb_ue_id = enb_ue_id } ∷ ys) (y ∷ moved id station enb_ue_id ys)
moved_by id station enb_ue_id a y ys true s over q ih =
    let same : y ≡ a = cc in
    let at_id : y.id ≡ id = grind (arith, nat_tests) in
    ap (λ (z : Association). opened (record { id = id; owner = z.owner; station = station; enb_ue_id = enb_ue_id }) ys) (sym same)
    ∙ add_over (record { id = id; owner = y.owner; station = station; enb_ue_id = enb_ue_id }) ys (subst (λ i. AllOver association_id i ys) at_id over)
moved_by id station enb_ue_id a y ys false s over q ih =
    let lt : y.id < id = found_over id y.id a ys over q in
    let rest = ih q in
    let under : nat_lt y.id id ≡ true = grind (arith, nat_tests) in
    rw under (ap (λ zs. y ∷ zs) rest)

pub moved_is : (id station enb_ue_id : ℕ) (a : Association) (es : List Association) → Rising association_id es
    → found id es ≡ Some a
    → opened (record { id = id; owner = a.owner; station = station; enb_ue_id = enb_ue_id }) (closed id es) ≡ moved id station enb_ue_id es
moved_is id station enb_ue_id a [] h q = absurd (cc)
moved_is id station enb_ue_id a (y ∷ ys) h q =
    moved_by id station enb_ue_id a y ys (y.id == id) refl h.0 q (moved_is id station enb_ue_id a ys h.1)

-- ---- the answer of the search

rising_of : (s : Slab Held) (ps : List SlabPlace) (index chairs : List IndexEntry) → IsTable s ps index chairs
    → Rising association_id (entries_of s ps)
rising_of s ps index chairs k = rising_entries s ps k.rising

pub first_answer : (s : Slab Held) (ps : List SlabPlace) (index chairs : List IndexEntry) → IsTable s ps index chairs → (e n : ℕ)
    → first_indexed e n index ≡ option_map association_id (first_from station_group e n (entries_of s ps))
first_answer s ps index chairs k e n =
    ap (first_indexed e n) k.index ∙ first_by_index station_group e n (entries_of s ps) (rising_of s ps index chairs k)

-- the group of a number tells the station and the number
group_tells : (e n : ℕ) (a : Association) → n < 2 ^ 32 → IsId a → (number_group a == group_at e n) ≡ is_numbered e n a
group_tells e n a lt i = let p = i.1 in grind (arith, nat_tests)

numbered_by : (a : Association) (f g : Option Association) (b c d : Bool) → f ≡ g → b ≡ c
    → cond b (cond d (Some a) f) f ≡ cond c (cond d (Some a) g) g
numbered_by a f g b c d p q = ap (λ x. cond b (cond d (Some a) x) x) p ∙ ap (λ x. cond x (cond d (Some a) g) g) q

numbered_from : (e n m : ℕ) (es : List Association) → n < 2 ^ 32 → Every IsId es
    → first_from number_group (group_at e n) m es ≡ first_numbered e n m es
numbered_from e n m [] lt i = refl
numbered_from e n m (a ∷ es) lt i = numbered_by a _ _ _ _ (nat_le m a.id) (numbered_from e n m es lt i.1) (group_tells e n a lt i.0)

pub number_answer : (s : Slab Held) (ps : List SlabPlace) (index chairs : List IndexEntry) → IsTable s ps index chairs → (e n m : ℕ)
    → n < 2 ^ 32
    → first_indexed (group_at e n) m chairs ≡ option_map association_id (first_numbered e n m (entries_of s ps))
number_answer s ps index chairs k e n m lt =
    ap (first_indexed (group_at e n) m) k.numbers
    ∙ first_by_index number_group (group_at e n) m (entries_of s ps) (rising_of s ps index chairs k)
    ∙ ap (option_map association_id) (numbered_from e n m (entries_of s ps) lt k.ids)

pub numbered_by_id : (e n m id : ℕ) (es : List Association) → n < 2 ^ 32 → Every IsId es → Rising association_id es
    → option_map association_id (first_numbered e n m es) ≡ Some id → found id es ≡ first_numbered e n m es
numbered_by_id e n m id es lt i h r =
    let same = numbered_from e n m es lt i in
    first_by_id number_group (group_at e n) m id es h (ap (option_map association_id) same ∙ r) ∙ same
