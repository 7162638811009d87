-- What an opening and a closing make of the slab and its lists.
use Rattle.std.proofs.Common.{◌≡◌, ◌≢◌, ℕ, List, [], ◌∷◌, map, refl, sym, ◌∙◌, ap, subst, arith}
use Rattle.std.specs.Prelude.{◌==◌, Option, Some, None, IsSome, Bool, true, false, cond, if◌then◌else◌, option_map}
use Rattle.std.proofs.lemmas.Bool.Decides.{nat_tests}
use Rattle.std.specs.Prelude.{Result, Ok, Err, IsOk, is_ok}
use borrow.Author.Tests.{eqb-true}
use Rattle.std.specs.Prelude.{IsSomeAnd, slice_index_or, OnSome}
use Rattle.slab.specs.Slab.{Slab, get, Updates, IsSlotClone}
use Rattle.sorted_list.specs.Ordered.{add, without, at, ordered, Rising, Every, Distinct}
use Rattle.sorted_list.specs.Laws.{rising-without, at-without}
use Rattle.sorted_list.specs.Indexed.{every-add, every-without, rising-add, rising-ordered, rising_distinct, at_added, without-add, distinct_add, distinct_other, gone_other, map-add, map-without, at-map, at-ordered, rising-map, apart_none, apart_distinct, ordered_left, ordered-add}
use Rattle.association_table.specs.declared.association.Association.{Association}
use Rattle.association_table.specs.declared.places.Held.{Held}
use Rattle.association_table.specs.declared.places.SlabPlace.{SlabPlace}
use Rattle.association_table.specs.declared.places.IndexEntry.{IndexEntry}
use Rattle.association_table.specs.Table.{association_id, found, opened, closed}
use Rattle.association_table.specs.Kept.{place_id, place_key, or_blank, with_id, entry_at, entries_of, station_group, number_group, index_entry, index_rank, indexing, index_of, IsId, IsTable}

apart : (group : Association → ℕ) (x y : Association) → IsId x → IsId y → indexing group x ≡ indexing group y
    → association_id x ≡ association_id y
apart group x y a b e = let p = a.0 in let q = b.0 in omega (arith, p, q, e)

pub rising_entries : (s : Slab Held) (ps : List SlabPlace) → Rising place_id ps → Rising association_id (entries_of s ps)
rising_entries s ps h = rising-map (entry_at s) association_id ps h

-- the index of a group stand for entries
distinct_index : (group : Association → ℕ) (es : List Association) → Rising association_id es → Every IsId es
    → Distinct (indexing group) es
distinct_index group es h i =
    apart_distinct association_id (indexing group) IsId (apart group) es i (rising_distinct association_id es h)

pub rising_index : (group : Association → ℕ) (es : List Association) → Rising association_id es → Every IsId es
    → Rising index_rank (index_of group es)
rising_index group es h i =
    rising-map (index_entry group) index_rank (ordered (indexing group) es)
    (rising-ordered (indexing group) es (distinct_index group es h i))

pub found_place : (s : Slab Held) (id : ℕ) (ps : List SlabPlace)
    → found id (entries_of s ps) ≡ option_map (entry_at s) (at place_id id ps)
found_place s id ps = at-map (entry_at s) association_id id ps

mapped_none : (s : Slab Held) (o : Option SlabPlace) → option_map (entry_at s) o ≡ None → o ≡ None
mapped_none s None h = refl
mapped_none s (Some p) h = absurd (cc)

pub free_place : (s : Slab Held) (id : ℕ) (ps : List SlabPlace) → found id (entries_of s ps) ≡ None → at place_id id ps ≡ None
free_place s id ps h = mapped_none s (at place_id id ps) (sym (found_place s id ps) ∙ h)

mapped_some : (s : Slab Held) (a : Association) (o : Option SlabPlace) → option_map (entry_at s) o ≡ Some a
    → (p : SlabPlace) × (o ≡ Some p) × (entry_at s p ≡ a)
mapped_some s a None h = absurd (cc)
mapped_some s a (Some p) h = (p, refl, (cc))

pub taken_place : (s : Slab Held) (id : ℕ) (a : Association) (ps : List SlabPlace) → found id (entries_of s ps) ≡ Some a
    → (p : SlabPlace) × (at place_id id ps ≡ Some p) × (entry_at s p ≡ a)
taken_place s id a ps h = mapped_some s a (at place_id id ps) (sym (found_place s id ps) ∙ h)

pub free_entry : (group : Association → ℕ) (a : Association) (es : List Association) → Rising association_id es → Every IsId es
    → IsId a → found a.id es ≡ None → at index_rank (index_rank (index_entry group a)) (index_of group es) ≡ None
free_entry group a es h k i f =
    at-map (index_entry group) index_rank (index_rank (index_entry group a)) (ordered (indexing group) es)
    ∙ ap (option_map (index_entry group)) (at-ordered (indexing group) (indexing group a) es (distinct_index group es h k) ∙ apart_none association_id (indexing group) IsId (apart group) a es i k f)

index_opened : (group : Association → ℕ) (a : Association) (es : List Association) → Every IsId es → IsId a → found a.id es ≡ None
    → add index_rank (index_entry group a) (index_of group es) ≡ index_of group (opened a es)
index_opened group a es k i f =
    sym (map-add (index_entry group) index_rank a (ordered (indexing group) es))
    ∙ ap (map (index_entry group)) (sym (ordered-add association_id (indexing group) a es (apart_none association_id (indexing group) IsId (apart group) a es i k f)))

-- another key of the slab
pub none_some : {X : Type 0} (o : Option X) → IsSome o → o ≡ None → ⊥
none_some None h e = cc
none_some (Some x) h e = cc

vacant_by : (s : Slab Held) (key : ℕ) (p : SlabPlace) (ps : List SlabPlace) (b : Bool) → (p.key == key) ≡ b → get s key ≡ None
    → IsSome (get s p.key) → at place_key key ps ≡ None → cond b (Some p) (at place_key key ps) ≡ None
vacant_by s key p ps true e n h ih =
    let same : p.key ≡ key = eqb-true _ _ e in absurd (none_some (get s key) (subst (λ k. IsSome (get s k)) same h) n)
vacant_by s key p ps false e n h ih = ih

pub vacant_none : (s : Slab Held) (key : ℕ) (ps : List SlabPlace) → get s key ≡ None → Every (λ p. IsSome (get s p.key)) ps
    → at place_key key ps ≡ None
vacant_none s key [] n h = refl
vacant_none s key (p ∷ ps) n h = vacant_by s key p ps (p.key == key) refl n h.0 (vacant_none s key ps n h.1)

other_key : (key : ℕ) (p : SlabPlace) (ps : List SlabPlace) → at place_key key (p ∷ ps) ≡ None
    → (p.key ≡ key → ⊥) × (at place_key key ps ≡ None)
other_key key p ps h = ((λ e. grind (arith, nat_tests)), grind (arith, nat_tests))

pub same_entries : (s t : Slab Held) (key : ℕ) (ps : List SlabPlace) → ((o : ℕ) → o ≢ key → get t o ≡ get s o)
    → at place_key key ps ≡ None → entries_of t ps ≡ entries_of s ps
same_entries s t key [] u h = refl
same_entries s t key (p ∷ ps) u h =
    let o = other_key key p ps h in
    ap (λ x. with_id p.id (or_blank x) ∷ entries_of t ps) (u p.key o.0)
    ∙ ap (λ es. entry_at s p ∷ es) (same_entries s t key ps u o.1)

pub same_held : (s t : Slab Held) (key : ℕ) (ps : List SlabPlace) → ((o : ℕ) → o ≢ key → get t o ≡ get s o)
    → at place_key key ps ≡ None → Every (λ p. IsSome (get s p.key)) ps → Every (λ p. IsSome (get t p.key)) ps
same_held s t key [] u n h = tt
same_held s t key (p ∷ ps) u n h =
    let o = other_key key p ps n in
    (subst IsSome (sym (u p.key o.0)) h.0, same_held s t key ps u o.1 h.1)

some_is : (o : Option Held) (h : Held) → o ≡ Some h → IsSome o
some_is o h e = subst IsSome (sym e) refl

-- an opening
pub open_entries : (s t : Slab Held) (a : Association) (key : ℕ) (ps : List SlabPlace) → get s key ≡ None
    → Every (λ p. IsSome (get s p.key)) ps
    → Updates s t key (Some (record { owner = a.owner; station = a.station; enb_ue_id = a.enb_ue_id }))
    → entries_of t (add place_id (record { id = a.id; key = key }) ps) ≡ opened a (entries_of s ps)
open_entries s t a key ps n h u =
    map-add (entry_at t) association_id (record { id = a.id; key = key }) ps
    ∙ ap (λ x. add association_id (with_id a.id (or_blank x)) (entries_of t ps)) u.changed
    ∙ ap (add association_id a) (same_entries s t key ps u.others (vacant_none s key ps n h))

pub open_kept : (s t : Slab Held) (a : Association) (key : ℕ) (ps : List SlabPlace) (index chairs : List IndexEntry)
    → IsTable s ps index chairs → IsId a → found a.id (entries_of s ps) ≡ None → get s key ≡ None
    → Updates s t key (Some (record { owner = a.owner; station = a.station; enb_ue_id = a.enb_ue_id }))
    → IsTable t (add place_id (record { id = a.id; key = key }) ps) (add index_rank (index_entry station_group a) index) (add index_rank (index_entry number_group a) chairs)
open_kept s t a key ps index chairs k i f n u =
    let p : SlabPlace = record { id = a.id; key = key } in
    let es = entries_of s ps in
    let none = vacant_none s key ps n k.held in
    let e = open_entries s t a key ps n k.held u in
    record {
      rising = rising-add place_id p ps (free_place s a.id ps f) k.rising;
      keys = distinct_add place_id place_key p ps k.keys none;
      held = every-add (λ q. IsSome (get t q.key)) place_id p ps (some_is (get t key) _ u.changed) (same_held s t key ps u.others none k.held);
      ids = subst (Every IsId) (sym e) (every-add IsId association_id a es i k.ids);
      index = ap (add index_rank (index_entry station_group a)) k.index ∙ index_opened station_group a es k.ids i f ∙ ap (index_of station_group) (sym e);
      numbers = ap (add index_rank (index_entry number_group a)) k.numbers ∙ index_opened number_group a es k.ids i f ∙ ap (index_of number_group) (sym e);
    }

-- a closing
pub close_entries : (s t : Slab Held) (id : ℕ) (p : SlabPlace) (ps : List SlabPlace) → Distinct place_key ps
    → at place_id id ps ≡ Some p → Updates s t p.key None
    → entries_of t (without place_id id ps) ≡ closed id (entries_of s ps)
close_entries s t id p ps d h u =
    same_entries s t p.key (without place_id id ps) u.others (gone_other place_id place_key id p ps d h)
    ∙ map-without (entry_at s) association_id id ps

pub index_with : (group : Association → ℕ) (id : ℕ) (a : Association) (es : List Association) → Every IsId es → found id es ≡ Some a
    → index_of group es ≡ add index_rank (index_entry group a) (index_of group (closed id es))
index_with group id a es k f =
    ap (map (index_entry group)) (ordered_left association_id (indexing group) IsId (apart group) id a es k f)
    ∙ map-add (index_entry group) index_rank a (ordered (indexing group) (closed id es))

pub entry_there : (group : Association → ℕ) (id : ℕ) (a : Association) (es : List Association) → Every IsId es → found id es ≡ Some a
    → at index_rank (index_rank (index_entry group a)) (index_of group es) ≡ Some (index_entry group a)
entry_there group id a es k f =
    ap (at index_rank (index_rank (index_entry group a))) (index_with group id a es k f)
    ∙ at_added index_rank (index_entry group a) (index_of group (closed id es))

index_closed : (group : Association → ℕ) (id : ℕ) (a : Association) (es : List Association) → Every IsId es → found id es ≡ Some a
    → without index_rank (index_rank (index_entry group a)) (index_of group es) ≡ index_of group (closed id es)
index_closed group id a es k f =
    ap (without index_rank (index_rank (index_entry group a))) (index_with group id a es k f)
    ∙ without-add index_rank (index_rank (index_entry group a)) (index_entry group a) (index_of group (closed id es)) refl

pub close_kept : (s t : Slab Held) (id : ℕ) (a : Association) (p : SlabPlace) (ps : List SlabPlace) (index chairs : List IndexEntry)
    → IsTable s ps index chairs → found id (entries_of s ps) ≡ Some a → at place_id id ps ≡ Some p
    → Updates s t p.key None → IsTable t (without place_id id ps) (without index_rank (index_rank (index_entry station_group a)) index) (without index_rank (index_rank (index_entry number_group a)) chairs)
close_kept s t id a p ps index chairs k f h u =
    let es = entries_of s ps in
    let e = close_entries s t id p ps k.keys h u in
    let gone = gone_other place_id place_key id p ps k.keys h in
    record {
      rising = rising-without place_id id ps k.rising;
      keys = distinct_other place_id place_key id ps k.keys;
      held = same_held s t p.key (without place_id id ps) u.others gone (every-without (λ q. IsSome (get s q.key)) place_id id ps k.held);
      ids = subst (Every IsId) (sym e) (every-without IsId association_id id es k.ids);
      index = ap (without index_rank (index_rank (index_entry station_group a))) k.index ∙ index_closed station_group id a es k.ids f ∙ ap (index_of station_group) (sym e);
      numbers = ap (without index_rank (index_rank (index_entry number_group a))) k.numbers ∙ index_closed number_group id a es k.ids f ∙ ap (index_of number_group) (sym e);
    }

-- the same slab and lists
pub same_kept : (s t : Slab Held) (ps qs : List SlabPlace) (index stools chairs groups : List IndexEntry) → IsTable s ps index chairs
    → t ≡ s → qs ≡ ps → stools ≡ index → groups ≡ chairs → IsTable t qs stools groups
same_kept s t ps qs index stools chairs groups k e f g h =
    subst (λ x. IsTable x qs stools groups) (sym e) (subst (λ x. IsTable s x stools groups) (sym f) (subst (λ x. IsTable s ps x groups) (sym g) (subst (λ x. IsTable s ps index x) (sym h) k)))

-- more room
pub kept_room : (s t : Slab Held) (ps qs : List SlabPlace) (index stools chairs groups : List IndexEntry) → IsTable s ps index chairs
    → t ≡ record s { capacity = t.capacity } → qs ≡ ps → stools ≡ index → groups ≡ chairs → IsTable t qs stools groups
kept_room s t ps qs index stools chairs groups k e f g h =
    let there : IsTable (record s { capacity = t.capacity }) ps index chairs =
    record { rising = k.rising; keys = k.keys; held = k.held; ids = k.ids; index = k.index; numbers = k.numbers } in
    same_kept (record s { capacity = t.capacity }) t ps qs index stools chairs groups there e f g h

pub when_ok : {X E Y : Type 0} (r : Result X E) (a b : Y) → IsOk r → (if is_ok r then a else b) ≡ a
when_ok (Ok x) a b h = refl
when_ok (Err e) a b h = absurd (cc)

pub closed_gone : (s : Slab Held) (id : ℕ) (ps : List SlabPlace) → Rising place_id ps
    → found id (closed id (entries_of s ps)) ≡ None
closed_gone s id ps h =
    let w = at-without association_id id id (entries_of s ps) (rising_entries s ps h) in grind (arith, nat_tests)

-- a copy of the slab and the lists
same_slot_by : (is_clone : Held → Held → Type 0) → ((x y : Held) → is_clone x y → y ≡ x) → (x : Held) (copy : Option Held)
    → IsSomeAnd copy (is_clone x) → copy ≡ Some x
same_slot_by is_clone same x None h = absurd h
same_slot_by is_clone same x (Some y) h = ap (λ (z : Held). Some z) (same x y h)

pub same_slot : (is_clone : Held → Held → Type 0) → ((x y : Held) → is_clone x y → y ≡ x) → (slot copy : Option Held)
    → IsSlotClone is_clone slot copy → copy ≡ slot
same_slot is_clone same None copy h = h
same_slot is_clone same (Some x) copy h = same_slot_by is_clone same x copy h

copied_held : (s t : Slab Held) (ps : List SlabPlace) → t.slots ≡ s.slots → Every (λ p. IsSome (get s p.key)) ps
    → Every (λ p. IsSome (get t p.key)) ps
copied_held s t [] e h = tt
copied_held s t (p ∷ ps) e h =
    (subst (λ (xs : List (Option Held)). IsSome (slice_index_or xs p.key None)) (sym e) h.0, copied_held s t ps e h.1)

copied_map : (s t : Slab Held) (ps : List SlabPlace) → t.slots ≡ s.slots → entries_of t ps ≡ entries_of s ps
copied_map s t [] e = refl
copied_map s t (p ∷ ps) e =
    ap (λ (xs : List (Option Held)). with_id p.id (or_blank (slice_index_or xs p.key None)) ∷ entries_of t ps) e
    ∙ ap (λ es. entry_at s p ∷ es) (copied_map s t ps e)

pub copied_entries : (s t : Slab Held) (ps qs : List SlabPlace) → t.slots ≡ s.slots → qs ≡ ps → entries_of t qs ≡ entries_of s ps
copied_entries s t ps qs e f = ap (entries_of t) f ∙ copied_map s t ps e

pub copied_kept : (s t : Slab Held) (ps qs : List SlabPlace) (index stools chairs groups : List IndexEntry) → IsTable s ps index chairs
    → t.slots ≡ s.slots → qs ≡ ps → stools ≡ index → groups ≡ chairs → IsTable t qs stools groups
copied_kept s t ps qs index stools chairs groups k e f g h =
    let es = copied_map s t ps e in
    let there : IsTable t ps index chairs = record {
      rising = k.rising;
      keys = k.keys;
      held = copied_held s t ps e k.held;
      ids = subst (Every IsId) (sym es) k.ids;
      index = k.index ∙ ap (index_of station_group) (sym es);
      numbers = k.numbers ∙ ap (index_of number_group) (sym es);
    } in
    same_kept t t ps qs index stools chairs groups there refl f g h

pub on_some : {X P : Type 0} (o : Option X) → IsSome o → OnSome o P → P
on_some None h p = absurd (cc)
on_some (Some x) h p = p
