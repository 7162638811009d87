-- Which slots the associations of a station lead to, and those that a list means.
use Rattle.std.proofs.Common.{◌≡◌, ◌≤◌, ◌<◌, ℕ, List, [], ◌∷◌, length, map, Bool, true, false, cond, Option, Some, None, refl, sym, ◌∙◌, ap, subst, arith, true≢false}
use Rattle.std.specs.Prelude.{◌==◌, ◌&&◌, ◌||◌, filter, is_some, nat_lt}
use Rattle.std.specs.List.{list_any}
use Rattle.std.proofs.lemmas.Bool.{eqb-true}
use Rattle.std.proofs.lemmas.Bool.Decides.{nat_tests}
use Rattle.std.proofs.lemmas.List.{get_or_past}
use Rattle.std.proofs.lemmas.Option.{none-some}
use Rattle.s1ap_elements.specs.Resets.{AssociationToReset}
use Rattle.identity_slots.specs.Ids.{slots}
use Rattle.mme_types.specs.declared.connection.Connection.{Connection}
use Rattle.mme_types.specs.Listed.{ToReset}
use Rattle.mme_types.specs.Listed as list
use Rattle.association_table.specs.declared.association.Association.{Association}
use Rattle.association_table.specs.declared.association.AssociationOwner.{AssociationOwner}
use Rattle.association_table.specs.declared.association.AssociationOwner.TheVariants.{Stranger, Subscriber}
use Rattle.association_table.specs.Listing.{agrees, is_listed, listed_at, matches}
use Rattle.association_table.specs.Table.{association_id, at_station}
use Rattle.sorted_list.specs.Ordered.{Rising}
use Rattle.mme_tables.specs.declared.whereabouts.Whereabouts.{Whereabouts}
use Rattle.mme_tables.specs.declared.slots.OrderedSlot.{OrderedSlot}
use Rattle.mme_tables.specs.Items.{listed_item}
use Rattle.mme_tables.specs.KeptPlaces.{is_held, is_held_by, slot_rank, Gathers, IsOwned, IsTable}
use Rattle.mme_tables.specs.Whereabouts.{association_of, connection_at, is_concerned, is_meant, is_meant_at, is_there, nowhere, place_in, slots_where, whereabouts_at}
use Rattle.mme_tables.proofs.Gathered.{held_slots, holds_same}
use Rattle.mme_tables.proofs.Lookups.{any_found, any_kept, found_any}

-- ---- whose a station's associations are

within : (ws : List Whereabouts) (i : ℕ) (k : Connection) → connection_at i ws ≡ Some k → i < length ws
within ws i k is =
    let out : length ws ≤ i → ⊥ = λ past. none-some k (ap (λ (w : Whereabouts). w.connection) (sym (get_or_past ws i nowhere past)) ∙ is) in
    omega arith

held_own : (i : ℕ) (k : Connection) → i < slots → is_held i (association_of i k) ≡ true
held_own i k lt = grind (arith, nat_tests)

both : (a b : Bool) → a ≡ true → b ≡ true → (a && b) ≡ true
both true true p q = refl
both true false p q = absurd (cc)
both false b p q = absurd (cc)

first : (a b : Bool) → (a && b) ≡ true → a ≡ true
first true b p = refl
first false b p = absurd (cc)

second : (a b : Bool) → (a && b) ≡ true → b ≡ true
second true b p = p
second false b p = absurd (cc)

same_bools : (a b : Bool) → (a ≡ true → b ≡ true) → (b ≡ true → a ≡ true) → a ≡ b
same_bools true true p q = refl
same_bools true false p q = sym (p refl)
same_bools false true p q = q refl
same_bools false false p q = refl

-- an association that a slot holds is its connection
held_is : (ws : List Whereabouts) (a : Association) (i : ℕ) (owner : AssociationOwner) → IsOwned ws owner (place_in a)
    → is_held_by i owner ≡ true
    → (owner ≡ Subscriber i) × (connection_at i ws ≡ Some (place_in a))
held_is ws a i Stranger owned held = absurd (true≢false (sym held))
held_is ws a i (Subscriber n) owned held =
    let same : n ≡ i = eqb-true n i (first (n == i) (nat_lt i slots) held) in
    (ap (λ (m : ℕ). Subscriber m) same, subst (λ (m : ℕ). connection_at m ws ≡ Some (place_in a)) same owned)

-- of the associations that pass a test of their place, one is a slot's where its connection passes it
module _ (ws : List Whereabouts) (es : List Association) (ss : List OrderedSlot) (t : IsTable ws es ss)
    (order : Rising association_id es) (r : Association → Bool) (u : Option Connection → Bool) (never : u None ≡ false)
    (same_test : (i : ℕ) (k : Connection) → u (Some k) ≡ r (association_of i k)) where
  to_any : (i : ℕ) (o : Option Connection) → connection_at i ws ≡ o → u o ≡ true
      → list_any (λ a. r a && is_held i a) es ≡ true
  to_any i None is h = absurd (true≢false (sym h ∙ never))
  to_any i (Some k) is h =
      let less = within ws i k is in
      let few = t.few in
      let low : i < slots = omega (arith, less, few) in
      any_found (λ a. r a && is_held i a) k.id (association_of i k) es (t.map.opened i k is)
      (both (r (association_of i k)) (is_held i (association_of i k)) (sym (same_test i k) ∙ h) (held_own i k low))

  from_any : (i : ℕ) → list_any (λ a. r a && is_held i a) es ≡ true → u (connection_at i ws) ≡ true
  from_any i h =
      let one = found_any (λ a. r a && is_held i a) es order h in
      let a = one.0 in
      let own = held_is ws a i a.owner (t.map.owned a.id a one.1) (second (r a) (is_held i a) one.2) in
      let same : association_of i (place_in a) ≡ a =
      ap (λ (o : AssociationOwner). let x : Association = record { id = a.id; owner = o; station = a.station; enb_ue_id = a.enb_ue_id } in x) (sym own.0) in
      ap u own.1 ∙ same_test i (place_in a) ∙ ap r same ∙ first (r a) (is_held i a) one.2

  pub any_is : (i : ℕ) → list_any (is_held i) (filter r es) ≡ u (connection_at i ws)
  any_is i =
      any_kept (is_held i) r es
      ∙ same_bools (list_any (λ a. r a && is_held i a) es) (u (connection_at i ws)) (from_any i) (to_any i (connection_at i ws) refl)

-- ---- a station

pub station_is : (e : ℕ) (es : List Association) → at_station e es ≡ filter (λ a. a.station == e) es
station_is e [] = refl
station_is e (a ∷ es) = ap (λ xs. cond (a.station == e) (a ∷ xs) xs) (station_is e es)

pub concerned_held : (e : ℕ) (ws : List Whereabouts) (es : List Association) (paged last : List OrderedSlot) → IsTable ws es paged
    → Rising association_id es
    → Gathers (λ i. list_any (is_held i) (at_station e es)) paged last → map slot_rank last ≡ slots_where (is_concerned e) 0 ws
concerned_held e ws es paged last t order so =
    held_slots (is_concerned e) nowhere ws last refl
    (holds_same (λ i. (whereabouts_at i ws).is_paged || list_any (is_held i) (at_station e es))
    (λ i. is_concerned e (whereabouts_at i ws)) last
    (λ i. ap (λ b. (whereabouts_at i ws).is_paged || b)
    (ap (λ xs. list_any (is_held i) xs) (station_is e es)
    ∙ any_is ws es paged t order (λ a. a.station == e) (is_there e) refl (λ j k. refl) i))
    (so (λ i. (whereabouts_at i ws).is_paged) t.paged))

-- nobody is there, and nobody is paged
or_none : (b : Bool) → (b || false) ≡ b
or_none true = refl
or_none false = refl

none_gathered : Gathers (λ i. false) [] []
none_gathered before h = record { rising = h.rising; each = λ i. h.each i ∙ sym (or_none (before i)) }

pub none_concerned : (e : ℕ) (ws : List Whereabouts) (es : List Association) (paged : List OrderedSlot) → IsTable ws es paged
    → Rising association_id es → at_station e es ≡ [] → paged ≡ [] → [] ≡ slots_where (is_concerned e) 0 ws
none_concerned e ws es paged t order there none =
    concerned_held e ws es paged [] t order
    (subst (λ (xs : List Association). Gathers (λ i. list_any (is_held i) xs) paged []) (sym there)
    (subst (λ (ss : List OrderedSlot). Gathers (λ i. false) ss []) (sym none) none_gathered))

-- ---- a list

eq_sym : (a b : ℕ) → (a == b) ≡ (b == a)
eq_sym a b = grind (arith, nat_tests)

agrees_is : (o : Option ℕ) (id : ℕ) → list.agrees o id ≡ agrees o id
agrees_is None id = refl
agrees_is (Some given) id = eq_sym given id

match_is : (a : Association) (item : AssociationToReset) → list.matches a.id a.enb_ue_id item.value ≡ matches a (listed_item item)
match_is a item =
    ap (λ b. (is_some item.value.mme_ue_id || is_some item.value.enb_ue_id) && (b && list.agrees item.value.enb_ue_id a.enb_ue_id))
    (agrees_is item.value.mme_ue_id a.id)
    ∙ ap (λ b. (is_some item.value.mme_ue_id || is_some item.value.enb_ue_id) && (agrees item.value.mme_ue_id a.id && b))
    (agrees_is item.value.enb_ue_id a.enb_ue_id)

pub any_listed : (a : Association) (items : ToReset)
    → list.is_listed a.id a.enb_ue_id items ≡ list_any (matches a) (map listed_item items)
any_listed a [] = refl
any_listed a (item ∷ items) =
    ap (λ b. b || list.is_listed a.id a.enb_ue_id items) (match_is a item)
    ∙ ap (λ b. matches a (listed_item item) || b) (any_listed a items)

pub listed_held : (e : ℕ) (items : ToReset) (ws : List Whereabouts) (es : List Association) (paged last : List OrderedSlot)
    → IsTable ws es paged → Rising association_id es
    → Gathers (λ i. list_any (is_held i) (listed_at e (map listed_item items) es)) [] last
    → map slot_rank last ≡ slots_where (is_meant e items) 0 ws
listed_held e items ws es paged last t order so =
    held_slots (is_meant e items) nowhere ws last refl
    (holds_same (λ i. false || list_any (is_held i) (listed_at e (map listed_item items) es))
    (λ i. is_meant e items (whereabouts_at i ws)) last
    (λ i. any_is ws es paged t order (is_listed e (map listed_item items)) (is_meant_at e items) refl
    (λ j k. ap (λ b. k.station == e && b) (any_listed (association_of j k) items)) i)
    (so (λ i. false) (record { rising = tt; each = λ i. refl })))
