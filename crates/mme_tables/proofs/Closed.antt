-- The table after some associations were closed.
use Rattle.std.proofs.Common.{◌≡◌, ◌≤◌, ◌<◌, ℕ, suc, ◌+◌, List, [], ◌∷◌, length, map, take, get_or, Bool, true, false, cond, Option, Some, None, refl, sym, ◌∙◌, ap, subst, arith}
use Rattle.std.specs.Prelude.{◌==◌, ◌||◌, ◌&&◌, not, filter}
use Rattle.std.specs.List.{list_any}
use Rattle.std.proofs.lemmas.Bool.{eqb-true}
use Rattle.std.proofs.lemmas.List.{take_more}
use Rattle.std.proofs.lemmas.Option.{none-some, same_Some}
use Rattle.identity_slots.specs.Ids.{slots}
use Rattle.mme_types.specs.declared.connection.Connection.{Connection}
use Rattle.mme_types.specs.Listed.{ToReset}
use Rattle.association_table.specs.declared.association.Association.{Association}
use Rattle.association_table.specs.declared.association.AssociationOwner.{AssociationOwner}
use Rattle.association_table.specs.declared.association.AssociationOwner.TheVariants.{Stranger, Subscriber}
use Rattle.association_table.specs.Listing.{is_listed, listed_at, unlisted}
use Rattle.association_table.specs.Table.{association_id, at_station, elsewhere, found}
use Rattle.sorted_list.specs.Ordered.{AllOver, Rising}
use Rattle.sorted_list.specs.Laws.{at_over}
use Rattle.mme_tables.specs.declared.whereabouts.Whereabouts.{Whereabouts}
use Rattle.mme_tables.specs.declared.slots.OrderedSlot.{OrderedSlot}
use Rattle.mme_tables.specs.Items.{listed_item}
use Rattle.mme_tables.specs.Whereabouts.{association_of, away_from, connection_at, if_waits, is_meant_at, is_there, place_in, unless, waits_at, waits_in, whereabouts_at}
use Rattle.mme_tables.specs.KeptPlaces.{disconnected_if, is_held, Disconnects, IsOwned, IsTable}
use Rattle.mme_tables.proofs.Gathered.{any_push, holds_same}
use Rattle.mme_tables.proofs.Meant.{any_is, any_listed, station_is}

-- ---- slots that are connected nowhere any more

twice_if : (a b : Bool) (w : Whereabouts) → disconnected_if b (disconnected_if a w) ≡ disconnected_if (a || b) w
twice_if true true w = refl
twice_if true false w = refl
twice_if false b w = refl

pub disconnects_none : (ws : List Whereabouts) → Disconnects (λ i. false) ws ws
disconnects_none ws = record { many = refl; each = λ i. refl }

disconnects_same : (f g : ℕ → Bool) (old new : List Whereabouts) → ((i : ℕ) → f i ≡ g i) → Disconnects f old new
    → Disconnects g old new
disconnects_same f g old new same h =
    record { many = h.many; each = λ i. h.each i ∙ ap (λ b. disconnected_if b (whereabouts_at i old)) (same i) }

disconnects_both : (f g : ℕ → Bool) (old mid new : List Whereabouts) → Disconnects f old mid → Disconnects g mid new
    → Disconnects (λ i. f i || g i) old new
disconnects_both f g old mid new h k = record {
  many = k.many ∙ h.many;
  each = λ i. k.each i ∙ ap (disconnected_if (g i)) (h.each i) ∙ twice_if (f i) (g i) (whereabouts_at i old);
}

-- of one more
pub disconnects_more : (xs : List Association) (n : ℕ) (d : Association) (old mid new : List Whereabouts) → n < length xs
    → Disconnects (λ i. list_any (is_held i) (take n xs)) old mid → Disconnects (λ i. is_held i (get_or xs n d)) mid new
    → Disconnects (λ i. list_any (is_held i) (take (n + 1) xs)) old new
disconnects_more xs n d old mid new lt so one =
    disconnects_same (λ i. list_any (is_held i) (take n xs) || is_held i (get_or xs n d)) (λ i. list_any (is_held i) (take (n + 1) xs)) old new
    (λ i. any_push i (take n xs) (get_or xs n d) ∙ ap (λ (ys : List Association). list_any (is_held i) ys) (sym (take_more xs n d lt)))
    (disconnects_both (λ i. list_any (is_held i) (take n xs)) (λ i. is_held i (get_or xs n d)) old mid new so one)

-- ---- what is found among those that are left

abbrev found_if : (Association → Bool) → Option Association → Option Association
found_if q None = None
found_if q (Some a) = cond (q a) (Some a) None

found_by : (q : Association → Bool) (k : ℕ) (a : Association) (es : List Association) (b c : Bool) → (a.id == k) ≡ b → q a ≡ c
    → AllOver association_id a.id es → found k (filter q es) ≡ found_if q (found k es)
    → found k (cond c (a ∷ filter q es) (filter q es)) ≡ found_if q (cond b (Some a) (found k es))
found_by q k a es true true same is over ih =
    ap (λ b. cond b (Some a) (found k (filter q es))) same ∙ sym (ap (λ b. cond b (Some a) None) is)
found_by q k a es true false same is over ih =
    let none : found k es ≡ None = at_over association_id k es (subst (λ n. AllOver association_id n es) (eqb-true a.id k same) over) in
    ih ∙ ap (found_if q) none ∙ sym (ap (λ b. cond b (Some a) None) is)
found_by q k a es false true same is over ih = ap (λ b. cond b (Some a) (found k (filter q es))) same ∙ ih
found_by q k a es false false same is over ih = ih

found_kept : (q : Association → Bool) (k : ℕ) (es : List Association) → Rising association_id es
    → found k (filter q es) ≡ found_if q (found k es)
found_kept q k [] h = refl
found_kept q k (a ∷ es) h = found_by q k a es (a.id == k) (q a) refl refl h.0 (found_kept q k es h.1)

elsewhere_is : (e : ℕ) (es : List Association) → elsewhere e es ≡ filter (λ a. not (a.station == e)) es
elsewhere_is e [] = refl
elsewhere_is e (a ∷ es) =
    elim (a.station == e) as (λ b. cond b (elsewhere e es) (a ∷ elsewhere e es)
    ≡ cond (not b) (a ∷ filter (λ x. not (x.station == e)) es) (filter (λ x. not (x.station == e)) es))
    [ true ↦ elsewhere_is e es | false ↦ ap (λ xs. a ∷ xs) (elsewhere_is e es) ]

-- ---- the table

-- two lists are one where they are at each place
all_there : (u : Option Connection → Bool) (ws vs : List Whereabouts) → length vs ≡ length ws
    → ((i : ℕ) → whereabouts_at i vs ≡ away_from u (whereabouts_at i ws)) → vs ≡ map (away_from u) ws
all_there u [] [] many each = refl
all_there u [] (v ∷ vs) many each = absurd (omega arith)
all_there u (w ∷ ws) [] many each = absurd (omega arith)
all_there u (w ∷ ws) (v ∷ vs) many each =
    ap (λ x. x ∷ vs) (each 0) ∙ ap (λ xs. away_from u w ∷ xs) (all_there u ws vs (omega arith) (λ i. each (suc i)))

left_some : (b : Bool) (o : Option Connection) (k : Connection) → cond b None o ≡ Some k → (b ≡ false) × (o ≡ Some k)
left_some true o k is = absurd (none-some k is)
left_some false o k is = (refl, is)

still_some : (u : Option Connection → Bool) (o : Option Connection) (k : Connection) → o ≡ Some k → u (Some k) ≡ false
    → unless u o ≡ Some k
still_some u o k is isnt = ap (unless u) is ∙ ap (λ b. cond b None (Some k)) isnt

not_yes : (b : Bool) → b ≡ false → not b ≡ true
not_yes true h = absurd (cc)
not_yes false h = refl

not_no : (b : Bool) → not b ≡ true → b ≡ false
not_no true h = absurd (cc)
not_no false h = refl

found_some : (q : Association → Bool) (o : Option Association) (a : Association) → found_if q o ≡ Some a → (o ≡ Some a) × (q a ≡ true)
found_some q None a is = absurd (none-some a is)
found_some q (Some b) a is = by (q b) refl is
  where
    by : (c : Bool) → q b ≡ c → cond c (Some b) None ≡ Some a → (Some b ≡ Some a) × (q a ≡ true)
    by true passes is = (is, subst (λ (x : Association). q x ≡ true) (same_Some b a is) passes)
    by false passes is = absurd (none-some a is)

kept_some : (q : Association → Bool) (o : Option Association) (a : Association) → o ≡ Some a → q a ≡ true → found_if q o ≡ Some a
kept_some q o a is passes = ap (found_if q) is ∙ ap (λ b. cond b (Some a) None) passes

-- who was connected where a test says is connected nowhere, and no stranger waits there
pub record AreClosed (u : Option Connection → Bool) (ws vs : List Whereabouts) (es fs : List Association) (ss : List OrderedSlot)
    : Type 0 where
  pub table : IsTable vs fs ss
  pub away : vs ≡ map (away_from u) ws
  pub waits : (id : ℕ) → waits_at id fs ≡ unless u (waits_at id es)

module _ (ws vs : List Whereabouts) (es fs : List Association) (ss : List OrderedSlot) (r : Association → Bool)
    (u : Option Connection → Bool) (t : IsTable ws es ss) (order : Rising association_id es) (never : u None ≡ false)
    (same : (a : Association) → u (Some (place_in a)) ≡ r a)
    (left : Disconnects (λ i. list_any (is_held i) (filter r es)) ws vs) (gone : fs ≡ filter (λ a. not (r a)) es) where
  each_away : (i : ℕ) → whereabouts_at i vs ≡ away_from u (whereabouts_at i ws)
  each_away i =
      left.each i
      ∙ ap (λ b. disconnected_if b (whereabouts_at i ws)) (any_is ws es ss t order r u never (λ j k. same (association_of j k)) i)

  all_away : vs ≡ map (away_from u) ws
  all_away = all_there u ws vs left.many each_away

  found_left : (id : ℕ) → found id fs ≡ found_if (λ a. not (r a)) (found id es)
  found_left id = ap (found id) gone ∙ found_kept (λ a. not (r a)) id es order

  connected : (i : ℕ) → connection_at i vs ≡ unless u (connection_at i ws)
  connected i = ap (λ (w : Whereabouts). w.connection) (each_away i)

  opened_left : (i : ℕ) (k : Connection) → connection_at i vs ≡ Some k → found k.id fs ≡ Some (association_of i k)
  opened_left i k is =
      let stays = left_some (u (connection_at i ws)) (connection_at i ws) k (sym (connected i) ∙ is) in
      let isnt : r (association_of i k) ≡ false = sym (same (association_of i k)) ∙ ap u (sym stays.1) ∙ stays.0 in
      found_left k.id
      ∙ kept_some (λ a. not (r a)) (found k.id es) (association_of i k) (t.map.opened i k stays.1) (not_yes (r (association_of i k)) isnt)

  owned_left : (a : Association) (owner : AssociationOwner) → r a ≡ false → IsOwned ws owner (place_in a) → IsOwned vs owner (place_in a)
  owned_left a Stranger isnt own = tt
  owned_left a (Subscriber i) isnt own = connected i ∙ still_some u (connection_at i ws) (place_in a) own (same a ∙ isnt)

  table_left : IsTable vs fs ss
  table_left = record {
    few = subst (λ n. n ≤ slots) (sym left.many) t.few;
    map = record {
      opened = opened_left;
      owned = λ id a is.
          let there = found_some (λ x. not (r x)) (found id es) a (sym (found_left id) ∙ is) in
          owned_left a a.owner (not_no (r a) there.1) (t.map.owned id a there.0);
    };
    paged = holds_same (λ i. (whereabouts_at i ws).is_paged) (λ i. (whereabouts_at i vs).is_paged) ss
        (λ i. sym (ap (λ (w : Whereabouts). w.is_paged) (each_away i))) t.paged;
  }

  waits_by : (a : Association) (owner : AssociationOwner) (b : Bool) → a.owner ≡ owner → r a ≡ b
      → waits_in (cond (not b) (Some a) None) ≡ unless u (if_waits owner (place_in a))
  waits_by a Stranger true own is = sym (ap (λ b. cond b None (Some (place_in a))) (same a ∙ is))
  waits_by a Stranger false own is =
      ap (λ (o : AssociationOwner). if_waits o (place_in a)) own ∙ sym (ap (λ b. cond b None (Some (place_in a))) (same a ∙ is))
  waits_by a (Subscriber i) true own is = sym (ap (λ b. cond b None None) never)
  waits_by a (Subscriber i) false own is =
      ap (λ (o : AssociationOwner). if_waits o (place_in a)) own ∙ sym (ap (λ b. cond b None None) never)

  waits_if : (o : Option Association) → waits_in (found_if (λ a. not (r a)) o) ≡ unless u (waits_in o)
  waits_if None = sym (ap (λ b. cond b None None) never)
  waits_if (Some a) = waits_by a a.owner (r a) refl refl

  waits_left : (id : ℕ) → waits_at id fs ≡ unless u (waits_at id es)
  waits_left id = ap waits_in (found_left id) ∙ waits_if (found id es)

  are_closed : AreClosed u ws vs es fs ss
  are_closed = record { table = table_left; away = all_away; waits = waits_left }

-- those of a station were closed, and those that a list means
module _ (e : ℕ) (ws vs : List Whereabouts) (es fs closed : List Association) (ss : List OrderedSlot) (t : IsTable ws es ss)
    (order : Rising association_id es) (left : Disconnects (λ i. list_any (is_held i) closed) ws vs) where
  pub station_closed : closed ≡ at_station e es → fs ≡ elsewhere e es → AreClosed (is_there e) ws vs es fs ss
  station_closed is gone =
      are_closed ws vs es fs ss (λ a. a.station == e) (is_there e) t order refl (λ a. refl)
      (subst (λ (xs : List Association). Disconnects (λ i. list_any (is_held i) xs) ws vs) (is ∙ station_is e es) left)
      (gone ∙ elsewhere_is e es)

  pub list_closed : (items : ToReset) → closed ≡ listed_at e (map listed_item items) es
      → fs ≡ unlisted e (map listed_item items) es → AreClosed (is_meant_at e items) ws vs es fs ss
  list_closed items is gone =
      are_closed ws vs es fs ss (is_listed e (map listed_item items)) (is_meant_at e items) t order refl
      (λ a. ap (λ b. a.station == e && b) (any_listed a items))
      (subst (λ (xs : List Association). Disconnects (λ i. list_any (is_held i) xs) ws vs) is left) gone
