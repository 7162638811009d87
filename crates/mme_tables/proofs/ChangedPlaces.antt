-- The table after a change.
use Rattle.std.proofs.Common.{◌≡◌, ◌≢◌, ◌↔◌, ◌≤◌, ◌<◌, ℕ, zero, suc, List, [], ◌∷◌, ◌++◌, length, get_or, set, Bool, true, false, cond, Option, Some, None, refl, sym, ◌∙◌, ap, subst, arith}
use Rattle.std.specs.Prelude.{◌==◌, if◌then◌else◌, option_map, IsOk, IsSome, OnOk, Result, Ok, Err}
use Rattle.std.proofs.lemmas.Bool.{eq-eqb, eqb-true}
use Rattle.std.proofs.lemmas.Bool.Decides.{nat_tests}
use Rattle.std.proofs.lemmas.List.{get_or-set_same, get_or-set_other, length-set, length_push}
use Rattle.std.proofs.lemmas.Option.{none-some, same_Some}
use Rattle.identity_slots.specs.Ids.{slots}
use Rattle.mme_types.specs.declared.connection.Connection.{Connection}
use Rattle.association_table.specs.declared.association.Association.{Association}
use Rattle.association_table.specs.declared.association.AssociationOwner.{AssociationOwner}
use Rattle.association_table.specs.declared.association.AssociationOwner.TheVariants.{Stranger, Subscriber}
use Rattle.association_table.specs.Table.{association_id, closed, found}
use Rattle.association_table.specs.Table.{moved as changed_place}
use Rattle.sorted_list.specs.Laws.{at_key}
use Rattle.mme_tables.specs.declared.whereabouts.Whereabouts.{Whereabouts}
use Rattle.mme_tables.specs.declared.slots.OrderedSlot.{OrderedSlot}
use Rattle.mme_tables.specs.Whereabouts.{association_of, connection_at, if_waits, nowhere, place_in, stranger_association, waits_at, waits_in, whereabouts_at, AreApart, IsFree, NoneConnected, NoneWaits}
use Rattle.mme_tables.specs.KeptPlaces.{unless_stranger, with_new, without_old, without_stranger, Holds, IsBegun, IsEnded, IsHeld, IsMap, IsOwned, IsReopened, IsTable, IsVacant}
use Rattle.mme_tables.proofs.Gathered.{holds_same}
use Rattle.mme_tables.proofs.Lookups.{closed_others, found_moved, placed}

-- ---- whose an association is

owner_slot : AssociationOwner → ℕ
owner_slot Stranger = 0
owner_slot (Subscriber slot) = slot

-- one association isn't two slots'
one_owner : (i j : ℕ) (k l : Connection) (o : Option Association) → o ≡ Some (association_of i k) → o ≡ Some (association_of j l)
    → i ≡ j
unfolding owner_slot
one_owner i j k l o a b =
    ap (λ (x : Association). owner_slot x.owner) (same_Some (association_of i k) (association_of j l) (sym a ∙ b))

-- an association is a slot's exactly where the slot has that connection
pub is_own : (ws : List Whereabouts) (es : List Association) (slot : ℕ) (k : Connection) → IsMap ws es
    → (found k.id es ≡ Some (association_of slot k)) ↔ (connection_at slot ws ≡ Some k)
is_own ws es slot k t = (λ at. t.owned k.id (association_of slot k) at, λ is. t.opened slot k is)

-- ---- nobody, and one slot more

pub nobody : IsTable [] [] []
nobody = record {
  few = omega arith;
  map = record {
    opened = λ slot k is. absurd (none-some k is);
    owned = λ id a is. absurd (none-some a is);
  };
  paged = record { rising = tt; each = λ i. refl };
}

one_more : {X : Type 0} (d : X) (xs : List X) (i : ℕ) → get_or (xs ++ d ∷ []) i d ≡ get_or xs i d
one_more d [] zero = refl
one_more d [] (suc i) = refl
one_more d (x ∷ xs) zero = refl
one_more d (x ∷ xs) (suc i) = one_more d xs i

connection_more : (ws : List Whereabouts) (i : ℕ) → connection_at i (ws ++ nowhere ∷ []) ≡ connection_at i ws
connection_more ws i = ap (λ (w : Whereabouts). w.connection) (one_more nowhere ws i)

owned_same : (ws vs : List Whereabouts) (owner : AssociationOwner) (k : Connection)
    → ((i : ℕ) → connection_at i vs ≡ connection_at i ws) → IsOwned ws owner k → IsOwned vs owner k
owned_same ws vs Stranger k same h = h
owned_same ws vs (Subscriber i) k same h = same i ∙ h

pub pushed : (ws vs : List Whereabouts) (es : List Association) (ss : List OrderedSlot) → length ws < slots
    → vs ≡ ws ++ nowhere ∷ [] → IsTable ws es ss → IsTable vs es ss
pushed ws vs es ss less is t =
    subst (λ (xs : List Whereabouts). IsTable xs es ss) (sym is)
    (record {
      few = let long = length_push ws nowhere in omega (arith, long, less);
      map = record {
        opened = λ slot k at. t.map.opened slot k (sym (connection_more ws slot) ∙ at);
        owned = λ id a at. owned_same ws (ws ++ nowhere ∷ []) a.owner (place_in a) (connection_more ws) (t.map.owned id a at);
      };
      paged = holds_same (λ i. (whereabouts_at i ws).is_paged) (λ i. (whereabouts_at i (ws ++ nowhere ∷ [])).is_paged) ss
          (λ i. sym (ap (λ (w : Whereabouts). w.is_paged) (one_more nowhere ws i))) t.paged;
    })

-- ---- a slot's phone is elsewhere

at_slot : (ws : List Whereabouts) (slot : ℕ) (w : Whereabouts) → slot < length ws → whereabouts_at slot (set ws slot w) ≡ w
at_slot ws slot w lt = get_or-set_same ws slot w nowhere lt

at_other : (ws : List Whereabouts) (slot i : ℕ) (w : Whereabouts) → i ≢ slot → whereabouts_at i (set ws slot w) ≡ whereabouts_at i ws
at_other ws slot i w other = get_or-set_other ws slot i w nowhere other

is_other : (slot i : ℕ) → (slot == i) ≡ false → i ≢ slot
is_other slot i e same = grind (arith, nat_tests)

none_by : (id : ℕ) (o : Option Connection) → without_old o id None ≡ None
none_by id None = refl
none_by id (Some l) =
    elim (l.id == id) as (λ (b : Bool). cond {A = Option Association} b None None ≡ None) [ true ↦ refl | false ↦ refl ]

-- an association on which no stranger waits is a slot's
owned_by : (ws : List Whereabouts) (a : Association) (o : AssociationOwner) → a.owner ≡ o → IsOwned ws o (place_in a)
    → waits_in (Some a) ≡ None → IsHeld ws a
owned_by ws a Stranger own owned none =
    absurd (none-some (place_in a) (sym none ∙ ap (λ (x : AssociationOwner). if_waits x (place_in a)) own))
owned_by ws a (Subscriber i) own owned none = (i, own, owned)

-- the id of the new connection is free but for the slot's own
pub is_vacant : (ws : List Whereabouts) (es : List Association) (slot : ℕ) (new : Option Connection) → IsMap ws es
    → IsFree slot new ws → NoneWaits new es → IsVacant (connection_at slot ws) new es
is_vacant ws es slot new m free alone k is = vacant_by (found k.id es) refl
  where
    own : (a : Association) (o : Option Connection) → o ≡ Some (place_in a) → a.id ≡ k.id → without_old o k.id (Some a) ≡ None
    own a None at same = absurd (none-some (place_in a) at)
    own a (Some l) at same =
        let id : l.id ≡ k.id = ap (λ (x : Connection). x.id) (same_Some l (place_in a) at) ∙ same in
        ap (λ (b : Bool). cond b None (Some a)) (eq-eqb l.id k.id id)

    vacant_by : (o : Option Association) → found k.id es ≡ o → without_old (connection_at slot ws) k.id o ≡ None
    vacant_by None at = none_by k.id (connection_at slot ws)
    vacant_by (Some a) at =
        let same = at_key association_id k.id a es at in
        let held = owned_by ws a a.owner refl (m.owned k.id a at) (ap waits_in (sym at) ∙ alone k is) in
        let here : held.0 ≡ slot = free held.0 k (place_in a) is held.2 same in
        own a (connection_at slot ws) (subst (λ (n : ℕ). connection_at n ws ≡ Some (place_in a)) here held.2) same

-- and that of a stranger that is to wait
pub is_unused : (ws : List Whereabouts) (es : List Association) (id : ℕ) → IsMap ws es → NoneConnected id ws → waits_at id es ≡ None
    → found id es ≡ None
is_unused ws es id m free alone = by (found id es) refl
  where
    by : (o : Option Association) → found id es ≡ o → o ≡ None
    by None at = refl
    by (Some a) at =
        let held = owned_by ws a a.owner refl (m.owned id a at) (ap waits_in (sym at) ∙ alone) in
        absurd (free held.0 (place_in a) held.2 (at_key association_id id a es at))

pub are_apart : (ws : List Whereabouts) (es : List Association) → IsMap ws es → AreApart ws es
are_apart ws es m = record {
  slots = λ i j k l here there same. one_owner j i l k (found k.id es)
      (subst (λ (id : ℕ). found id es ≡ Some (association_of j l)) same (m.opened j l there)) (m.opened i k here);
  strangers = λ i k is. ap waits_in (m.opened i k is);
}

-- and each stranger waits where it did
module _ (ws : List Whereabouts) (es fs : List Association) (slot : ℕ) (new : Option Connection) (m : IsMap ws es)
    (alone : NoneWaits new es) (each : IsReopened slot (connection_at slot ws) new es fs) where
  waits_old : (id : ℕ) (o : Option Connection) → connection_at slot ws ≡ o
      → waits_in (without_old o id (found id es)) ≡ waits_in (found id es)
  waits_old id None at = refl
  waits_old id (Some l) at = by (l.id == id) refl
    where
      by : (b : Bool) → (l.id == id) ≡ b → waits_in (cond b None (found id es)) ≡ waits_in (found id es)
      by true same =
          let there : found id es ≡ Some (association_of slot l) =
          subst (λ (n : ℕ). found n es ≡ Some (association_of slot l)) (eqb-true l.id id same) (m.opened slot l at) in
          sym (ap waits_in there)
      by false same = refl

  waits_new : (id : ℕ) (o : Option Connection) → new ≡ o
      → waits_in (with_new slot o id (without_old (connection_at slot ws) id (found id es))) ≡ waits_in (found id es)
  waits_new id None is = waits_old id (connection_at slot ws) refl
  waits_new id (Some k) is = by (k.id == id) refl
    where
      by : (b : Bool) → (k.id == id) ≡ b
          → waits_in (cond b (Some (association_of slot k)) (without_old (connection_at slot ws) id (found id es)))
          ≡ waits_in (found id es)
      by true same = sym (ap (λ (n : ℕ). waits_at n es) (sym (eqb-true k.id id same)) ∙ alone k is)
      by false same = waits_old id (connection_at slot ws) refl

  pub strangers_stay : (id : ℕ) → waits_at id fs ≡ waits_at id es
  strangers_stay id = ap waits_in (each id) ∙ waits_new id new refl

-- what is found by the id of another slot's connection stays
module _ (ws : List Whereabouts) (es fs : List Association) (ss : List OrderedSlot) (slot : ℕ) (w : Whereabouts)
    (lt : slot < length ws) (t : IsTable ws es ss) (free : IsFree slot w.connection ws)
    (each : IsReopened slot (connection_at slot ws) w.connection es fs) where
  kept_old : (o : Option Connection) (i : ℕ) (k : Connection) → o ≡ connection_at slot ws → i ≢ slot → connection_at i ws ≡ Some k
      → without_old o k.id (found k.id es) ≡ found k.id es
  kept_old None i k at other is = refl
  kept_old (Some l) i k at other is = by (l.id == k.id) refl
    where
      by : (b : Bool) → (l.id == k.id) ≡ b → cond b None (found k.id es) ≡ found k.id es
      by true same =
          let one = one_owner i slot k l (found k.id es) (t.map.opened i k is) (subst (λ (id : ℕ). found id es ≡ Some (association_of slot l)) (eqb-true l.id k.id same) (t.map.opened slot l (sym at))) in
          absurd (other one)
      by false same = refl

  kept_new : (o : Option Connection) (i : ℕ) (k : Connection) (x : Option Association) → o ≡ w.connection → i ≢ slot
      → connection_at i ws ≡ Some k
      → with_new slot o k.id x ≡ x
  kept_new None i k x at other is = refl
  kept_new (Some n) i k x at other is = by (n.id == k.id) refl
    where
      by : (b : Bool) → (n.id == k.id) ≡ b → cond b (Some (association_of slot n)) x ≡ x
      by true same = absurd (other (free i n k (sym at) is (sym (eqb-true n.id k.id same))))
      by false same = refl

  opened_other : (i : ℕ) (k : Connection) → i ≢ slot → connection_at i ws ≡ Some k → found k.id fs ≡ Some (association_of i k)
  opened_other i k other is =
      each k.id ∙ kept_new w.connection i k (without_old (connection_at slot ws) k.id (found k.id es)) refl other is
      ∙ kept_old (connection_at slot ws) i k refl other is ∙ t.map.opened i k is

  opened_here : (k : Connection) (o : Option Connection) → o ≡ w.connection → o ≡ Some k → found k.id fs ≡ Some (association_of slot k)
  opened_here k None at is = absurd (none-some k is)
  opened_here k (Some n) at is =
      let same : n ≡ k = same_Some n k is in
      subst (λ (l : Connection). found l.id fs ≡ Some (association_of slot l)) same
      (each n.id ∙ ap (λ (c : Option Connection). with_new slot c n.id (without_old (connection_at slot ws) n.id (found n.id es))) (sym at)
      ∙ ap (λ (b : Bool). cond b (Some (association_of slot n)) (without_old (connection_at slot ws) n.id (found n.id es))) (eq-eqb n.id n.id refl))

  opened_by : (i : ℕ) (k : Connection) (b : Bool) → (slot == i) ≡ b → connection_at i (set ws slot w) ≡ Some k
      → found k.id fs ≡ Some (association_of i k)
  opened_by i k true same at =
      let here : slot ≡ i = eqb-true slot i same in
      subst (λ (n : ℕ). found k.id fs ≡ Some (association_of n k)) here
      (opened_here k w.connection refl
      (ap (λ (v : Whereabouts). v.connection) (sym (at_slot ws slot w lt)) ∙ subst (λ (n : ℕ). connection_at n (set ws slot w) ≡ Some k) (sym here) at))
  opened_by i k false same at =
      let other = is_other slot i same in
      opened_other i k other (ap (λ (v : Whereabouts). v.connection) (sym (at_other ws slot i w other)) ∙ at)

  -- ---- and whose each association is

  owned_old : (id : ℕ) (a : Association) (owner : AssociationOwner) (o : Option Connection) → o ≡ connection_at slot ws
      → a.id ≡ id → IsOwned ws owner (place_in a)
      → without_old o id (Some a) ≡ Some a → IsOwned (set ws slot w) owner (place_in a)
  owned_old id a Stranger o at key owned is = owned
  owned_old id a (Subscriber i) o at key owned is = by (slot == i) refl o at is
    where
      by : (b : Bool) → (slot == i) ≡ b → (o : Option Connection) → o ≡ connection_at slot ws → without_old o id (Some a) ≡ Some a
          → connection_at i (set ws slot w) ≡ Some (place_in a)
      by true same None at is =
          absurd (none-some (place_in a) (at ∙ subst (λ (n : ℕ). connection_at n ws ≡ Some (place_in a)) (sym (eqb-true slot i same)) owned))
      by true same (Some l) at is =
          let here : Some l ≡ Some (place_in a) = at ∙ subst (λ (n : ℕ). connection_at n ws ≡ Some (place_in a)) (sym (eqb-true slot i same)) owned in
          let gone : (l.id == id) ≡ true = eq-eqb l.id id (ap (λ (x : Connection). x.id) (same_Some l (place_in a) here) ∙ key) in
          absurd (none-some a (sym (ap (λ (b : Bool). cond b None (Some a)) gone) ∙ is))
      by false same o at is =
          ap (λ (v : Whereabouts). v.connection) (at_other ws slot i w (is_other slot i same)) ∙ owned

  owned_rest : (id : ℕ) (a : Association) (x : Option Association) (o : Option Connection) → found id es ≡ x
      → o ≡ connection_at slot ws → without_old o id x ≡ Some a
      → IsOwned (set ws slot w) a.owner (place_in a)
  owned_rest id a None None at same is = absurd (none-some a is)
  owned_rest id a None (Some l) at same is =
      let none : cond {A = Option Association} (l.id == id) None None ≡ None =
      elim (l.id == id) as (λ (b : Bool). cond {A = Option Association} b None None ≡ None) [ true ↦ refl | false ↦ refl ] in
      absurd (none-some a (sym none ∙ is))
  owned_rest id a (Some b) None at same is =
      let one : b ≡ a = same_Some b a is in
      subst (λ (c : Association). IsOwned (set ws slot w) c.owner (place_in c)) one
      (owned_old id b b.owner None same (at_key association_id id b es at) (t.map.owned id b at) refl)
  owned_rest id a (Some b) (Some l) at same is = by (l.id == id) refl is
    where
      by : (c : Bool) → (l.id == id) ≡ c → cond c None (Some b) ≡ Some a → IsOwned (set ws slot w) a.owner (place_in a)
      by true gone is = absurd (none-some a is)
      by false gone is =
          let one : b ≡ a = same_Some b a is in
          subst (λ (c : Association). IsOwned (set ws slot w) c.owner (place_in c)) one
          (owned_old id b b.owner (Some l) same (at_key association_id id b es at) (t.map.owned id b at)
          (ap (λ (c : Bool). cond c None (Some b)) gone))

  owned_new : (id : ℕ) (a : Association) (x : Option Association) (o : Option Connection) → o ≡ w.connection
      → without_old (connection_at slot ws) id (found id es) ≡ x → with_new slot o id x ≡ Some a
      → IsOwned (set ws slot w) a.owner (place_in a)
  owned_new id a x None at rest is = owned_rest id a (found id es) (connection_at slot ws) refl refl (rest ∙ is)
  owned_new id a x (Some n) at rest is = by (n.id == id) is
    where
      by : (b : Bool) → cond b (Some (association_of slot n)) x ≡ Some a → IsOwned (set ws slot w) a.owner (place_in a)
      by true is =
          let one : association_of slot n ≡ a = same_Some (association_of slot n) a is in
          subst (λ (c : Association). IsOwned (set ws slot w) c.owner (place_in c)) one
          (ap (λ (v : Whereabouts). v.connection) (at_slot ws slot w lt) ∙ sym at)
      by false is = owned_rest id a (found id es) (connection_at slot ws) refl refl (rest ∙ is)

  paged_by : (i : ℕ) (b : Bool) → (slot == i) ≡ b
      → cond b w.is_paged (whereabouts_at i ws).is_paged ≡ (whereabouts_at i (set ws slot w)).is_paged
  paged_by i true same =
      ap (λ (v : Whereabouts). v.is_paged) (sym (at_slot ws slot w lt))
      ∙ ap (λ (n : ℕ). (whereabouts_at n (set ws slot w)).is_paged) (eqb-true slot i same)
  paged_by i false same = ap (λ (v : Whereabouts). v.is_paged) (sym (at_other ws slot i w (is_other slot i same)))

  pub moved : (us : List OrderedSlot)
      → ((before : ℕ → Bool) → Holds before ss → Holds (λ i. if slot == i then w.is_paged else before i) us)
      → IsTable (set ws slot w) fs us
  moved us listed = record {
    few = subst (λ (n : ℕ). n ≤ slots) (sym (length-set ws slot w)) t.few;
    map = record {
      opened = λ i k at. opened_by i k (slot == i) refl at;
      owned = λ id a at. owned_new id a (without_old (connection_at slot ws) id (found id es)) w.connection refl refl (sym (each id) ∙ at);
    };
    paged = holds_same (λ i. if slot == i then w.is_paged else (whereabouts_at i ws).is_paged)
        (λ i. (whereabouts_at i (set ws slot w)).is_paged) us (λ i. paged_by i (slot == i) refl)
        (listed (λ i. (whereabouts_at i ws).is_paged) t.paged);
  }

-- what an index reads
read_same : (ws : List Whereabouts) (i : ℕ) (w : Whereabouts) → i < length ws → w ≡ get_or ws i w → w ≡ whereabouts_at i ws
read_same [] i w lt e = absurd (omega arith)
read_same (v ∷ ws) zero w lt e = e
read_same (v ∷ ws) (suc i) w lt e = read_same ws i w (omega arith) e

pub read_at : (ws : List Whereabouts) (slot place : ℕ) (w : Whereabouts) → slot < length ws → place ≡ slot → w ≡ get_or ws place w
    → w ≡ whereabouts_at slot ws
read_at ws slot place w lt same e = read_same ws slot w lt (e ∙ ap (λ (n : ℕ). get_or ws n w) same)

-- ---- an association that is moved

went : {E : Type 0} (r : Result (Unit {0}) E) {P : Type 0} → IsOk r → OnOk r P → P
went (Ok u) ok h = h
went (Err e) ok h = absurd (cc ok)

some_is : (o : Option Association) (a : Association) → o ≡ Some a → IsSome o
some_is None a is = absurd (none-some a is)
some_is (Some b) a is = refl

pub moved_there : {E : Type 0} (slot : ℕ) (old new : Connection) (to : Association) (es fs : List Association) (r : Result (Unit {0}) E)
    → to ≡ association_of slot new → old.id ≡ new.id → found old.id es ≡ Some (association_of slot old)
    → (IsSome (found to.id es) → IsOk r) → OnOk r (fs ≡ changed_place to.id to.station to.enb_ue_id es)
    → IsReopened slot (Some old) (Some new) es fs
moved_there slot old new to es fs r is same held known entries id =
    let there : found new.id es ≡ Some (association_of slot old) = subst (λ (n : ℕ). found n es ≡ Some (association_of slot old)) same held in
    let at_to : found to.id es ≡ Some (association_of slot old) = ap (λ (a : Association). found a.id es) is ∙ there in
    let all : fs ≡ changed_place new.id new.station new.enb_ue_id es =
    went r (known (some_is (found to.id es) (association_of slot old) at_to)) entries
    ∙ ap (λ (a : Association). changed_place a.id a.station a.enb_ue_id es) is in
    ap (found id) all ∙ found_moved new.id new.station new.enb_ue_id id es ∙ by (new.id == id) refl there
  where
    by : (b : Bool) → (new.id == id) ≡ b → found new.id es ≡ Some (association_of slot old)
        → cond b (option_map (placed new.id new.station new.enb_ue_id) (found new.id es)) (found id es)
        ≡ cond b (Some (association_of slot new)) (without_old (Some old) id (found id es))
    by true here there = ap (option_map (placed new.id new.station new.enb_ue_id)) there
    by false other there = sym (ap (λ (b : Bool). cond b None (found id es)) (ap (λ (n : ℕ). n == id) same ∙ other))

-- ---- a stranger waits

module _ (ws : List Whereabouts) (es fs : List Association) (ss : List OrderedSlot) (place : Connection) (t : IsTable ws es ss)
    (free : found place.id es ≡ None) (each : IsBegun place es fs) where
  begun_other : (id : ℕ) (a : Association) (b : Bool) → (place.id == id) ≡ b → found id es ≡ Some a
      → cond b (Some (stranger_association place)) (found id es) ≡ Some a
  begun_other id a true same at =
      absurd (none-some a (sym (subst (λ (n : ℕ). found n es ≡ None) (eqb-true place.id id same) free) ∙ at))
  begun_other id a false same at = at

  begun_owned : (id : ℕ) (a : Association) (b : Bool) → cond b (Some (stranger_association place)) (found id es) ≡ Some a
      → IsOwned ws a.owner (place_in a)
  begun_owned id a true at =
      subst (λ (c : Association). IsOwned ws c.owner (place_in c)) (same_Some (stranger_association place) a at) tt
  begun_owned id a false at = t.map.owned id a at

  pub begun : IsTable ws fs ss
  begun = record {
    few = t.few;
    map = record {
      opened = λ slot k at. each k.id ∙ begun_other k.id (association_of slot k) (place.id == k.id) refl (t.map.opened slot k at);
      owned = λ id a at. begun_owned id a (place.id == id) (sym (each id) ∙ at);
    };
    paged = t.paged;
  }

pub begun_waits : (place : Connection) (es fs : List Association) (id : ℕ) → IsBegun place es fs
    → waits_at id fs ≡ (if place.id == id then Some place else waits_at id es)
begun_waits place es fs id each = ap waits_in (each id) ∙ by (place.id == id)
  where
    by : (b : Bool) → waits_in (cond b (Some (stranger_association place)) (found id es)) ≡ cond b (Some place) (waits_at id es)
    by true = refl
    by false = refl

-- ---- and waits no longer

slot_stays : (slot : ℕ) (k : Connection) (o : Option Association) → o ≡ Some (association_of slot k)
    → without_stranger o ≡ Some (association_of slot k)
slot_stays slot k o is = ap without_stranger is

module _ (ws : List Whereabouts) (es fs : List Association) (ss : List OrderedSlot) (id : ℕ) (t : IsTable ws es ss)
    (each : IsEnded id es fs) where
  ended_opened : (slot : ℕ) (k : Connection) (b : Bool) → found k.id es ≡ Some (association_of slot k)
      → cond b (without_stranger (found k.id es)) (found k.id es) ≡ Some (association_of slot k)
  ended_opened slot k true at = slot_stays slot k (found k.id es) at
  ended_opened slot k false at = at

  left_owned : (n : ℕ) (a b : Association) (o : AssociationOwner) → b.owner ≡ o → found n es ≡ Some b
      → unless_stranger o (Some b) ≡ Some a → IsOwned ws a.owner (place_in a)
  left_owned n a b Stranger own at is = absurd (none-some a is)
  left_owned n a b (Subscriber slot) own at is =
      subst (λ (c : Association). IsOwned ws c.owner (place_in c)) (same_Some b a is) (t.map.owned n b at)

  ended_owned : (n : ℕ) (a : Association) (b : Bool) (o : Option Association) → found n es ≡ o
      → cond b (without_stranger o) o ≡ Some a → IsOwned ws a.owner (place_in a)
  ended_owned n a true None at is = absurd (none-some a is)
  ended_owned n a true (Some b) at is = left_owned n a b b.owner refl at is
  ended_owned n a false o at is = t.map.owned n a (at ∙ is)

  pub ended : IsTable ws fs ss
  ended = record {
    few = t.few;
    map = record {
      opened = λ slot k at. each k.id ∙ ended_opened slot k (id == k.id) (t.map.opened slot k at);
      owned = λ n a at. ended_owned n a (id == n) (found n es) refl (sym (each n) ∙ at);
    };
    paged = t.paged;
  }

-- the association of a stranger was closed
pub stranger_closed : (id other : ℕ) (a : Association) (es fs : List Association) → found id es ≡ Some a → a.owner ≡ Stranger
    → fs ≡ closed id es → found id fs ≡ None
    → found other fs ≡ (if id == other then without_stranger (found other es) else found other es)
stranger_closed id other a es fs there own is gone = closed_others id other es fs is gone ∙ by (id == other) refl
  where
    by : (b : Bool) → (id == other) ≡ b
        → cond b None (found other es) ≡ cond b (without_stranger (found other es)) (found other es)
    by true same =
        sym (ap without_stranger (subst (λ (n : ℕ). found n es ≡ Some a) (eqb-true id other same) there)
        ∙ ap (λ (o : AssociationOwner). unless_stranger o (Some a)) own)
    by false same = refl

waits_gone_by : (a : Association) (o : AssociationOwner) → a.owner ≡ o → waits_in (unless_stranger o (Some a)) ≡ None
waits_gone_by a Stranger own = refl
waits_gone_by a (Subscriber slot) own = ap (λ (o : AssociationOwner). if_waits o (place_in a)) own

waits_gone : (o : Option Association) → waits_in (without_stranger o) ≡ None
waits_gone None = refl
waits_gone (Some a) = waits_gone_by a a.owner refl

pub ended_waits : (id other : ℕ) (es fs : List Association) → IsEnded id es fs
    → waits_at other fs ≡ (if id == other then None else waits_at other es)
ended_waits id other es fs each = ap waits_in (each other) ∙ by (id == other)
  where
    by : (b : Bool) → waits_in (cond b (without_stranger (found other es)) (found other es)) ≡ cond b None (waits_at other es)
    by true = waits_gone (found other es)
    by false = refl
