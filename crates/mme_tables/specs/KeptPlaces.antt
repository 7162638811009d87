-- The associations, and the list of those who are paged.
use Rattle.std.specs.Prelude.{◌≡◌, ℕ, ◌≤◌, List, length, Option, Some, None, Bool, false, ◌==◌, ◌&&◌, ◌||◌, is_some, nat_lt, if◌then◌else◌}
use Rattle.identity_slots.specs.Ids.{slots}
use Rattle.mme_types.specs.declared.connection.Connection.{Connection}
use Rattle.association_table.specs.declared.association.Association.{Association}
use Rattle.association_table.specs.declared.association.AssociationOwner.{AssociationOwner}
use Rattle.association_table.specs.declared.association.AssociationOwner.TheVariants.{Stranger, Subscriber}
use Rattle.association_table.specs.Table.{found}
use Rattle.sorted_list.specs.Ordered.{at, Rising}
use Rattle.mme_tables.specs.declared.whereabouts.Whereabouts.{Whereabouts}
use Rattle.mme_tables.specs.declared.slots.OrderedSlot.{OrderedSlot}
use Rattle.mme_tables.specs.Whereabouts.{association_of, connection_at, place_in, stranger_association, whereabouts_at}

-- ---- slots in order

abbrev pub slot_rank : OrderedSlot → ℕ
slot_rank s = s.slot

-- the slots that pass a test, by rising slot
pub record Holds (test : ℕ → Bool) (ss : List OrderedSlot) : Type 0 where
  pub rising : Rising slot_rank ss
  pub each : (i : ℕ) → is_some (at slot_rank i ss) ≡ test i

-- where those that pass a test were gathered, those that pass the other test are now, too
abbrev pub Gathers : (ℕ → Bool) → List OrderedSlot → List OrderedSlot → Type 0
Gathers test old new = (before : ℕ → Bool) → Holds before old → Holds (λ i. before i || test i) new

-- whose an association is
abbrev pub is_held_by : ℕ → AssociationOwner → Bool
is_held_by i Stranger = false
is_held_by i (Subscriber n) = n == i && nat_lt i slots

abbrev pub is_held : ℕ → Association → Bool
is_held i a = is_held_by i a.owner

-- ---- a change

-- the association with an id once a slot has lost its connection, and once it has another
abbrev pub without_old : Option Connection → ℕ → Option Association → Option Association
without_old None id o = o
without_old (Some k) id o = if k.id == id then None else o

abbrev pub with_new : ℕ → Option Connection → ℕ → Option Association → Option Association
with_new slot None id o = o
with_new slot (Some k) id o = if k.id == id then Some (association_of slot k) else o

-- a slot has a connection in place of another
abbrev pub IsReopened : ℕ → Option Connection → Option Connection → List Association → List Association → Type 0
IsReopened slot old new es fs = (id : ℕ) → found id fs ≡ with_new slot new id (without_old old id (found id es))

-- it has its association
abbrev pub IsOpen : ℕ → Option Connection → List Association → Type 0
IsOpen slot old es = (k : Connection) → old ≡ Some k → found k.id es ≡ Some (association_of slot k)

-- and the id of the other one has none then
abbrev pub IsVacant : Option Connection → Option Connection → List Association → Type 0
IsVacant old new es = (k : Connection) → new ≡ Some k → without_old old k.id (found k.id es) ≡ None

-- ---- strangers

-- a stranger waits, where the id had no association
abbrev pub IsBegun : Connection → List Association → List Association → Type 0
IsBegun k es fs = (id : ℕ) → found id fs ≡ (if k.id == id then Some (stranger_association k) else found id es)

-- the association with an id, if it is a stranger's, is gone
abbrev pub unless_stranger : AssociationOwner → Option Association → Option Association
unless_stranger Stranger o = None
unless_stranger (Subscriber slot) o = o

abbrev pub without_stranger : Option Association → Option Association
without_stranger None = None
without_stranger (Some a) = unless_stranger a.owner (Some a)

abbrev pub IsEnded : ℕ → List Association → List Association → Type 0
IsEnded k es fs = (id : ℕ) → found id fs ≡ (if k == id then without_stranger (found id es) else found id es)

-- ---- slots whose association was closed

-- connected nowhere, if that is so, and paged as before
abbrev pub disconnected_if : Bool → Whereabouts → Whereabouts
disconnected_if b w = record { connection = if b then None else w.connection; is_paged = w.is_paged }

-- the slots that pass a test are connected nowhere
pub record Disconnects (test : ℕ → Bool) (old new : List Whereabouts) : Type 0 where
  pub many : length new ≡ length old
  pub each : (i : ℕ) → whereabouts_at i new ≡ disconnected_if (test i) (whereabouts_at i old)

-- ---- what always holds

-- whose connection an association is, if it is a slot's
abbrev pub IsOwned : List Whereabouts → AssociationOwner → Connection → Type 0
IsOwned ws Stranger k = Unit {0}
IsOwned ws (Subscriber slot) k = connection_at slot ws ≡ Some k

abbrev pub IsHeld : List Whereabouts → Association → Type 0
IsHeld ws a = (slot : ℕ) × (a.owner ≡ Subscriber slot) × (connection_at slot ws ≡ Some (place_in a))

-- each connection is an association, and each association of a slot its connection
pub record IsMap (ws : List Whereabouts) (es : List Association) : Type 0 where
  pub opened : (slot : ℕ) → IsOpen slot (connection_at slot ws) es
  pub owned : (id : ℕ) (a : Association) → found id es ≡ Some a → IsOwned ws a.owner (place_in a)

pub record IsTable (ws : List Whereabouts) (es : List Association) (ss : List OrderedSlot) : Type 0 where
  pub few : length ws ≤ slots
  pub map : IsMap ws es
  pub paged : Holds (λ slot. (whereabouts_at slot ws).is_paged) ss
