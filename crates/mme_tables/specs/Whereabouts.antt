-- Where phones are, whose each association is, and which slots an event of a station concerns.
use Rattle.std.specs.Prelude.{◌≡◌, ℕ, ◌+◌, List, [], ◌∷◌, Option, Some, None, Bool, false, ◌==◌, ◌&&◌, ◌||◌, if◌then◌else◌, slice_index_or}
use Rattle.association_table.specs.declared.association.Association.{Association}
use Rattle.association_table.specs.declared.association.AssociationOwner.{AssociationOwner}
use Rattle.association_table.specs.declared.association.AssociationOwner.TheVariants.{Stranger, Subscriber}
use Rattle.association_table.specs.Table.{found}
use Rattle.mme_types.specs.declared.connection.Connection.{Connection}
use Rattle.mme_types.specs.Listed.{ToReset, is_listed}
use Rattle.mme_tables.specs.declared.whereabouts.Whereabouts.{Whereabouts}

pub record ConnectionTable : Type 0 where
  pub whereabouts : List Whereabouts  -- by slot
  pub associations : List Association  -- by rising id: the connections of slots, and the places of strangers that wait
  pub room : ℕ  -- how many more changes take no allocation

-- no connection, and no paging that is to be sent again
abbrev pub nowhere : Whereabouts
nowhere = record { connection = None; is_paged = false }

abbrev pub whereabouts_at : ℕ → List Whereabouts → Whereabouts
whereabouts_at i ws = slice_index_or ws i nowhere

abbrev pub connection_at : ℕ → List Whereabouts → Option Connection
connection_at i ws = (whereabouts_at i ws).connection

-- ---- associations

-- a connection as a slot's association, and where an association is
abbrev pub association_of : ℕ → Connection → Association
association_of slot k = record { id = k.id; owner = Subscriber slot; station = k.station; enb_ue_id = k.enb_ue_id }

abbrev pub place_in : Association → Connection
place_in a = record { id = a.id; station = a.station; enb_ue_id = a.enb_ue_id }

-- and the place of a stranger that waits
abbrev pub stranger_association : Connection → Association
stranger_association k = record { id = k.id; owner = Stranger; station = k.station; enb_ue_id = k.enb_ue_id }

-- where the stranger is that waits on an id, if one does
abbrev pub if_waits : AssociationOwner → Connection → Option Connection
if_waits Stranger k = Some k
if_waits (Subscriber slot) k = None

abbrev pub waits_in : Option Association → Option Connection
waits_in None = None
waits_in (Some a) = if_waits a.owner (place_in a)

abbrev pub waits_at : ℕ → List Association → Option Connection
waits_at id es = waits_in (found id es)

-- ---- ids

-- no other slot has a connection with the id of the one that a slot is to have
abbrev pub IsFree : ℕ → Option Connection → List Whereabouts → Type 0
IsFree slot new ws = (i : ℕ) (k l : Connection) → new ≡ Some k → connection_at i ws ≡ Some l → l.id ≡ k.id → i ≡ slot

-- and no stranger waits on it
abbrev pub NoneWaits : Option Connection → List Association → Type 0
NoneWaits new es = (k : Connection) → new ≡ Some k → waits_at k.id es ≡ None

-- no slot has a connection with the id
abbrev pub NoneConnected : ℕ → List Whereabouts → Type 0
NoneConnected id ws = (i : ℕ) (k : Connection) → connection_at i ws ≡ Some k → k.id ≡ id → ⊥

-- no two slots have connections with one id, and none has one with the id of a stranger that waits
pub record AreApart (ws : List Whereabouts) (es : List Association) : Type 0 where
  pub slots : (i : ℕ) → IsFree i (connection_at i ws) ws
  pub strangers : (i : ℕ) → NoneWaits (connection_at i ws) es

-- ---- whom an event of a station concerns

-- a connection at the station
abbrev pub is_there : ℕ → Option Connection → Bool
is_there e None = false
is_there e (Some k) = k.station == e

-- the loss of the station concerns the phone: the MME releases its connection (TS 36.413 clauses 8.7.1 and 8.7.3), or looks
-- where its paging is sent again
abbrev pub is_concerned : ℕ → Whereabouts → Bool
is_concerned e w = w.is_paged || is_there e w.connection

-- a RESET of a part of the station means the connection (TS 36.413 clause 8.7.1.2.2)
abbrev pub is_meant_at : ℕ → ToReset → Option Connection → Bool
is_meant_at e items None = false
is_meant_at e items (Some k) = k.station == e && is_listed k.id k.enb_ue_id items

abbrev pub is_meant : ℕ → ToReset → Whereabouts → Bool
is_meant e items w = is_meant_at e items w.connection

module _ {X : Type 0} where
  -- the places, from n on, of those that pass a test
  abbrev pub slots_where : (X → Bool) → ℕ → List X → List ℕ
  slots_where p n [] = []
  slots_where p n (x ∷ xs) = if p x then n ∷ slots_where p (n + 1) xs else slots_where p (n + 1) xs

-- ---- where a station or a list ends associations

-- a connection, or the place of a stranger, unless it passes a test
abbrev pub unless : (Option Connection → Bool) → Option Connection → Option Connection
unless test o = if test o then None else o

-- whose connection passes it is connected nowhere, and paged as before
abbrev pub away_from : (Option Connection → Bool) → Whereabouts → Whereabouts
away_from test w = record { connection = unless test w.connection; is_paged = w.is_paged }
