-- The associations of an MME by their ids: those of the subscribers, and of the strangers that wait.
use Rattle.std.specs.Prelude.{◌≡◌, ◌↔◌, ℕ, ◌+◌, List, [], ◌∷◌, ◌++◌, Option, Some, None}
use Rattle.sorted_list.specs.Ordered.{Distinct, at}
use Rattle.association_table.specs.declared.association.Association.{Association}
use Rattle.association_table.specs.declared.association.AssociationOwner.{AssociationOwner}
use Rattle.association_table.specs.declared.association.AssociationOwner.TheVariants as owners
use Rattle.association_table.specs.Table.{association_id}
use Rattle.mme_types.specs.declared.connection.Connection.{Connection}
use Rattle.emm_machine.specs.SubscriberView.{SubscriberView}
use Rattle.stranger_machine.specs.declared.state.KeptEntry.{KeptEntry}
use Rattle.stranger_machine.specs.declared.state.Stranger.{Stranger}
use Rattle.stranger_machine.specs.declared.state.Stranger.TheVariants.{Waiting, Held}
use Rattle.stranger_machine.specs.declared.table.Known.{Known}
use Rattle.stranger_machine.specs.Table.{stranger_at}
use Rattle.stranger_machine.specs.Turns.{place_of}
use Rattle.laws_apart.specs.Apart.{Has, IdsApart}

-- a connection as somebody's association, and where an association is
abbrev pub association_of : AssociationOwner → Connection → Association
association_of owner k = record { id = k.id; owner = owner; station = k.station; enb_ue_id = k.enb_ue_id }

abbrev pub place_in : Association → Connection
place_in a = record { id = a.id; station = a.station; enb_ue_id = a.enb_ue_id }

-- ---- all of them

abbrev pub with_connection : ℕ → Option Connection → List Association → List Association
with_connection slot None rest = rest
with_connection slot (Some k) rest = association_of (owners.Subscriber slot) k ∷ rest

-- of the subscribers, the first of whom has this slot
abbrev pub connected : ℕ → List SubscriberView → List Association
connected slot [] = []
connected slot (x ∷ xs) = with_connection slot x.solo.connection (connected (slot + 1) xs)

abbrev pub with_waiting : ℕ → Stranger → List Association → List Association
with_waiting id (Waiting k left repeats) rest = association_of owners.Stranger (place_of id k) ∷ rest
with_waiting id (Held slot) rest = rest

-- of the strangers that wait; one that is held is its subscriber's
abbrev pub unclaimed : List Known → List Association
unclaimed [] = []
unclaimed (x ∷ xs) = with_waiting x.id x.stranger (unclaimed xs)

abbrev pub associations : List Known → List SubscriberView → List Association
associations ks ws = connected 0 ws ++ unclaimed ks

-- ---- each id once

abbrev pub EachIdOnce : Type 0
EachIdOnce = (ks : List Known) (ws : List SubscriberView) → IdsApart ks ws → Distinct association_id (associations ks ws)

-- so the id alone says whose an association is, and where
abbrev pub IsOf : List Known → List SubscriberView → Connection → AssociationOwner → Type 0
IsOf ks ws k (owners.Subscriber slot) = Has ws slot k
IsOf ks ws k owners.Stranger =
    (kept : KeptEntry) × (left : ℕ) × (repeats : ℕ) × (stranger_at k.id ks ≡ Some (Waiting kept left repeats))
    × (k ≡ place_of k.id kept)

abbrev pub FoundExactly : Type 0
FoundExactly =
    (ks : List Known) (ws : List SubscriberView) (id : ℕ) (a : Association) → IdsApart ks ws
    → (at association_id id (associations ks ws) ≡ Some a) ↔ (IsOf ks ws (place_in a) a.owner × (a.id ≡ id))
