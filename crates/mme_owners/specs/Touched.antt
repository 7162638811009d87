-- Whom an item touches, and where the phones are, by which those are found whom one of a station touches.
use Rattle.std.specs.Prelude.{◌≡◌, ℕ, not, List, [], ◌∷◌, map, slice_get, slice_set, Some}
use Rattle.mme_types.specs.Events.{Item}
use Rattle.mme_types.specs.declared.connection.Connection.{Connection}
use Rattle.mme_tables.specs.declared.whereabouts.Whereabouts.{Whereabouts}
use Rattle.mme_tables.specs.Whereabouts.{connection_at, slots_where}
use Rattle.emm_state.specs.declared.solo.Solo.{Solo}
use Rattle.emm_machine.specs.Still.{pages, still}
use Rattle.emm_machine.specs.SubscriberView.{SubscriberView}
use Rattle.mme_owners.specs.SteppedView.{SteppedView}

-- the slots of those whom an item doesn't leave as they are, as far as a look tells
abbrev pub touched_slots : Item → List SubscriberView → List ℕ
touched_slots item ws = slots_where (λ (w : SubscriberView). not (still w.solo item)) 0 ws

-- where a subscriber's phone is
abbrev pub whereabouts : Solo → Whereabouts
whereabouts s = record { connection = s.connection; is_paged = pages s.repeat }

abbrev pub all_whereabouts : List SubscriberView → List Whereabouts
all_whereabouts ws = map (λ (w : SubscriberView). whereabouts w.solo) ws

-- each phone is where the state says that was prepared
abbrev pub with_whereabouts : List SteppedView → List Whereabouts → List Whereabouts
with_whereabouts [] cs = cs
with_whereabouts (x ∷ xs) cs = with_whereabouts xs (slice_set cs x.slot (whereabouts x.solo))

-- ---- connections

-- a subscriber's connection
pub record Has (ws : List SubscriberView) (slot : ℕ) (k : Connection) : Type 0 where
  pub subscriber : SubscriberView
  pub there : slice_get ws slot ≡ Some subscriber
  pub connected : subscriber.solo.connection ≡ Some k

-- the connection that was prepared is on an id that no other slot has
abbrev pub IsFreeFor : List SubscriberView → SteppedView → Type 0
IsFreeFor ws x = (i : ℕ) (k l : Connection) → x.solo.connection ≡ Some k → Has ws i l → l.id ≡ k.id → i ≡ x.slot

-- it is the one that the slot has, or none
abbrev pub KeepsPlace : List SubscriberView → SteppedView → Type 0
KeepsPlace ws x = (k : Connection) → x.solo.connection ≡ Some k → Has ws x.slot k

abbrev pub KeepsConnection : List Whereabouts → SteppedView → Type 0
KeepsConnection cs x = (k : Connection) → x.solo.connection ≡ Some k → connection_at x.slot cs ≡ Some k
