-- Where an event goes, and what of it each stranger and each subscriber has.
use Rattle.std.specs.Prelude.{ℕ, List, Option, Some, None, ◌==◌, if◌then◌else◌}
use Rattle.identity_slots.specs.declared.profile.Profile.{Profile}
use Rattle.mme_types.specs.declared.event.Entry.{Entry}
use Rattle.mme_types.specs.declared.event.UeMessage.{UeMessage}
use Rattle.mme_types.specs.Events.{Item, ConnectionsGone, StationGone}
use Rattle.mme_types.specs.Events as items
use Rattle.stranger_machine.specs.declared.state.Stranger.{Stranger as StrangerState}
use Rattle.stranger_machine.specs.declared.turn.Notice.{Notice}
use Rattle.stranger_machine.specs.declared.turn.Notice.TheVariants.{Gone, Listed, Tick}
use Rattle.stranger_machine.specs.declared.table.Known.{Known}
use Rattle.stranger_machine.specs.Machine.{Input, Begins, Nothing, Notes, Receives, stranger_step}
use Rattle.stranger_machine.specs.Table.{noted, with_input}
use Rattle.stranger_machine.specs.Turns.{Call}

-- nobody; one subscriber, by its slot, with its item; a stranger that begins, by its id; the stranger whose id a message has;
-- everyone, with a notice
pub data Destination : Type 0 where
  Nobody : Destination
  Subscriber : ℕ → Item → Destination
  Beginner : ℕ → Entry (List ℕ) → Destination
  Stranger : UeMessage (List ℕ) → Destination
  Everyone : Notice → Destination

-- ---- what of it is a stranger's

-- by its id
abbrev pub input_for : Destination → ℕ → Input
input_for Nobody id = Nothing
input_for (Subscriber n item) id = Nothing
input_for (Beginner n m) id = if n == id then Begins m else Nothing
input_for (Stranger m) id = if m.mme_ue_id == id then Receives m else Nothing
input_for (Everyone notice) id = Notes notice

-- the strangers after it
abbrev pub strangers_left : List Profile → Destination → List Known → List Known
strangers_left ps Nobody ks = ks
strangers_left ps (Subscriber n item) ks = ks
strangers_left ps (Beginner id m) ks = with_input ps id (Begins m) ks
strangers_left ps (Stranger m) ks = with_input ps m.mme_ue_id (Receives m) ks
strangers_left ps (Everyone notice) ks = noted notice ks

-- ---- what of it is a subscriber's

-- an item of one slot, and of every slot
abbrev pub for_one : ℕ → Item → ℕ → Item
for_one n item slot = if n == slot then item else items.Nothing

abbrev pub for_all : Item → ℕ → Item
for_all item slot = item

-- what a stranger calls with, if it calls
abbrev pub if_called : Option Call → ℕ → Item
if_called None slot = items.Nothing
if_called (Some c) slot = for_one c.slot c.item slot

abbrev pub item_of_notice : Notice → Item
item_of_notice Tick = items.Tick
item_of_notice (Gone e) = StationGone e
item_of_notice (Listed e items) = ConnectionsGone e items

-- by its slot: the strangers, by id, tell whom they call
abbrev pub item_at : Destination → List Profile → (ℕ → Option StrangerState) → ℕ → Item
item_at Nobody ps g slot = items.Nothing
item_at (Subscriber n item) ps g slot = for_one n item slot
item_at (Beginner id m) ps g slot = if_called (stranger_step ps id (g id) (Begins m)).call slot
item_at (Stranger m) ps g slot = if_called (stranger_step ps m.mme_ue_id (g m.mme_ue_id) (Receives m)).call slot
item_at (Everyone notice) ps g slot = for_all (item_of_notice notice) slot
