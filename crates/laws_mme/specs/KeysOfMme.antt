-- Which radio keys an MME hands out for a subscriber over a list of events.
use Rattle.std.specs.Prelude.{◌≡◌, ℕ, List, [], ◌∷◌, ◌++◌, flat_map, slice_get, Option, Some, None}
use Rattle.s1ap_pdus.specs.Pdus.{decoded}
use Rattle.identity_slots.specs.Provisioned.{Provisioned}
use Rattle.mme_types.specs.declared.connection.Connection.{Connection}
use Rattle.emm_machine.specs.SubscriberView.{SubscriberView}
use Rattle.mme_core.specs.declared.config.Config.{Config}
use Rattle.mme_core.specs.declared.event.Event.{Event}
use Rattle.mme_core.specs.Projection.{Told, is_slot, told_in}
use Rattle.mme_core.specs.World.{World, fresh_world, reply, world_after}
use Rattle.laws_mme.specs.Handed.{AreFresh, Handing, handed_in}

-- the connection of a slot's phone
abbrev pub connection_of : Option SubscriberView → Option Connection
connection_of None = None
connection_of (Some x) = x.solo.connection

-- the messages with a radio key in what a slot is told
abbrev pub handed_told : Option Connection → List Told → List Handing
handed_told connection told = flat_map (λ t. handed_in connection t.station (decoded t.octets)) told

-- over a list of events, each with the connection of the slot's phone after its event
abbrev pub handed_for : ℕ → World → List Event → List Handing
handed_for slot w [] = []
handed_for slot w (event ∷ events) =
    handed_told (connection_of (slice_get (world_after w event).subscribers slot)) (told_in (is_slot slot) (reply w event))
    ++ handed_for slot (world_after w event) events

-- each subscriber of an MME
abbrev pub MmeKeysAreFresh : Type 0
MmeKeysAreFresh =
    (config : Config) (p : Provisioned) (events : List Event) (slot : ℕ) (x : SubscriberView)
    → slice_get (fresh_world config p).subscribers slot ≡ Some x
    → AreFresh x.setting.vectors (handed_for slot (fresh_world config p) events)
