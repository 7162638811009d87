-- Over a run of the MME all is in range: the MME after each event, and what the events have for each slot.
use Rattle.std.specs.Prelude.{◌≡◌, ℕ, false, List, ◌∷◌, ◌++◌, Some, slice_get}
use Rattle.identity_slots.specs.Provisioned.{Provisioned}
use Rattle.mme_types.specs.Events.{Item}
use Rattle.emm_machine.specs.Steps.{solo_step}
use Rattle.emm_machine.specs.SubscriberView.{SubscriberView}
use Rattle.mme_core.specs.declared.config.Config.{Config}
use Rattle.mme_core.specs.declared.event.Event.{Event}
use Rattle.mme_core.specs.Projection.{alone_after, item_for, projection}
use Rattle.mme_core.specs.World.{World, fresh_world, strangers_in, subscriber_after, world_run}
use Rattle.laws_network.specs.SubscriberRanges.{EachInRange, ItemInRange, SettingInRange, SoloInRange}
use Rattle.laws_network.specs.WorldRanges.{IsProvisionedInRange, WorldInRange}

-- ---- the MME

abbrev pub BeginsInRange : Type 0
BeginsInRange = (config : Config) (p : Provisioned) → IsProvisionedInRange config p → WorldInRange (fresh_world config p)

-- whatever stations send
abbrev pub WorldStaysInRange : Type 0
WorldStaysInRange = (w : World) (events : List Event) → WorldInRange w → WorldInRange (world_run w events)

-- what the list has for a slot
abbrev pub ItemsAreInRange : Type 0
ItemsAreInRange =
    (w : World) (events : List Event) (slot : ℕ) → WorldInRange w → EachInRange (projection slot w.sight (strangers_in w) events)

-- ---- the steps of a slot

-- what the laws of one subscriber's machine ask for, at a step: what never changes, the state before it, and its item; and what
-- they say of it: the state after it is in range, and each message that the step builds is sent
pub record StepInRange (x : SubscriberView) (item : Item) : Type 0 where
  pub setting : SettingInRange x.setting
  pub before : SoloInRange x.solo
  pub heard : ItemInRange item
  pub after : SoloInRange (subscriber_after x item).solo
  pub whole : (solo_step x.setting x.solo item).unwritten ≡ false

-- the MME that is given these, after a list of events
abbrev pub world_seen : Config → Provisioned → List Event → World
world_seen config p seen = world_run (fresh_world config p) seen

-- at each event of a run
abbrev pub StepsAreInRange : Type 0
StepsAreInRange =
    (config : Config) (p : Provisioned) (seen : List Event) (next : Event) (slot : ℕ) (x : SubscriberView)
    → IsProvisionedInRange config p → slice_get (world_seen config p seen).subscribers slot ≡ Some x
    → StepInRange x (item_for slot (world_seen config p seen).sight (strangers_in (world_seen config p seen)) next)

-- the items of a slot over a run
abbrev pub items_of_run : Config → Provisioned → List Event → ℕ → List Item
items_of_run config p events slot = projection slot (fresh_world config p).sight (strangers_in (fresh_world config p)) events

-- and at each of those
abbrev pub AloneStepsAreInRange : Type 0
AloneStepsAreInRange =
    (config : Config) (p : Provisioned) (events : List Event) (slot : ℕ) (x : SubscriberView) (before since : List Item)
    (item : Item)
    → IsProvisionedInRange config p → slice_get (fresh_world config p).subscribers slot ≡ Some x
    → items_of_run config p events slot ≡ before ++ item ∷ since → StepInRange (alone_after x before) item
