-- What ends in an MME where nothing but time comes.
use Rattle.std.specs.Prelude.{◌≡◌, ℕ, zero, suc, ◌+◌, ◌^◌, ◌≤◌, false, List, [], ◌∷◌, ◌++◌, map, Some, None, slice_get}
use Rattle.sorted_list.specs.Ordered.{Every}
use Rattle.identity_slots.specs.Provisioned.{Provisioned}
use Rattle.mme_types.specs.Events.{Item}
use Rattle.emm_state.specs.declared.solo.Phase.TheVariants.{Deregistered, Registered}
use Rattle.emm_machine.specs.SubscriberView.{SubscriberView}
use Rattle.emm_machine.specs.Ticks.{ticks_after}
use Rattle.stranger_machine.specs.declared.table.Known.{Known}
use Rattle.laws_subscriber.specs.Ends.{IsSettled, longest_procedure, longest_registration}
use Rattle.laws_subscriber.specs.Silent.{AreSilent, ticks_among}
use Rattle.laws_subscriber.specs.Strangers.{is_waiting}
use Rattle.mme_core.specs.declared.config.Config.{Config}
use Rattle.mme_core.specs.declared.event.Event.{Event}
use Rattle.mme_core.specs.declared.event.Event.TheVariants.{Tick}
use Rattle.mme_core.specs.Kept.{IsKept}
use Rattle.mme_core.specs.Projection.{projection}
use Rattle.mme_core.specs.World.{World, fresh_world, strangers_in, world_run}

-- ---- ticks in a row

abbrev pub tick_events : ℕ → List Event
tick_events zero = []
tick_events (suc n) = Tick ∷ tick_events n

-- the clock has as many left: it is refused from 2^62 on
abbrev pub HasTicks : ℕ → World → Type 0
HasTicks n w = w.sight.clock + n ≤ 2 ^ 62

abbrev pub ticked : ℕ → SubscriberView → SubscriberView
ticked n x = record { setting = x.setting; solo = ticks_after x.setting n x.solo }

-- n ticks of the MME are n of each subscriber
abbrev pub TicksReachEveryone : Type 0
TicksReachEveryone = (w : World) (n : ℕ) → HasTicks n w → (world_run w (tick_events n)).subscribers ≡ map (ticked n) w.subscribers

abbrev pub IsSubscriberSettled : SubscriberView → Type 0
IsSubscriberSettled x = IsSettled x.solo

abbrev pub IsNotWaiting : Known → Type 0
IsNotWaiting k = is_waiting (Some k.stranger) ≡ false

-- in as many ticks in a row as the longest procedure lasts, no procedure is under way any more, nobody is paged, and no stranger waits
abbrev pub AllEndsInTime : Type 0
AllEndsInTime =
    (w : World) (n : ℕ) → IsKept w → HasTicks n w → longest_procedure ≤ n
    → Every IsSubscriberSettled (world_run w (tick_events n)).subscribers
    × Every IsNotWaiting (world_run w (tick_events n)).strangers

-- so it is of an MME from its start, whatever it heard before
abbrev pub EveryRunEnds : Type 0
EveryRunEnds =
    (config : Config) (p : Provisioned) (events : List Event) (n : ℕ) → HasTicks n (world_run (fresh_world config p) events)
    → longest_procedure ≤ n
    → Every IsSubscriberSettled (world_run (fresh_world config p) (events ++ tick_events n)).subscribers
    × Every IsNotWaiting (world_run (fresh_world config p) (events ++ tick_events n)).strangers

-- and in the end each phone is deregistered that wasn't registered and connected
abbrev pub AllAreForgotten : Type 0
AllAreForgotten =
    (w : World) (n slot : ℕ) (x : SubscriberView) → IsKept w → HasTicks n w → longest_registration ≤ n
    → slice_get w.subscribers slot ≡ Some x
    → (x.solo.phase ≡ Registered → x.solo.connection ≡ None)
    → (slice_get (world_run w (tick_events n)).subscribers slot ≡ Some (ticked n x)) × ((ticked n x).solo.phase ≡ Deregistered)

-- ---- one slot, while others go on

-- what a list of events has for a slot
abbrev pub items_for : World → ℕ → List Event → List Item
items_for w slot events = projection slot w.sight (strangers_in w) events

-- a phone that is silent over a list, and that nobody asks for, is in no procedure after it, whatever the list has for others
abbrev pub SilentSlotEnds : Type 0
SilentSlotEnds =
    (w : World) (events : List Event) (slot : ℕ) (x y : SubscriberView) → IsKept w → slice_get w.subscribers slot ≡ Some x
    → slice_get (world_run w events).subscribers slot ≡ Some y
    → AreSilent (items_for w slot events) → longest_procedure ≤ ticks_among (items_for w slot events) → IsSettled y.solo

-- and is deregistered in the end
abbrev pub SilentSlotIsForgotten : Type 0
SilentSlotIsForgotten =
    (w : World) (events : List Event) (slot : ℕ) (x y : SubscriberView) → IsKept w → slice_get w.subscribers slot ≡ Some x
    → slice_get (world_run w events).subscribers slot ≡ Some y
    → AreSilent (items_for w slot events) → (x.solo.phase ≡ Registered → x.solo.connection ≡ None)
    → longest_registration ≤ ticks_among (items_for w slot events) → y.solo.phase ≡ Deregistered
