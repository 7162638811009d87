-- What strangers and subscribers are once what was prepared for an event is settled.
use Rattle.std.specs.Prelude.{◌≡◌, ◌+◌, ◌<◌, ◌≤◌, ◌^◌, ℕ, Bool, true, false, slice_get, List, [], length, map, option_map, Option, Some}
use Rattle.std.specs.Option.{option_map_or}
use Rattle.emm_state.specs.declared.draft.Draft.{Draft}
use Rattle.emm_state.specs.declared.solo.Solo.{Solo}
use Rattle.mme_types.specs.Events.{Item, Message}
use Rattle.emm_machine.specs.Still.{still}
use Rattle.emm_machine.specs.SubscriberView.{SubscriberView}
use Rattle.sorted_list.specs.Ordered.{Every}
use Rattle.stranger_machine.specs.declared.table.Known.{Known}
use Rattle.stranger_machine.specs.declared.turn.Notice.{Notice}
use Rattle.stranger_machine.specs.declared.turn.Notice.TheVariants as notices
use Rattle.stranger_machine.specs.Machine.{is_of_station, notes}
use Rattle.stranger_machine.specs.Table.{noted, stranger_at, with_stranger}
use Rattle.stranger_machine.specs.Turns.{after_of}
use Rattle.mme_tables.specs.Waiting.{due_ids}
use Rattle.mme_owners.specs.SteppedView.{SteppedView}
use Rattle.mme_owners.specs.Touched.{KeepsPlace}
use Rattle.mme_owners.specs.Noticed.{slots_noticed, OutlivesNotice}
use Rattle.mme_owners.specs.Subscribers.{AreOnward, IsCounting, due_slots, slots_stepped, step_at, subscriber_step, tick_settled}
use Rattle.mme_owners.specs.Owners.{IsWaitAfter}
use Rattle.mme_owners.specs.Placed.{AreApart}
pub use Rattle.mme_owners.specs.Owners.{with_one, IsFit, IsFitIf}
use Rattle.mme_answering.specs.declared.out.Out.{Out}
use Rattle.mme_answering.specs.declared.prepared.Prepared.{Prepared}
use Rattle.mme_answering.specs.declared.prepared.Prepared.TheVariants as prepared
use Rattle.mme_routing.specs.declared.destination.Destination.{Destination as DestinationInCode}
use Rattle.mme_routing.specs.declared.destination.Destination.TheVariants as code
use Rattle.mme_routing.specs.Destinations.{Destination, Everyone}
use Rattle.mme_answering.specs.Sending.{slot_out, stranger_out}
pub use Rattle.mme_owners.specs.Subscribers.{in_state, with_solo, with_stepped}

-- the subscribers, as they were prepared
abbrev pub settled_subscribers : Prepared → List SubscriberView → List SubscriberView
settled_subscribers prepared.Nobody ws = ws
settled_subscribers (prepared.Subscriber x) ws = with_solo x.slot x.solo ws
settled_subscribers (prepared.Stranger id after x) ws = with_one x ws
settled_subscribers (prepared.Everyone notice xs) ws = with_stepped xs.items ws
settled_subscribers (prepared.Tick ids xs) ws = tick_settled xs.items ws

-- and the strangers
abbrev pub settled_strangers : Prepared → List Known → List Known
settled_strangers prepared.Nobody ks = ks
settled_strangers (prepared.Subscriber x) ks = ks
settled_strangers (prepared.Stranger id after x) ks = with_stranger id (after_of after (stranger_at id ks)) ks
settled_strangers (prepared.Everyone notice xs) ks = noted notice ks
settled_strangers (prepared.Tick ids xs) ks = noted notices.Tick ks

-- and their clock
abbrev pub settled_clock : Prepared → ℕ → ℕ
settled_clock (prepared.Tick ids xs) clock = clock + 1
settled_clock _ clock = clock

-- each has the slot of a subscriber, each of its countdowns that runs is in time, and it asks for no vector that was spent
abbrev pub AreFit : List SubscriberView → List SteppedView → Type 0
AreFit ws xs =
    Every (λ (x : SteppedView). x.slot < length ws) xs × Every (λ (x : SteppedView). IsCounting x.solo) xs × AreOnward ws xs

-- each is that of a subscriber, at a tick they are those who are due, as the strangers are, and any other notice is that of a
-- station, and they are those whom it touches; at both each is connected as it was, where a notice doesn't end it, or no longer; and
-- none asks for a vector that was spent
abbrev pub IsFor : Prepared → List Known → List SubscriberView → Type 0
IsFor prepared.Nobody ks ws = Unit {0}
IsFor (prepared.Subscriber x) ks ws = IsFit ws x
IsFor (prepared.Stranger id after x) ks ws = IsFitIf ws x
IsFor (prepared.Everyone notice xs) ks ws =
    AreFit ws xs.items × (length xs.items ≤ length ws) × (is_of_station notice ≡ true) × Every (OutlivesNotice notice ws) xs.items
    × (slots_stepped xs.items ≡ slots_noticed notice ws)
IsFor (prepared.Tick ids xs) ks ws =
    (slots_stepped xs.items ≡ due_slots ws) × Every (λ (x : SteppedView). IsCounting x.solo) xs.items × Every (KeepsPlace ws) xs.items
    × (ids.items ≡ due_ids ks) × AreOnward ws xs.items

-- with what was prepared no two have one id
abbrev pub IsApart : Prepared → List Known → List SubscriberView → Type 0
IsApart p ks ws = AreApart (settled_strangers p ks) (settled_subscribers p ws)

-- a stranger that waits from now on has an id of one, and T3470 in time
abbrev pub IsWaiting : Prepared → Type 0
IsWaiting (prepared.Stranger id after x) = IsWaitAfter id after
IsWaiting _ = Unit {0}

-- for T3470 of how many strangers room is made
abbrev pub starts_of : Prepared → ℕ
starts_of (prepared.Stranger id after x) = 1
starts_of (prepared.Tick ids xs) = length ids.items
starts_of _ = 0

-- for how many steps room is made
abbrev pub steps_of : Prepared → ℕ
steps_of prepared.Nobody = 0
steps_of (prepared.Subscriber x) = 1
steps_of (prepared.Stranger id after x) = 1
steps_of (prepared.Everyone notice xs) = length xs.items
steps_of (prepared.Tick ids xs) = length xs.items

-- ---- a tick

-- a tick alone moves a clock, and only one below 2^62
abbrev pub MayPass : Prepared → ℕ → Type 0
MayPass (prepared.Tick ids xs) clock = clock < 2 ^ 62
MayPass _ clock = Unit {0}

-- and it moves no further than another
abbrev pub IsInTime : Prepared → ℕ → ℕ → Type 0
IsInTime p before after = MayPass p before × (settled_clock p before ≤ after)

-- it doesn't go to everyone
abbrev pub is_own : DestinationInCode → Bool
is_own (code.Everyone notice) = false
is_own _ = true

-- a tick was prepared only where everyone was told of one
abbrev pub IsPassing : Destination → Prepared → Type 0
IsPassing d (prepared.Tick ids xs) = d ≡ Everyone notices.Tick
IsPassing d _ = Unit {0}

-- ---- what an item makes of those whom it is for

-- the state of a slot after an item, and what it sends, if somebody has it
abbrev pub solo_at : ℕ → Item → List SubscriberView → Option Solo
solo_at slot item ws = option_map (λ (d : Draft). d.solo) (step_at slot item ws)

abbrev pub sent_at : ℕ → Item → List SubscriberView → List Out
sent_at slot item ws = option_map_or (λ w. map (slot_out slot) (subscriber_step w item).sent) (slice_get ws slot) []

-- whether a look at a subscriber tells that an item leaves it as it is, and that nothing is sent: a message alone is looked at
abbrev pub is_seen_still : Item → SubscriberView → Bool
is_seen_still (Message m) w = still w.solo (Message m)
is_seen_still _ w = false

-- what a slot's subscriber sends at an item
abbrev pub item_sent : Item → ℕ → SubscriberView → List Out
item_sent item n w = map (slot_out n) (subscriber_step w item).sent

-- what a stranger sends at a notice
abbrev pub known_sent : Notice → Known → List Out
known_sent notice k = map (stranger_out k.id) (notes k.id (Some k.stranger) notice).sent
