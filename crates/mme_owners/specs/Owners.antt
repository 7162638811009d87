-- What a caller sees of the owners, and what always holds of them.
use Rattle.std.specs.Prelude.{◌≡◌, ℕ, ◌^◌, ◌<◌, ◌≤◌, List, [], ◌∷◌, ◌++◌, length, Option, Some, None}
use Rattle.nas_elements.specs.Timers.{mobile_reachable_ticks}
use Rattle.emm_machine.specs.SubscriberView.{SubscriberView}
use Rattle.emm_machine.specs.Ticks.{countdowns}
use Rattle.stranger_machine.specs.declared.table.Known.{Known}
use Rattle.stranger_machine.specs.declared.turn.After.{After}
use Rattle.stranger_machine.specs.declared.turn.After.TheVariants as after
use Rattle.timer_queue.specs.Countdowns.{Countdown, Countdowns}
use Rattle.mme_tables.specs.Running.{both_retimed, running_from}
use Rattle.mme_tables.specs.Waiting.{AreWaits, due_ids, wait_of, waits_of}
use Rattle.mme_tables.specs.Strangers.{StrangerTable}
use Rattle.mme_owners.specs.SteppedView.{SteppedView}
use Rattle.mme_owners.specs.Subscribers.{SubscriberTable, all_countdowns, due_slots, with_solo, IsCounting, IsOnwardAt}
use Rattle.mme_owners.specs.Touched.{IsFreeFor}

pub record OwnersView : Type 0 where
  pub clock : ℕ
  pub strangers : List Known  -- those that aren't closed, by rising id, each as it is now
  pub subscribers : List SubscriberView  -- by slot, each as it is now
  pub room : ℕ  -- how many more countdowns can be started with no allocation
  pub places : ℕ  -- how many more associations can be changed with no allocation

-- and of their records alone
pub record RecordsView : Type 0 where
  pub clock : ℕ
  pub strangers : List Known
  pub subscribers : List SubscriberView
  pub room : ℕ

-- the countdowns that run: T3470 of each stranger that waits, by id, and then those of each subscriber, by slot
abbrev pub countdowns_of : List Known → List SubscriberView → List Countdown
countdowns_of ks ws = waits_of ks ++ running_from 0 (all_countdowns ws)

-- what always holds of the records: the clocks are one, and the queue has the countdowns that run
pub record AreRecords (timers : Countdowns) (strangers : StrangerTable) (subscribers : SubscriberTable) : Type 0 where
  pub strangers_clock : strangers.clock ≡ timers.clock
  pub subscribers_clock : subscribers.clock ≡ timers.clock
  pub waits : AreWaits strangers.strangers
  pub timed : timers.running ≡ countdowns_of strangers.strangers subscribers.subscribers

-- the next tick ends no countdown: T3470 of no stranger, and none of a subscriber
pub record NobodyIsDue (ks : List Known) (ws : List SubscriberView) : Type 0 where
  pub strangers : due_ids ks ≡ []
  pub slots : due_slots ws ≡ []

-- the state of the one that was prepared, if one was
abbrev pub with_one : Option SteppedView → List SubscriberView → List SubscriberView
with_one None ws = ws
with_one (Some x) ws = with_solo x.slot x.solo ws

-- it has the slot of a subscriber, each of its countdowns that runs is in time, and it asks for no vector that was spent
abbrev pub IsFit : List SubscriberView → SteppedView → Type 0
IsFit ws x = (x.slot < length ws) × IsCounting x.solo × IsOnwardAt ws x

-- and so the one that was prepared, if one was
abbrev pub IsFitIf : List SubscriberView → Option SteppedView → Type 0
IsFitIf ws None = Unit {0}
IsFitIf ws (Some x) = IsFit ws x

-- no other slot has the id of the connection that was prepared, if one was
abbrev pub IsFreeIf : List SubscriberView → Option SteppedView → Type 0
IsFreeIf ws None = Unit {0}
IsFreeIf ws (Some x) = IsFreeFor ws x

-- the countdowns that run, where those of each slot are what was prepared
abbrev pub all_retimed : List SteppedView → List Countdown → List Countdown
all_retimed [] cs = cs
all_retimed (x ∷ xs) cs = all_retimed xs (both_retimed x.slot (countdowns x.solo) cs)

-- T3470 may run of a stranger with an id from 2^31 on, from 1 tick to those of the longest timer
abbrev pub IsStart : ℕ → Option ℕ → Type 0
IsStart id None = Unit {0}
IsStart id (Some left) = (2 ^ 31 ≤ id) × (1 ≤ left) × (left ≤ mobile_reachable_ticks)

-- of a stranger that waits from now on T3470 may run
abbrev pub IsWaitAfter : ℕ → After → Type 0
IsWaitAfter id after.Stays = Unit {0}
IsWaitAfter id after.Closed = Unit {0}
IsWaitAfter id (after.Is s) = IsStart id (wait_of s)
