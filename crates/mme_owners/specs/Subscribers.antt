-- What a caller sees of the table, and what becomes of it.
use Rattle.std.specs.Prelude.{◌≡◌, ℕ, ◌+◌, List, [], ◌∷◌, map, slice_get, slice_set, Option, Some, option_map}
use Rattle.std.specs.Option.{option_map_or}
use Rattle.mme_types.specs.Events.{Item}
use Rattle.emm_state.specs.declared.draft.Draft.{Draft}
use Rattle.emm_state.specs.declared.solo.Solo.{Solo}
use Rattle.emm_state.specs.Taking.{IsOnward}
use Rattle.emm_machine.specs.Steps.{solo_step}
use Rattle.emm_machine.specs.SubscriberView.{SubscriberView}
use Rattle.emm_machine.specs.Ticks.{countdowns, solo_aged}
use Rattle.sorted_list.specs.Ordered.{Every}
use Rattle.mme_owners.specs.SteppedView.{SteppedView}
use Rattle.mme_tables.specs.Running.{AreInRange, due_from}

pub record SubscriberTable : Type 0 where
  pub clock : ℕ
  pub subscribers : List SubscriberView  -- by slot, each as it is now

-- ---- steps

abbrev pub subscriber_step : SubscriberView → Item → Draft
subscriber_step w item = solo_step w.setting w.solo item

abbrev pub subscriber_after : SubscriberView → Item → SubscriberView
subscriber_after w item = record { setting = w.setting; solo = (subscriber_step w item).solo }

-- each subscriber after its own item, from slot n on
abbrev pub each_after : (ℕ → Item) → ℕ → List SubscriberView → List SubscriberView
each_after items n [] = []
each_after items n (w ∷ ws) = subscriber_after w (items n) ∷ each_after items (n + 1) ws

-- the step of a slot, if somebody has it
abbrev pub step_at : ℕ → Item → List SubscriberView → Option Draft
step_at slot item ws = option_map (λ w. subscriber_step w item) (slice_get ws slot)

-- ---- what is settled

abbrev pub in_state : Solo → SubscriberView → SubscriberView
in_state s w = record { setting = w.setting; solo = s }

abbrev pub with_solo : ℕ → Solo → List SubscriberView → List SubscriberView
with_solo n s ws = option_map_or (λ w. slice_set ws n (in_state s w)) (slice_get ws n) ws

-- each in the state that it was prepared for
abbrev pub with_stepped : List SteppedView → List SubscriberView → List SubscriberView
with_stepped [] ws = ws
with_stepped (x ∷ xs) ws = with_stepped xs (with_solo x.slot x.solo ws)

-- a state that asks for no vector of its slot's subscriber that was spent
abbrev pub IsOnwardAt : List SubscriberView → SteppedView → Type 0
IsOnwardAt ws x = (w : SubscriberView) → slice_get ws x.slot ≡ Some w → IsOnward w.solo x.solo

-- and so each, where they are settled one after the other
abbrev pub AreOnward : List SubscriberView → List SteppedView → Type 0
AreOnward ws [] = Unit {0}
AreOnward ws (x ∷ xs) = IsOnwardAt ws x × AreOnward (with_solo x.slot x.solo ws) xs

-- ---- countdowns

abbrev pub all_countdowns : List SubscriberView → List (Option ℕ × Option ℕ)
all_countdowns ws = map (λ w. countdowns w.solo) ws

-- those of a slot, if somebody has it
abbrev pub countdowns_at : ℕ → List SubscriberView → Option (Option ℕ × Option ℕ)
countdowns_at slot ws = option_map (λ w. countdowns w.solo) (slice_get ws slot)

-- the slots of those who have a countdown that the next tick meets
abbrev pub due_slots : List SubscriberView → List ℕ
due_slots ws = due_from 0 (all_countdowns ws)

-- each countdown that runs has from 1 tick left to those of the longest timer
abbrev pub IsCounting : Solo → Type 0
IsCounting s = AreInRange (countdowns s)

abbrev pub AreCounting : List SubscriberView → Type 0
AreCounting ws = Every (λ w. IsCounting w.solo) ws

-- ---- a tick

abbrev pub slots_stepped : List SteppedView → List ℕ
slots_stepped xs = map (λ x. x.slot) xs

abbrev pub one_less : SubscriberView → SubscriberView
one_less w = record { setting = w.setting; solo = solo_aged 1 w.solo }

-- those who were prepared have their state, and each of the others counts down by one
abbrev pub tick_settled : List SteppedView → List SubscriberView → List SubscriberView
tick_settled xs ws = with_stepped xs (map one_less ws)

-- it was prepared for an item
abbrev pub IsStepped : Item → List SubscriberView → SteppedView → Type 0
IsStepped item ws x = option_map (λ (d : Draft). d.solo) (step_at x.slot item ws) ≡ Some x.solo
