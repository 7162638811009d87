-- Whom an item or a tick leaves as they are among subscribers.
use Rattle.std.specs.Prelude.{◌≡◌, ℕ, true, false, List, [], map}
use Rattle.sorted_list.specs.Ordered.{Every}
use Rattle.mme_types.specs.declared.octets.Answer.{Answer}
use Rattle.mme_types.specs.Events.{Item, Tick}
use Rattle.emm_state.specs.declared.setting.Setting.{Setting}
use Rattle.emm_state.specs.declared.solo.Solo.{Solo}
use Rattle.emm_state.specs.Actions.{untouched}
use Rattle.emm_machine.specs.Steps.{solo_step}
use Rattle.emm_machine.specs.Still.{still}
use Rattle.emm_machine.specs.SubscriberView.{SubscriberView}
use Rattle.emm_machine.specs.Ticks.{AreAbove, countdowns, solo_aged, ticks_after}
use Rattle.mme_owners.specs.SteppedView.{SteppedView}
use Rattle.mme_owners.specs.SubscriberLaws.{each_gives, some_give}
use Rattle.mme_tables.specs.Running.{is_due}
use Rattle.mme_owners.specs.Subscribers.{IsStepped, due_slots, each_after, slots_stepped, subscriber_step, tick_settled, with_stepped}
use Rattle.mme_owners.specs.Touched.{touched_slots}

-- ---- one subscriber

-- an item that `still` tells of leaves a state as it is, and nothing is sent
abbrev pub StillStays : Type 0
StillStays = (s : Setting) (solo : Solo) (item : Item) → still solo item ≡ true → solo_step s solo item ≡ untouched solo

-- a tick that ends no countdown sends and accepts nothing, and counts each down
abbrev pub QuietTick : Type 0
QuietTick = (s : Setting) (solo : Solo) → AreAbove 1 (countdowns solo) → solo_step s solo Tick ≡ untouched (solo_aged 1 solo)

-- n ticks that end no countdown count each down by n
abbrev pub TicksAreAged : Type 0
TicksAreAged = (s : Setting) (n : ℕ) (solo : Solo) → AreAbove n (countdowns solo) → ticks_after s n solo ≡ solo_aged n solo

-- ---- all of them at a tick

-- the steps of those who are due, each from its own state, leave all as they are after the tick
abbrev pub TickIsOfAll : Type 0
TickIsOfAll =
    (xs : List SteppedView) (ws : List SubscriberView) → slots_stepped xs ≡ due_slots ws → Every (IsStepped Tick ws) xs
    → tick_settled xs ws ≡ each_after (λ _. Tick) 0 ws

-- who isn't due sends nothing at a tick
abbrev pub UndueSendNothing : Type 0
UndueSendNothing = (w : SubscriberView) → is_due (countdowns w.solo) ≡ false → (subscriber_step w Tick).sent ≡ []

-- what the subscriber of a slot sends at an item, each message with the slot
abbrev pub sent_at : Item → ℕ → SubscriberView → List (ℕ × Answer)
sent_at item slot w = map (λ a. (slot, a)) (subscriber_step w item).sent

-- what all send at a tick is what those send who are due
abbrev pub AllSendAsDue : Type 0
AllSendAsDue = (ws : List SubscriberView) → some_give (sent_at Tick) (due_slots ws) ws ≡ each_gives (sent_at Tick) 0 ws

-- ---- all of them at an item

-- the steps of those whom it touches, each from its own state, leave all as they are after it
abbrev pub TouchedIsOfAll : Type 0
TouchedIsOfAll =
    (item : Item) (xs : List SteppedView) (ws : List SubscriberView) → slots_stepped xs ≡ touched_slots item ws
    → Every (IsStepped item ws) xs → with_stepped xs ws ≡ each_after (λ _. item) 0 ws

-- and what all send is what those send whom it touches
abbrev pub AllSendAsTouched : Type 0
AllSendAsTouched =
    (item : Item) (ws : List SubscriberView) → some_give (sent_at item) (touched_slots item ws) ws ≡ each_gives (sent_at item) 0 ws
