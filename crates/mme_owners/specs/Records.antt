-- Subscribers as they were when they were last touched, and as they are now.
use Rattle.std.specs.Prelude.{ℕ, ◌-◌, ◌≤◌, List, [], ◌∷◌, length, map}
use Rattle.identity_slots.specs.Ids.{slots}
use Rattle.identity_slots.specs.declared.profile.Vector.{Vector}
use Rattle.emm_state.specs.declared.solo.Solo.{Solo}
use Rattle.emm_machine.specs.Given.{with_given}
use Rattle.emm_machine.specs.SubscriberView.{SubscriberView}
use Rattle.emm_machine.specs.Ticks.{AreAbove, countdowns, ticks_after}
use Rattle.sorted_list.specs.Ordered.{Every}
use Rattle.mme_owners.specs.declared.record.Record.{Record}
use Rattle.mme_owners.specs.SteppedView.{SteppedView}
use Rattle.mme_owners.specs.Changed.{changed_at}
use Rattle.mme_owners.specs.Subscribers.{AreCounting, in_state}

-- the subscriber as it is now: what it was, and the ticks since then
abbrev pub view_at : ℕ → Record → SubscriberView
view_at clock r =
    record { setting = r.subscriber.setting; solo = ticks_after r.subscriber.setting (clock - r.touched) r.subscriber.solo }

abbrev pub views : ℕ → List Record → List SubscriberView
views clock rs = map (view_at clock) rs

-- each as it was when it was last touched
abbrev pub touched_views : List Record → List SubscriberView
touched_views rs = map (λ (r : Record). r.subscriber) rs

-- no countdown was met since the record was touched
pub record IsFresh (clock : ℕ) (r : Record) : Type 0 where
  pub past : r.touched ≤ clock
  pub above : AreAbove (clock - r.touched) (countdowns r.subscriber.solo)

abbrev pub AreFresh : ℕ → List Record → Type 0
AreFresh clock rs = Every (IsFresh clock) rs

-- the record, touched now
abbrev pub woken : ℕ → Record → Record
woken clock r = record { subscriber = view_at clock r; touched = clock }

-- and with a vector more
abbrev pub given_now : ℕ → Vector → Record → Record
given_now clock v r = record { subscriber = with_given v (view_at clock r); touched = clock }

-- and in another state
abbrev pub renewed : ℕ → Solo → Record → Record
renewed clock solo r = record { subscriber = in_state solo r.subscriber; touched = clock }

abbrev pub with_records : ℕ → List SteppedView → List Record → List Record
with_records clock [] rs = rs
with_records clock (x ∷ xs) rs = with_records clock xs (changed_at x.slot (renewed clock x.solo) rs)

-- what always holds of a table
pub record IsSubscriberTable (clock : ℕ) (rs : List Record) : Type 0 where
  pub few : length rs ≤ slots
  pub fresh : AreFresh clock rs
  pub counting : AreCounting (views clock rs)
