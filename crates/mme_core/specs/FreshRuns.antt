-- What is fresh of a subscriber over a list of items: the NAS COUNTs that it is sent and accepted under, each with the place of its
-- vector, and the vectors that become contexts (TS 24.301 clause 4.4.3, TS 33.401 clause 6.5).
use Rattle.std.specs.Prelude.{◌≤◌, ◌<◌, List, All, AllPairs}
use Rattle.mme_types.specs.Events.{Item}
use Rattle.emm_machine.specs.Freshness.{IsAhead, IsBefore, accepted_marks, next_down, next_place, next_up, places_made, sent_marks}
use Rattle.emm_machine.specs.SubscriberView.{SubscriberView}
pub use Rattle.mme_answering.specs.InUse.{AreInUse}

pub record IsFreshRun (w : SubscriberView) (items : List Item) : Type 0 where
  pub sent_ahead : All (IsAhead next_down w.solo) (sent_marks w.setting w.solo items)
  pub sent_once : AllPairs IsBefore (sent_marks w.setting w.solo items)
  pub accepted_ahead : All (IsAhead next_up w.solo) (accepted_marks w.setting w.solo items)
  pub accepted_once : AllPairs IsBefore (accepted_marks w.setting w.solo items)
  pub made_ahead : All (λ place. next_place w.solo.phase w.solo.next_vector ≤ place) (places_made w.setting w.solo items)
  pub made_once : AllPairs ◌<◌ (places_made w.setting w.solo items)
