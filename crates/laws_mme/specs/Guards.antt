-- What is fresh, who is let in and what ends, of each slot over a list of events, in an MME that is kept, as each is.
use Rattle.std.specs.Prelude.{◌≡◌, ℕ, List, Some, slice_get}
use Rattle.emm_machine.specs.SubscriberView.{SubscriberView}
use Rattle.mme_core.specs.declared.event.Event.{Event}
use Rattle.mme_core.specs.EndingRuns.{IsEndingRun}
use Rattle.mme_core.specs.FreshRuns.{IsFreshRun}
use Rattle.mme_core.specs.GuardedRuns.{IsGuardedRun}
use Rattle.mme_core.specs.Kept.{IsKept}
use Rattle.mme_core.specs.World.{World}
use Rattle.laws_mme.specs.OwnersAlone.{own_items}

-- no NAS COUNT is used twice with one vector, and no vector becomes a context twice
abbrev pub RunIsFresh : Type 0
RunIsFresh =
    (w : World) (events : List Event) (slot : ℕ) (x : SubscriberView) → IsKept w → slice_get w.subscribers slot ≡ Some x
    → IsFreshRun x (own_items slot w events)

-- who is let in has proved that it has the key
abbrev pub RunIsGuarded : Type 0
RunIsGuarded =
    (w : World) (events : List Event) (slot : ℕ) (x : SubscriberView) → IsKept w → slice_get w.subscribers slot ≡ Some x
    → IsGuardedRun x (own_items slot w events)

-- the procedure of a phone that falls silent ends
abbrev pub RunEnds : Type 0
RunEnds =
    (w : World) (events : List Event) (slot : ℕ) (x : SubscriberView) → IsKept w → slice_get w.subscribers slot ≡ Some x
    → IsEndingRun x (own_items slot w events)
