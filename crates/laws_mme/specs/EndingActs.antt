-- What comes to an end over the acts of a slot, where the phone is silent and nobody asks for it, whatever it is given meanwhile,
-- in the words of runs over items (`IsEndingRun`).
use Rattle.std.specs.Prelude.{◌≡◌, ◌≤◌, ℕ, List, [], ◌∷◌, ◌++◌, Option, Some, None}
use Rattle.sorted_list.specs.Ordered.{Every}
use Rattle.mme_types.specs.declared.network.Network.{Network}
use Rattle.mme_types.specs.Events.{Item}
use Rattle.emm_state.specs.declared.solo.Phase.TheVariants.{Deregistered, Registered}
use Rattle.emm_machine.specs.SubscriberView.{SubscriberView}
use Rattle.laws_subscriber.specs.Clocked.{IsClocked}
use Rattle.laws_subscriber.specs.Ends.{IsSettled, longest_in, longest_procedure, longest_registration}
use Rattle.laws_subscriber.specs.Silent.{AreSilent, ticks_among}
use Rattle.mme_core.specs.Kept.{IsKept}
use Rattle.mme_core.specs.World.{World, world_run}
use Rattle.laws_mme.specs.Acts.{Act, acts_run}
use Rattle.laws_mme.specs.ActsAlone.{OwnAct, OwnItem, OwnProfile, OwnVector, own_run_over}
use Rattle.laws_mme.specs.EndingWorlds.{HasTicks, IsNotWaiting, IsSubscriberSettled, tick_events}
use Rattle.laws_mme.specs.OverActs.{OfSlot}

-- the items among acts
abbrev pub items_in : List OwnAct → List Item
items_in [] = []
items_in (OwnItem item ∷ acts) = item ∷ items_in acts
items_in (OwnVector v ∷ acts) = items_in acts
items_in (OwnProfile p ∷ acts) = items_in acts

pub record IsEndingOver (n : Network) (slot : ℕ) (x : Option SubscriberView) (acts : List OwnAct) : Type 0 where
  -- at each place of the list the countdown of the phase runs, and no other
  pub clocked : (seen unseen : List OwnAct) (y : SubscriberView) → acts ≡ seen ++ unseen → own_run_over n slot x seen ≡ Some y
      → IsClocked y.solo
  -- from there on a procedure is over once the phase's most ticks have passed
  pub settled : (seen silent unseen : List OwnAct) (y z : SubscriberView) → acts ≡ seen ++ (silent ++ unseen)
      → own_run_over n slot x seen ≡ Some y → own_run_over n slot x (seen ++ silent) ≡ Some z → AreSilent (items_in silent)
      → longest_in y.solo.phase ≤ ticks_among (items_in silent) → IsSettled z.solo
  -- and a phone that isn't registered and connected is deregistered in the end
  pub forgotten : (seen silent unseen : List OwnAct) (y z : SubscriberView) → acts ≡ seen ++ (silent ++ unseen)
      → own_run_over n slot x seen ≡ Some y → own_run_over n slot x (seen ++ silent) ≡ Some z → AreSilent (items_in silent)
      → (y.solo.phase ≡ Registered → y.solo.connection ≡ None)
      → longest_registration ≤ ticks_among (items_in silent) → z.solo.phase ≡ Deregistered

-- over every list of acts of an MME, whoever is added and whatever is given meanwhile
abbrev pub ActsEnd : Type 0
ActsEnd = (w : World) (acts : List Act) (slot : ℕ) → IsKept w → OfSlot IsEndingOver w acts slot

-- after every list of acts, in as many ticks in a row as the longest procedure lasts, no procedure is under way, nobody is paged, and
-- no stranger waits
abbrev pub AllEndsAfterActs : Type 0
AllEndsAfterActs =
    (w : World) (acts : List Act) (n : ℕ) → IsKept w → HasTicks n (acts_run w acts) → longest_procedure ≤ n
    → Every IsSubscriberSettled (world_run (acts_run w acts) (tick_events n)).subscribers
    × Every IsNotWaiting (world_run (acts_run w acts) (tick_events n)).strangers
