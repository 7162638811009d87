-- What comes to an end of a subscriber over a list of items, where the phone is silent and nobody asks for it.
use Rattle.std.specs.Prelude.{◌≡◌, ◌≤◌, List, ◌++◌, None}
use Rattle.mme_types.specs.Events.{Item}
use Rattle.emm_state.specs.declared.solo.Phase.TheVariants.{Deregistered, Registered}
use Rattle.emm_machine.specs.SubscriberView.{SubscriberView}
use Rattle.laws_subscriber.specs.Clocked.{IsClocked}
use Rattle.laws_subscriber.specs.Ends.{IsSettled, longest_in, longest_registration}
use Rattle.laws_subscriber.specs.Silent.{AreSilent, ticks_among}
use Rattle.mme_core.specs.GuardedRuns.{state_after}

pub record IsEndingRun (w : SubscriberView) (items : List Item) : Type 0 where
  -- at each place of the list the countdown of the phase runs, and no other
  pub clocked : (seen unseen : List Item) → items ≡ seen ++ unseen → IsClocked (state_after w seen)
  -- from there on a procedure is over once the phase's most ticks have passed
  pub settled : (seen silent unseen : List Item) → items ≡ seen ++ (silent ++ unseen) → AreSilent silent
      → longest_in (state_after w seen).phase ≤ ticks_among silent → IsSettled (state_after w (seen ++ silent))
  -- and a phone that isn't registered and connected is deregistered in the end
  pub forgotten : (seen silent unseen : List Item) → items ≡ seen ++ (silent ++ unseen) → AreSilent silent
      → ((state_after w seen).phase ≡ Registered → (state_after w seen).connection ≡ None)
      → longest_registration ≤ ticks_among silent → (state_after w (seen ++ silent)).phase ≡ Deregistered
