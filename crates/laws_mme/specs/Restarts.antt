-- An MME that is saved and restored goes on as what was remembered of it, and nobody can tell.
use Rattle.std.specs.Prelude.{◌≡◌, ℕ, List, [], ◌∷◌, slice_get, Option, option_map, Result}
use Rattle.emm_state.specs.declared.solo.Solo.{Solo}
use Rattle.emm_machine.specs.SubscriberView.{SubscriberView}
use Rattle.mme_answering.specs.declared.out.Out.{Out}
use Rattle.mme_core.specs.declared.event.StepFault.{StepFault}
use Rattle.mme_core.specs.Apart.{AreApart}
use Rattle.mme_core.specs.Kept.{IsKept}
use Rattle.mme_core.specs.Remembered.{remembered}
use Rattle.mme_core.specs.World.{World}
use Rattle.laws_mme.specs.Acts.{Act, act_after, act_reply, acts_replies, acts_run}

-- ---- one restart

-- what is remembered of an MME answers acts as the MME itself, and the same is remembered of both after them
pub record IsUnseen (w : World) (acts : List Act) : Type 0 where
  pub answers : acts_replies (remembered w) acts ≡ acts_replies w acts
  pub world : remembered (acts_run (remembered w) acts) ≡ remembered (acts_run w acts)

abbrev pub NobodyCanTell : Type 0
NobodyCanTell = (w : World) (acts : List Act) → IsUnseen w acts

-- the state of a slot
abbrev pub solo_at : ℕ → World → Option Solo
solo_at slot w = option_map (λ (x : SubscriberView). x.solo) (slice_get w.subscribers slot)

-- each slot is in the state that it was in
abbrev pub StatesAreRemembered : Type 0
StatesAreRemembered = (w : World) (slot : ℕ) → solo_at slot (remembered w) ≡ solo_at slot w

-- what is remembered has no more to forget
abbrev pub RemembersOnce : Type 0
RemembersOnce = (w : World) → remembered (remembered w) ≡ remembered w

-- ---- restarts between acts

pub data Moment : Type 0 where
  Acts : Act → Moment
  Restarts : Moment

-- the MME after each moment in turn
abbrev pub moments_run : World → List Moment → World
moments_run w [] = w
moments_run w (Acts act ∷ moments) = moments_run (act_after w act) moments
moments_run w (Restarts ∷ moments) = moments_run (remembered w) moments

-- the replies to the acts among them
abbrev pub moments_replies : World → List Moment → List (Result (List Out) StepFault)
moments_replies w [] = []
moments_replies w (Acts act ∷ moments) = act_reply w act ∷ moments_replies (act_after w act) moments
moments_replies w (Restarts ∷ moments) = moments_replies (remembered w) moments

abbrev pub acts_among : List Moment → List Act
acts_among [] = []
acts_among (Acts act ∷ moments) = act ∷ acts_among moments
acts_among (Restarts ∷ moments) = acts_among moments

-- the acts are answered as by the MME that was never restarted, and the same is remembered of both after them: so what is said of
-- the replies to a list of acts is said of those that restarts stand between
pub record AreUnseen (w : World) (moments : List Moment) : Type 0 where
  pub answers : moments_replies w moments ≡ acts_replies w (acts_among moments)
  pub world : remembered (moments_run w moments) ≡ remembered (acts_run w (acts_among moments))

abbrev pub RestartsAreUnseen : Type 0
RestartsAreUnseen = (w : World) (moments : List Moment) → AreUnseen w moments

-- ---- what always holds

abbrev pub RememberedStaysKept : Type 0
RememberedStaysKept = (w : World) → IsKept w → IsKept (remembered w)

abbrev pub RememberedStaysApart : Type 0
RememberedStaysApart = (w : World) → AreApart w → AreApart (remembered w)
