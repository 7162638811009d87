-- Vectors that an MME is given while it runs, and vectors that it had from the start: where nobody runs out it is the same.
use Rattle.std.specs.Prelude.{◌≡◌, ℕ, List, [], ◌∷◌, length, slice_get, Result, Some, None}
use Rattle.identity_slots.specs.declared.profile.Vector.{Vector}
use Rattle.identity_slots.specs.Provisioned.{Provisioned, with_vector}
use Rattle.emm_machine.specs.SubscriberView.{SubscriberView}
use Rattle.mme_answering.specs.declared.out.Out.{Out}
use Rattle.mme_core.specs.declared.config.Config.{Config}
use Rattle.mme_core.specs.declared.event.Event.{Event}
use Rattle.mme_core.specs.declared.event.StepFault.{StepFault}
use Rattle.mme_core.specs.Kept.{IsKept}
use Rattle.mme_core.specs.Projection.{item_for}
use Rattle.mme_core.specs.Provisioning.{give_fault, world_given}
use Rattle.mme_core.specs.World.{World, fresh_world, replies, reply, strangers_in, world_after, world_run}
use Rattle.laws_mme.specs.Acts.{Act, Adds, Gives, Happens, act_after, acts_run}
use Rattle.laws_mme.specs.Looks.{HasOneLeft}

-- ---- one event

-- where the event has the slot's phone challenged there is a vector
abbrev pub IsServed : ℕ → World → Event → Type 0
IsServed slot w event =
    (x : SubscriberView) → slice_get w.subscribers slot ≡ Some x
    → HasOneLeft x.setting.vectors x.solo (item_for slot w.sight (strangers_in w) event)

-- the MME answers the same to the event, given the vector before it or after it, and is the same
pub record IsSameEitherWay (w : World) (event : Event) (slot : ℕ) (v : Vector) : Type 0 where
  pub answer : reply (world_given slot v w) event ≡ reply w event
  pub world : world_after (world_given slot v w) event ≡ world_given slot v (world_after w event)

abbrev pub GivenBeforeIsGivenAfter : Type 0
GivenBeforeIsGivenAfter =
    (w : World) (event : Event) (slot : ℕ) (v : Vector) → IsKept w → IsServed slot w event → IsSameEitherWay w event slot v

-- ---- acts

-- at each event nobody is asked for a vector where none is left
abbrev pub NobodyRunsOut : World → List Act → Type 0
NobodyRunsOut w [] = Unit {0}
NobodyRunsOut w (Happens event ∷ acts) = ((slot : ℕ) → IsServed slot w event) × NobodyRunsOut (act_after w (Happens event)) acts
NobodyRunsOut w (Adds p ∷ acts) = NobodyRunsOut (act_after w (Adds p)) acts
NobodyRunsOut w (Gives slot v ∷ acts) = NobodyRunsOut (act_after w (Gives slot v)) acts

-- no vector is refused, and nobody is added
abbrev pub AllAreGiven : World → List Act → Type 0
AllAreGiven w [] = Unit {0}
AllAreGiven w (Happens event ∷ acts) = AllAreGiven (act_after w (Happens event)) acts
AllAreGiven w (Adds p ∷ acts) = ⊥
AllAreGiven w (Gives slot v ∷ acts) = (give_fault slot w ≡ None) × AllAreGiven (act_after w (Gives slot v)) acts

-- the events among acts, and the replies to them
abbrev pub events_in : List Act → List Event
events_in [] = []
events_in (Happens event ∷ acts) = event ∷ events_in acts
events_in (Adds p ∷ acts) = events_in acts
events_in (Gives slot v ∷ acts) = events_in acts

abbrev pub event_replies : World → List Act → List (Result (List Out) StepFault)
event_replies w [] = []
event_replies w (Happens event ∷ acts) = reply w event ∷ event_replies (act_after w (Happens event)) acts
event_replies w (Adds p ∷ acts) = event_replies (act_after w (Adds p)) acts
event_replies w (Gives slot v ∷ acts) = event_replies (act_after w (Gives slot v)) acts

-- the MME with all vectors that they give
abbrev pub ahead : List Act → World → World
ahead [] w = w
ahead (Happens event ∷ acts) w = ahead acts w
ahead (Adds p ∷ acts) w = ahead acts w
ahead (Gives slot v ∷ acts) w = ahead acts (world_given slot v w)

-- the acts are answered as their events by an MME, which is the same after them
pub record IsAsRun (w : World) (acts : List Act) (from : World) : Type 0 where
  pub answers : event_replies w acts ≡ replies from (events_in acts)
  pub world : acts_run w acts ≡ world_run from (events_in acts)

-- by the one that had all vectors from the start
abbrev pub GivenEarlyIsGivenLate : Type 0
GivenEarlyIsGivenLate =
    (w : World) (acts : List Act) → IsKept w → NobodyRunsOut w acts → AllAreGiven w acts → IsAsRun w acts (ahead acts w)

-- ---- from the beginning on

-- a provisioning with all vectors that acts give
abbrev pub provisioned_ahead : List Act → Provisioned → Provisioned
provisioned_ahead [] p = p
provisioned_ahead (Happens event ∷ acts) p = provisioned_ahead acts p
provisioned_ahead (Adds q ∷ acts) p = provisioned_ahead acts p
provisioned_ahead (Gives slot v ∷ acts) p = provisioned_ahead acts (with_vector slot v p)

-- so what is said of runs of events from the beginning of an MME on, whatever is provisioned, is said of those with vectors
-- meanwhile: of where they lead, and of what is sent at each of their events
abbrev pub BegunEarlyIsGivenLate : Type 0
BegunEarlyIsGivenLate =
    (config : Config) (p : Provisioned) (acts : List Act) → length p.vectors ≡ length p.profiles
    → NobodyRunsOut (fresh_world config p) acts → AllAreGiven (fresh_world config p) acts
    → IsAsRun (fresh_world config p) acts (fresh_world config (provisioned_ahead acts p))
