-- What happens to an MME that is provisioned while it runs: acts, which are events and what it is given between them.
use Rattle.std.specs.Prelude.{◌≡◌, ◌<◌, ℕ, List, [], ◌∷◌, ◌++◌, length, map, Option, Some, None, Result, Ok}
use Rattle.identity_slots.specs.declared.profile.Profile.{Profile}
use Rattle.identity_slots.specs.declared.profile.Vector.{Vector}
use Rattle.identity_slots.specs.declared.provision.ProvisionFault.{ProvisionFault}
use Rattle.identity_slots.specs.Ids.{slots}
use Rattle.identity_slots.specs.Provisioned.{add_fault}
use Rattle.mme_answering.specs.declared.out.Out.{Out}
use Rattle.mme_core.specs.declared.event.Event.{Event}
use Rattle.mme_core.specs.declared.event.StepFault.{StepFault}
use Rattle.mme_core.specs.Apart.{AreApart}
use Rattle.mme_core.specs.Kept.{IsKept}
use Rattle.mme_core.specs.Provisioning.{give_fault, world_added, world_given}
use Rattle.mme_core.specs.World.{World, replies, reply, world_after, world_run}

-- an event, a subscriber more, or a vector more for the subscriber of a slot
pub data Act : Type 0 where
  Happens : Event → Act
  Adds : Profile → Act
  Gives : ℕ → Vector → Act

-- nothing changes where something is refused that the MME is given
abbrev pub unless_refused : {A : Type 0} → Option ProvisionFault → A → A → A
unless_refused None before after = after
unless_refused (Some fault) before after = before

-- the MME after an act
abbrev pub act_after : World → Act → World
act_after w (Happens event) = world_after w event
act_after w (Adds p) = unless_refused (add_fault p w.sight.profiles) w (world_added p w)
act_after w (Gives slot v) = unless_refused (give_fault slot w) w (world_given slot v w)

-- what is sent at it: nothing at what the MME is given
abbrev pub act_reply : World → Act → Result (List Out) StepFault
act_reply w (Happens event) = reply w event
act_reply w (Adds p) = Ok []
act_reply w (Gives slot v) = Ok []

abbrev pub acts_run : World → List Act → World
acts_run w [] = w
acts_run w (act ∷ acts) = acts_run (act_after w act) acts

abbrev pub acts_replies : World → List Act → List (Result (List Out) StepFault)
acts_replies w [] = []
acts_replies w (act ∷ acts) = act_reply w act ∷ acts_replies (act_after w act) acts

-- ---- acts and events

-- a run of events is one of acts
pub record IsRunOfActs (w : World) (events : List Event) : Type 0 where
  pub answers : acts_replies w (map Happens events) ≡ replies w events
  pub world : acts_run w (map Happens events) ≡ world_run w events

abbrev pub EventsAreActs : Type 0
EventsAreActs = (w : World) (events : List Event) → IsRunOfActs w events

-- acts one after another lead where the second list leads from the first, with the replies of both: so what is said of events
-- from any MME on holds of those between one thing that it is given and the next
pub record ActsFollow (w : World) (acts more : List Act) : Type 0 where
  pub answers : acts_replies w (acts ++ more) ≡ acts_replies w acts ++ acts_replies (acts_run w acts) more
  pub world : acts_run w (acts ++ more) ≡ acts_run (acts_run w acts) more

abbrev pub ActsJoin : Type 0
ActsJoin = (w : World) (acts more : List Act) → ActsFollow w acts more

-- ---- what always holds

-- it holds over every list of acts, whatever octets stations send
abbrev pub ActsKeep : Type 0
ActsKeep = (w : World) (acts : List Act) → IsKept w → IsKept (acts_run w acts)

abbrev pub ActsStayApart : Type 0
ActsStayApart = (w : World) (acts : List Act) → IsKept w → AreApart w → AreApart (acts_run w acts)
