-- What was prepared for an event, and the MME when it is taken.
use Rattle.std.specs.Prelude.{◌≡◌, ◌≢◌, ◌⊎◌, List, None, Ok, Err, Some, Result, IfErr, IfOk, IfSome, OnErr, OnOk}
use Rattle.mme_core.specs.declared.event.Event.{Event}
use Rattle.mme_core.specs.declared.event.StepFault.{StepFault}
use Rattle.mme_core.specs.declared.event.StepFault.TheVariants.{NoMemory}
use Rattle.mme_core.specs.declared.mme.Moves.{Moves}
use Rattle.mme_core.specs.declared.mme.Ready.{Ready}
use Rattle.mme_answering.specs.declared.out.Out.{Out}
use Rattle.mme_answering.specs.Settled.{IsFor, IsInTime, settled_strangers, settled_subscribers}
use Rattle.mme_answering.specs.Short.{AreShort}
use Rattle.mme_core.specs.Projection.{AreInOrder}
use Rattle.mme_core.specs.Sight.{Sight}
use Rattle.mme_core.specs.World.{World, event_fault, placed, reply, world_after}

-- what every owner may see then
abbrev pub ready_sight : Moves → Sight → Sight
ready_sight m s = record {
  config = s.config;
  clock = m.clock;
  stations = placed m.station m.state s.stations;
  profiles = s.profiles;
}

abbrev pub ready_world : Ready → World → World
ready_world r w = record {
  sight = ready_sight r.moves w.sight;
  strangers = settled_strangers r.prepared w.strangers;
  subscribers = settled_subscribers r.prepared w.subscribers;
}

-- what an event leads to, before it is taken
pub record LeadsTo (w : World) (event : Event) (r : Ready) : Type 0 where
  -- it isn't refused
  pub accepted : event_fault w.sight event ≡ None
  -- the whole output, in the order of its owners
  pub sends : reply w event ≡ Ok r.outs
  pub order : AreInOrder r.outs
  -- the MME once it is taken
  pub after : ready_world r w ≡ world_after w event
  -- it may be taken, and the owners' clock doesn't pass the MME's by it
  pub fits : IsFor r.prepared w.strangers w.subscribers
  pub in_time : IsInTime r.prepared w.sight.clock r.moves.clock

-- why an event isn't taken: its own fault, or lack of memory where it has none
abbrev pub IsRefused : World → Event → StepFault → Type 0
IsRefused w event fault = (event_fault w.sight event ≡ Some fault) ⊎ ((fault ≡ NoMemory) × (event_fault w.sight event ≡ None))

-- an event is taken, or refused: the answer, and the MME afterwards
pub record TakesEvent (w : World) (event : Event) (answer : Result (List Out) StepFault) (next : World) : Type 0 where
  -- the whole output, in the order of its owners, no message of it longer than 16,388 octets
  pub output : IfOk answer (λ outs. reply w event ≡ Ok outs)
  pub order : IfOk answer (λ outs. AreInOrder outs)
  pub short : IfOk answer (λ outs. AreShort outs)
  -- the MME once it is taken
  pub after : OnOk answer (next ≡ world_after w event)
  -- its own fault, if it has one; lack of memory is no answer to it then
  pub fault : IfSome (event_fault w.sight event) (λ fault. answer ≡ Err fault)
  pub refused : IfErr answer (λ fault. fault ≢ NoMemory → reply w event ≡ Err fault)
  -- refused, it has changed nothing
  pub err : OnErr answer (next ≡ w)
