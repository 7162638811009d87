-- The faults in the replies to a list of events.
use Rattle.std.specs.Prelude.{◌≡◌, if◌then◌else◌, IfSome, List, [], ◌∷◌, Result, Err}
use Rattle.mme_core.specs.declared.event.Event.{Event}
use Rattle.mme_core.specs.declared.event.StepFault.{StepFault}
use Rattle.mme_answering.specs.declared.out.Out.{Out}
use Rattle.mme_core.specs.World.{World, event_fault, is_no_memory, world_after}

-- the MME after an event with this reply: lack of memory changes nothing
abbrev pub replied : Result (List Out) StepFault → Event → World → World
replied r e w = if is_no_memory r then w else world_after w e

-- each event that is refused where it stands has its fault for a reply, whatever memory there is
abbrev pub HasEachFault : World → List Event → List (Result (List Out) StepFault) → Type 0
HasEachFault w [] rs = Unit {0}
HasEachFault w (e ∷ es) [] = Unit {0}
HasEachFault w (e ∷ es) (r ∷ rs) = IfSome (event_fault w.sight e) (λ fault. r ≡ Err fault) × HasEachFault (replied r e w) es rs
