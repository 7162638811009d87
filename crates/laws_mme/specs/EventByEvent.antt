-- What a caller who takes event by event has seen.
use Rattle.std.specs.Prelude.{◌≡◌, ◌≢◌, List, [], ◌∷◌, Result, Ok, Err, IfOk, IfErr, OnOk, OnErr}
use Rattle.mme_core.specs.declared.event.Event.{Event}
use Rattle.mme_core.specs.declared.event.StepFault.{StepFault}
use Rattle.mme_core.specs.declared.event.StepFault.TheVariants.{NoMemory}
use Rattle.mme_answering.specs.declared.out.Out.{Out}
use Rattle.mme_core.specs.World.{World, events_taken, replies, replies_given, reply, world_after, world_run}

-- one event: the MME before it, the answer, and the MME after it, as `Mme::step` ensures them
pub record IsStep (before : World) (event : Event) (answer : Result (List Out) StepFault) (next : World) : Type 0 where
  pub output : IfOk answer (λ outs. reply before event ≡ Ok outs)
  pub after : OnOk answer (next ≡ world_after before event)
  pub refused : IfErr answer (λ fault. fault ≢ NoMemory → reply before event ≡ Err fault)
  pub err : OnErr answer (next ≡ before)

-- event by event, each with its answer, from the first MME to the last
abbrev pub AreSteps : World → List Event → List (Result (List Out) StepFault) → World → Type 0
AreSteps first [] [] last = last ≡ first
AreSteps first [] (r ∷ rs) last = ⊥
AreSteps first (e ∷ es) [] last = ⊥
AreSteps first (e ∷ es) (r ∷ rs) last = (next : World) × IsStep first e r next × AreSteps next es rs last

-- the answers, but for those of lack of memory, are the replies of the definition, and the last MME is the one after the run
abbrev pub StepsAreARun : Type 0
StepsAreARun =
    (first last : World) (es : List Event) (rs : List (Result (List Out) StepFault)) → AreSteps first es rs last
    → (replies_given rs ≡ replies first (events_taken es rs)) × (last ≡ world_run first (events_taken es rs))
