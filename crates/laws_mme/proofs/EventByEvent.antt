-- Runs one after another, and runs of steps.
use Rattle.std.proofs.Common.{◌≡◌, ◌≢◌, List, [], ◌∷◌, ◌++◌, Option, Some, None, Result, Ok, Err, refl, sym, ◌∙◌, ap}
use Rattle.mme_answering.specs.declared.out.Out.{Out}
use Rattle.mme_core.specs.declared.event.Event.{Event}
use Rattle.mme_core.specs.declared.event.StepFault.{StepFault}
use Rattle.mme_core.specs.declared.event.StepFault.TheVariants.{NotUp, AlreadyUp, ClockSpent, NoMemory, UnknownImsi}
use Rattle.mme_core.specs.World.{World, event_fault, events_taken, outputs, replies, replies_given, reply, reply_of, unless, world_after, world_moved, world_run}
use Rattle.laws_mme.specs.Joined.{RepliesJoin, WorldsJoin}
use Rattle.laws_mme.specs.EventByEvent.{AreSteps, IsStep, StepsAreARun}

pub replies_join : RepliesJoin
replies_join w [] ds = refl
replies_join w (e ∷ es) ds = ap (λ rs. reply w e ∷ rs) (replies_join (world_after w e) es ds)

pub worlds_join : WorldsJoin
worlds_join w [] ds = refl
worlds_join w (e ∷ es) ds = worlds_join (world_after w e) es ds

-- ---- steps

-- a refused event changes nothing
refused_by : (o : Option StepFault) (w v : World) (outs : List Out) (fault : StepFault) → reply_of o outs ≡ Err fault
    → unless o w v ≡ w
refused_by None w v outs fault h = cc
refused_by (Some x) w v outs fault h = refl

pub refused_stays : (w : World) (e : Event) (fault : StepFault) → reply w e ≡ Err fault → world_after w e ≡ w
refused_stays w e fault h = refused_by (event_fault w.sight e) w (world_moved w e) (outputs w e) fault h

-- where the steps lead, and their answers
abbrev IsRun : World → World → List Event → List (Result (List Out) StepFault) → Type 0
IsRun first last es rs = (replies_given rs ≡ replies first (events_taken es rs)) × (last ≡ world_run first (events_taken es rs))

-- an event that was taken, or refused where it stands
taken : (first last : World) (e : Event) (es : List Event) (rs : List (Result (List Out) StepFault)) (r : Result (List Out) StepFault)
    → reply first e ≡ r → IsRun (world_after first e) last es rs
    → (r ∷ replies_given rs ≡ replies first (e ∷ events_taken es rs)) × (last ≡ world_run first (e ∷ events_taken es rs))
taken first last e es rs r own rest = (ap (λ x. x ∷ replies_given rs) (sym own) ∙ ap (λ xs. reply first e ∷ xs) rest.0, rest.1)

at_fault : (first next last : World) (e : Event) (es : List Event) (rs : List (Result (List Out) StepFault)) (fault : StepFault)
    → reply first e ≡ Err fault → next ≡ first → IsRun next last es rs
    → (Err fault ∷ replies_given rs ≡ replies first (e ∷ events_taken es rs)) × (last ≡ world_run first (e ∷ events_taken es rs))
at_fault first next last e es rs fault own same rest =
    taken first last e es rs (Err fault) own (rw (refused_stays first e fault own, ← same) rest)

step_more : (first next last : World) (e : Event) (es : List Event) (r : Result (List Out) StepFault)
    (rs : List (Result (List Out) StepFault)) → IsStep first e r next → IsRun next last es rs
    → IsRun first last (e ∷ es) (r ∷ rs)
step_more first next last e es (Ok outs) rs h rest = taken first last e es rs (Ok outs) h.output (rw (← h.after) rest)
step_more first next last e es (Err NoMemory) rs h rest = rw (← h.err) rest
step_more first next last e es (Err NotUp) rs h rest = at_fault first next last e es rs NotUp (h.refused (λ k. cc)) h.err rest
step_more first next last e es (Err AlreadyUp) rs h rest = at_fault first next last e es rs AlreadyUp (h.refused (λ k. cc)) h.err rest
step_more first next last e es (Err ClockSpent) rs h rest =
    at_fault first next last e es rs ClockSpent (h.refused (λ k. cc)) h.err rest
step_more first next last e es (Err UnknownImsi) rs h rest =
    at_fault first next last e es rs UnknownImsi (h.refused (λ k. cc)) h.err rest

pub steps_are_a_run : StepsAreARun
steps_are_a_run first last [] [] h = (refl, h)
steps_are_a_run first last [] (r ∷ rs) h = absurd h
steps_are_a_run first last (e ∷ es) [] h = absurd h
steps_are_a_run first last (e ∷ es) (r ∷ rs) h =
    step_more first h.0 last e es r rs h.1 (steps_are_a_run h.0 last es rs h.2)
