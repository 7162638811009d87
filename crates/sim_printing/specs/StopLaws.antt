-- A trace that stops where memory is refused: where it stood, with nothing, with an MME, and one stop after another.
use Rattle.std.proofs.Common.{◌≡◌, ℕ, List, [], ◌∷◌, ◌++◌, take, Result, Ok, Err, Bor, inl, inr, refl, sym, ap, subst, ◌∙◌}
use Rattle.mme_core.specs.World.{World, fresh_world, reply, world_after, world_run}
use Rattle.mme_core.specs.declared.event.Event.{Event}
use Rattle.mme_core.specs.declared.event.Event.TheVariants as event
use Rattle.mme_core.specs.declared.event.StepFault.{StepFault}
use Rattle.mme_core.specs.mme_answering.declared.out.Out.{Out}
use Rattle.trace_progress.specs.Acts.{IsUnmade}
use Rattle.trace_progress.specs.declared.progress.Progress.{Progress}
use Rattle.trace_progress.specs.declared.progress.Progress.TheVariants.{Nothing, Provisioning, Running}
use Rattle.trace_progress.specs.Effects.{in_event, left_by, running}
use Rattle.trace_progress.specs.Stopping.{HasTaken, HasTakenEvents, RunsOn, StopsWith}
use Rattle.trace_progress.specs.StoppingLaws.{HasTaken-octets, RunsOn-weaker}
use Rattle.sim_printing.specs.Stopped.{IsFurther}
use Rattle.sim_printing.specs.Printed.{AfterEvent, IsBegun}

-- ---- one stop

-- of less, if it follows
StopsWith-weaker : (R S : World → World → Type 0) → ((a b : World) → R a b → S a b) → (old new : Progress)
    → StopsWith R old new → StopsWith S old new
StopsWith-weaker R S f old new h = elim h [
  | inl same ↦ inl same
  | inr other ↦ elim other [ inl lost ↦ inr (inl lost) | inr runs ↦ inr (inr (RunsOn-weaker R S f old new runs)) ]
]

-- where octets lie in memory is nothing to the MME
pub StopsWith-octets : (old new : Progress) (e : ℕ) (octets : Bor (List ℕ))
    → StopsWith (HasTaken (event.In e octets ∷ [])) old new → StopsWith (HasTaken (in_event e octets.now ∷ [])) old new
StopsWith-octets old new e octets h =
    StopsWith-weaker (HasTaken (event.In e octets ∷ [])) (HasTaken (in_event e octets.now ∷ [])) (HasTaken-octets e octets) old new h

-- ---- events

taken_by : (world : World) (event : Event) (r : Result (List Out) StepFault) → HasTakenEvents world (left_by world event r)
taken_by world event (Ok outs) = (event ∷ [], refl)
taken_by world event (Err fault) = ([], refl)

world_run-append : (w : World) (es ds : List Event) → world_run w (es ++ ds) ≡ world_run (world_run w es) ds
world_run-append w [] ds = refl
world_run-append w (e ∷ es) ds = world_run-append (world_after w e) es ds

-- ---- as far as it got

pub IsFurther-same : (progress : Progress) → IsFurther progress progress
IsFurther-same progress = inl refl

pub IsFurther-stopped : (events : List Event) (old new : Progress) → StopsWith (HasTaken events) old new → IsFurther old new
IsFurther-stopped events old new h =
    StopsWith-weaker (HasTaken events) HasTakenEvents (λ a b taken. (take taken.0 events, taken.2)) old new h

pub IsFurther-event : (event : Event) (old new : Progress) → IsBegun old → AfterEvent old event new → IsFurther old new
IsFurther-event event Nothing new begun after = absurd begun
IsFurther-event event (Provisioning config p) new begun after =
    let w = fresh_world config p in
    inr (inr (w, left_by w event (reply w event), refl, after w refl, taken_by w event (reply w event)))
IsFurther-event event (Running w) new begun after =
    inr (inr (w, left_by w event (reply w event), refl, after w refl, taken_by w event (reply w event)))

nothing_more : (c : Progress) → IsFurther Nothing c → c ≡ Nothing
nothing_more c h = elim h [
  | inl same ↦ same
  | inr other ↦ elim other [ inl lost ↦ absurd lost | inr on ↦ absurd (cc on.2) ]
]

unmade_more : (a b c : Progress) → IsUnmade a b → IsFurther b c → IsUnmade a c
unmade_more Nothing b c lost h = absurd lost
unmade_more (Provisioning config p) b c lost h = nothing_more c (subst (λ (v : Progress). IsFurther v c) lost h)
unmade_more (Running world) b c lost h = absurd lost

both_taken : (a c : Progress) (first mid : World) → running a ≡ Ok first → HasTakenEvents first mid
    → RunsOn HasTakenEvents (Running mid) c → RunsOn HasTakenEvents a c
both_taken a c first mid is (es, taken) (w, last, same, runs, (ds, on)) =
    let is_mid : mid ≡ w = cc same in
    let all = on ∙ ap (λ v. world_run v ds) (sym is_mid ∙ taken) ∙ sym (world_run-append first es ds) in
    (first, last, is, runs, (es ++ ds, all))

runs_more : (a c : Progress) (first mid : World) → running a ≡ Ok first → HasTakenEvents first mid → IsFurther (Running mid) c
    → RunsOn HasTakenEvents a c
runs_more a c first mid is taken h = elim h [
  | inl same ↦ (first, mid, is, same, taken)
  | inr other ↦ elim other [ inl lost ↦ absurd lost | inr on ↦ both_taken a c first mid is taken on ]
]

runs_further : (a b c : Progress) → RunsOn HasTakenEvents a b → IsFurther b c → RunsOn HasTakenEvents a c
runs_further a b c (first, mid, is, runs, taken) h =
    runs_more a c first mid is taken (subst (λ (v : Progress). IsFurther v c) runs h)

pub IsFurther-then : (a b c : Progress) → IsFurther a b → IsFurther b c → IsFurther a c
IsFurther-then a b c p q = elim p [
  | inl same ↦ subst (λ (v : Progress). IsFurther v c) same q
  | inr other ↦ elim other [
    | inl lost ↦ inr (inl (unmade_more a b c lost q))
    | inr on ↦ inr (inr (runs_further a b c on q))
  ]
]
