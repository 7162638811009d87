-- Runs of acts, act by act.
use Rattle.std.proofs.Common.{◌≡◌, ℕ, Bool, true, false, cond, List, [], ◌∷◌, Option, Some, None, Result, Ok, Err, refl, sym, ◌∙◌, ap, subst}
use Rattle.identity_slots.specs.declared.profile.Profile.{Profile}
use Rattle.identity_slots.specs.declared.profile.Vector.{Vector}
use Rattle.identity_slots.specs.declared.provision.ProvisionFault.{ProvisionFault}
use Rattle.identity_slots.specs.declared.provision.ProvisionFault.TheVariants.{RepeatedImsi, RepeatedAddress, Full, NoMemory}
use Rattle.identity_slots.specs.Provisioned.{add_fault}
use Rattle.mme_answering.specs.declared.out.Out.{Out}
use Rattle.mme_core.specs.declared.event.Event.{Event}
use Rattle.mme_core.specs.declared.event.StepFault.{StepFault}
use Rattle.mme_core.specs.declared.event.StepFault.TheVariants as faults
use Rattle.mme_core.specs.Provisioning.{give_fault, world_added, world_given}
use Rattle.mme_core.specs.World.{World}
use Rattle.laws_mme.specs.ActByAct.{ActAnswer, IsActStep, IsAdding, IsGiving, StepsAreActs, ToEvent, ToProfile, ToVector, acts_taken, sent_in, sent_in_taken, wants_memory}
use Rattle.laws_mme.specs.Acts.{Act, Adds, Gives, Happens, act_after, act_reply, acts_replies, acts_run, unless_refused}
use Rattle.laws_mme.specs.EventByEvent.{IsStep}
use Rattle.laws_mme.proofs.EventByEvent.{refused_stays}

-- the act was taken, or refused where it stands
record IsTaken (before : World) (act : Act) (answer : ActAnswer) (next : World) : Type 0 where
  after : next ≡ act_after before act
  reply : act_reply before act ≡ sent_in answer

-- or there was no memory for it
abbrev IsSeen : World → Act → ActAnswer → World → Bool → Type 0
IsSeen before act answer next true = next ≡ before
IsSeen before act answer next false = IsTaken before act answer next

-- ---- an event

event_refused : (before next : World) (event : Event) (fault : StepFault) → act_reply before (Happens event) ≡ Err fault
    → next ≡ before → IsTaken before (Happens event) (ToEvent (Err fault)) next
event_refused before next event fault own same =
    record { after = same ∙ sym (refused_stays before event fault own); reply = own }

event_seen : (before next : World) (event : Event) (answer : Result (List Out) StepFault) → IsStep before event answer next
    → IsSeen before (Happens event) (ToEvent answer) next (wants_memory (ToEvent answer))
event_seen before next event (Ok outs) h = record { after = h.after; reply = h.output }
event_seen before next event (Err faults.NoMemory) h = h.err
event_seen before next event (Err faults.NotUp) h = event_refused before next event faults.NotUp (h.refused (λ k. cc)) h.err
event_seen before next event (Err faults.AlreadyUp) h = event_refused before next event faults.AlreadyUp (h.refused (λ k. cc)) h.err
event_seen before next event (Err faults.ClockSpent) h = event_refused before next event faults.ClockSpent (h.refused (λ k. cc)) h.err
event_seen before next event (Err faults.UnknownImsi) h = event_refused before next event faults.UnknownImsi (h.refused (λ k. cc)) h.err

-- ---- what it is given

-- (refused by its fault, or not)
taken_if : (o : Option ProvisionFault) (before after next : World) → o ≡ None → next ≡ after → next ≡ unless_refused o before after
taken_if o before after next none is = is ∙ sym (ap (λ (r : Option ProvisionFault). unless_refused r before after) none)

refused_if : (o : Option ProvisionFault) (fault : ProvisionFault) (before after next : World) → o ≡ Some fault → next ≡ before
    → next ≡ unless_refused o before after
refused_if o fault before after next some is = is ∙ sym (ap (λ (r : Option ProvisionFault). unless_refused r before after) some)

adding_seen : (before next : World) (p : Profile) (answer : Result ℕ ProvisionFault) → IsAdding before p answer next
    → IsSeen before (Adds p) (ToProfile answer) next (wants_memory (ToProfile answer))
adding_seen before next p (Ok slot) h =
    record { after = taken_if (add_fault p before.sight.profiles) before (world_added p before) next h.free h.after; reply = refl }
adding_seen before next p (Err NoMemory) h = h.err
adding_seen before next p (Err RepeatedImsi) h = record {
  after = refused_if (add_fault p before.sight.profiles) RepeatedImsi before (world_added p before) next (h.refused (λ k. cc)) h.err;
  reply = refl;
}
adding_seen before next p (Err RepeatedAddress) h = record {
  after = refused_if (add_fault p before.sight.profiles) RepeatedAddress before (world_added p before) next (h.refused (λ k. cc)) h.err;
  reply = refl;
}
adding_seen before next p (Err Full) h = record {
  after = refused_if (add_fault p before.sight.profiles) Full before (world_added p before) next (h.refused (λ k. cc)) h.err;
  reply = refl;
}

giving_seen : (before next : World) (slot : ℕ) (v : Vector) (answer : Result (Unit {0}) ProvisionFault)
    → IsGiving before slot v answer next → IsSeen before (Gives slot v) (ToVector answer) next (wants_memory (ToVector answer))
giving_seen before next slot v (Ok done) h =
    record { after = taken_if (give_fault slot before) before (world_given slot v before) next h.free h.after; reply = refl }
giving_seen before next slot v (Err NoMemory) h = h.err
giving_seen before next slot v (Err RepeatedImsi) h = record {
  after = refused_if (give_fault slot before) RepeatedImsi before (world_given slot v before) next (h.refused (λ k. cc)) h.err;
  reply = refl;
}
giving_seen before next slot v (Err RepeatedAddress) h = record {
  after = refused_if (give_fault slot before) RepeatedAddress before (world_given slot v before) next (h.refused (λ k. cc)) h.err;
  reply = refl;
}
giving_seen before next slot v (Err Full) h = record {
  after = refused_if (give_fault slot before) Full before (world_given slot v before) next (h.refused (λ k. cc)) h.err;
  reply = refl;
}

seen : (before next : World) (act : Act) (answer : ActAnswer) → IsActStep before act answer next
    → IsSeen before act answer next (wants_memory answer)
seen before next (Happens event) (ToEvent answer) h = event_seen before next event answer h
seen before next (Happens event) (ToProfile answer) h = absurd h
seen before next (Happens event) (ToVector answer) h = absurd h
seen before next (Adds p) (ToProfile answer) h = adding_seen before next p answer h
seen before next (Adds p) (ToEvent answer) h = absurd h
seen before next (Adds p) (ToVector answer) h = absurd h
seen before next (Gives slot v) (ToVector answer) h = giving_seen before next slot v answer h
seen before next (Gives slot v) (ToEvent answer) h = absurd h
seen before next (Gives slot v) (ToProfile answer) h = absurd h

-- ---- a list

abbrev IsRun : World → World → List Act → List (Result (List Out) StepFault) → Type 0
IsRun first last acts rs = (rs ≡ acts_replies first acts) × (last ≡ acts_run first acts)

run_on : (first next last : World) (act : Act) (answer : ActAnswer) (acts : List Act) (rs : List (Result (List Out) StepFault)) (b : Bool)
    → IsSeen first act answer next b → IsRun next last acts rs
    → IsRun first last (cond b acts (act ∷ acts)) (cond b rs (sent_in answer ∷ rs))
run_on first next last act answer acts rs true same rest = subst (λ (w : World). IsRun w last acts rs) same rest
run_on first next last act answer acts rs false taken rest =
    let on : IsRun (act_after first act) last acts rs = subst (λ (w : World). IsRun w last acts rs) taken.after rest in (
      ap (λ (r : Result (List Out) StepFault). r ∷ rs) (sym taken.reply)
          ∙ ap (λ (more : List (Result (List Out) StepFault)). act_reply first act ∷ more) on.0,
      on.1,
    )

pub steps_are_acts : StepsAreActs
steps_are_acts first last [] [] h = (refl, h)
steps_are_acts first last [] (r ∷ rs) h = absurd h
steps_are_acts first last (a ∷ acts) [] h = absurd h
steps_are_acts first last (a ∷ acts) (r ∷ rs) h =
    run_on first h.0 last a r (acts_taken acts rs) (sent_in_taken rs) (wants_memory r) (seen first h.0 a r h.1)
    (steps_are_acts h.0 last acts rs h.2)
