-- What is left where a line is refused.
use Rattle.std.proofs.Common.{◌≡◌, ℕ, suc, ◌+◌, ◌≤◌, true, false, List, [], ◌∷◌, replicate, Option, Some, None, Result, Ok, Err, Bor, IfErr, inl, inr, refl, sym, ap, subst, ◌∙◌, arith}
use Rattle.std.specs.Prelude.{is_ok, is_some}
use Rattle.std.proofs.lemmas.Bool.{not-false}
use Rattle.std.proofs.lemmas.List.{length-replicate, take-replicate}
use Rattle.identity_slots.specs.Provisioned.{slot_of_imsi}
use Rattle.emm_machine.specs.declared.subscriber.States.{States}
use Rattle.mme_core.specs.World.{World, fresh_world, reply, world_after, world_run}
use Rattle.mme_core.specs.declared.event.Event.TheVariants as event
use Rattle.mme_core.specs.declared.event.StepFault.{StepFault}
use Rattle.mme_core.specs.mme_answering.declared.out.Out.{Out}
use Rattle.trace_words.specs.declared.fault.TraceFault.{TraceFault}
use Rattle.trace_words.specs.declared.line.Line.{Line}
use Rattle.trace_progress.specs.declared.fault.PlayFault.{PlayFault}
use Rattle.trace_progress.specs.declared.fault.PlayFault.TheVariants.{Trace, Read, Write, NoMemory}
use Rattle.trace_progress.specs.declared.progress.Progress.{Progress}
use Rattle.trace_progress.specs.declared.progress.Progress.TheVariants.{Nothing, Provisioning, Running}
use Rattle.trace_progress.specs.Effects.{in_event, left_by, running, states_of_imsi, states_shown}
use Rattle.trace_progress.specs.Acts.{Acts}
use Rattle.trace_progress.specs.KnownLaws.{known_fresh}
use Rattle.trace_progress.specs.Stopping.{HasTaken, RunsOn}
use Rattle.trace_progress.specs.StoppingLaws.{HasTaken-none, HasTaken-octets, RunsOn-weaker}
use Rattle.trace_run.specs.Leaving.{LeftAtFault, LeftByLine, is_missing}

-- ---- ticks

-- after some ticks: the MME that they left goes on as the first one
abbrev pub TicksOn : World → ℕ → World → Type 0
TicksOn old done mid = (n : ℕ) → world_run old (replicate (done + n) event.Tick) ≡ world_run mid (replicate n event.Tick)

pub TicksOn-start : (w : World) → TicksOn w 0 w
TicksOn-start w n = let same : 0 + n ≡ n = omega arith in ap (λ m. world_run w (replicate m event.Tick)) same

left-taken : (w : World) (r : Result (List Out) StepFault) → is_ok r ≡ true → left_by w event.Tick r ≡ world_after w event.Tick
left-taken w (Ok outs) h = refl
left-taken w (Err fault) h = cc h

pub TicksOn-tick : (old mid new : World) (done : ℕ) → TicksOn old done mid → is_ok (reply mid event.Tick) ≡ true
    → new ≡ left_by mid event.Tick (reply mid event.Tick) → TicksOn old (done + 1) new
TicksOn-tick old mid new done t h e n =
    let sum : done + 1 + n ≡ done + suc n = omega arith in
    ap (λ m. world_run old (replicate m event.Tick)) sum ∙ t (suc n)
    ∙ ap (λ w. world_run w (replicate n event.Tick)) (sym (e ∙ left-taken mid (reply mid event.Tick) h))

-- and one more, or none
pub HasTaken-ticks : (old mid new : World) (done count : ℕ) → TicksOn old done mid → done + 1 ≤ count
    → HasTaken (event.Tick ∷ []) mid new → HasTaken (replicate count event.Tick) old new
HasTaken-ticks old mid new done count t few taken =
    let m = taken.0 in
    let one : m ≤ 1 = taken.1 in
    let all : done + m ≤ count = omega (arith, few, one) in (
      done + m,
      omega (arith, all, length-replicate count event.Tick),
      taken.2 ∙ ap (world_run mid) (take-replicate m 1 event.Tick one) ∙ sym (t m)
          ∙ ap (world_run old) (sym (take-replicate (done + m) count event.Tick all)),
    )

pub HasTaken-all : (old mid : World) (done count : ℕ) → TicksOn old done mid → done ≡ count
    → HasTaken (replicate count event.Tick) old mid
HasTaken-all old mid done count t all =
    let few : done ≤ count = omega (arith, all) in
    let same : done + 0 ≡ done = omega arith in (
      done,
      omega (arith, few, length-replicate count event.Tick),
      sym (t 0) ∙ ap (λ m. world_run old (replicate m event.Tick)) same
          ∙ ap (world_run old) (sym (take-replicate done count event.Tick few)),
    )

-- ---- what is shown

known : (imsi : List ℕ) (w : World) (states : Option States) (fault : TraceFault) → is_some states ≡ true
    → states_shown imsi w states ≡ Err fault → ⊥
known imsi w None fault some shown = cc some
known imsi w (Some states) fault some shown = cc shown

-- nobody but where an MME ran already
stays : (old : Progress) (w : World) (imsi : List ℕ) (fault : TraceFault) → is_missing old imsi ≡ false → running old ≡ Ok w
    → states_shown imsi w (states_of_imsi imsi w) ≡ Err fault → Running w ≡ old
stays Nothing w imsi fault there is shown = absurd (cc is)
stays (Provisioning config p) w imsi fault there is shown =
    let same : fresh_world config p ≡ w = cc is in
    let some = ap (λ v. is_some (states_of_imsi imsi v)) (sym same) ∙ sym (known_fresh config p imsi)
    ∙ not-false (is_some (slot_of_imsi imsi p.profiles)) there in
    absurd (known imsi w (states_of_imsi imsi w) fault some shown)
stays (Running world) w imsi fault there is shown = let same : world ≡ w = cc is in ap Running (sym same)

pub IfErr-shown : (number : ℕ) (old : Progress) (w : World) (imsi written : List ℕ) (result : Result (Unit {0}) PlayFault)
    → is_missing old imsi ≡ false → running old ≡ Ok w
    → Acts number (states_shown imsi w (states_of_imsi imsi w)) result (Running w) written
    → IfErr result (λ fault. LeftAtFault (Some []) old fault (Running w))
IfErr-shown number old w imsi written (Ok _) there is acts = tt
IfErr-shown number old w imsi written (Err (Trace line fault)) there is acts = stays old w imsi fault there is acts.0
IfErr-shown number old w imsi written (Err NoMemory) there is acts = inr (w, w, is, refl, HasTaken-none [] w w refl)
IfErr-shown number old w imsi written (Err Write) there is acts = (w, w, is, refl, HasTaken-none [] w w refl)
IfErr-shown number old w imsi written (Err Read) there is acts = absurd acts

-- ---- lines

pub IfErr-line : (old new : Progress) (line same : Line) (result : Result (Unit {0}) PlayFault) → same ≡ line
    → IfErr result (λ fault. LeftByLine old line fault new) → IfErr result (λ fault. LeftByLine old same fault new)
IfErr-line old new line same result e h =
    let P : Line → Type 0 = λ v. IfErr result (λ fault. LeftByLine old v fault new) in subst P (sym e) h

runs-octets : (old new : Progress) (e : ℕ) (octets : Bor (List ℕ)) → RunsOn (HasTaken (event.In e octets ∷ [])) old new
    → RunsOn (HasTaken (in_event e octets.now ∷ [])) old new
runs-octets old new e octets h =
    RunsOn-weaker (HasTaken (event.In e octets ∷ [])) (HasTaken (in_event e octets.now ∷ [])) (HasTaken-octets e octets) old new h

pub IfErr-octets : (old new : Progress) (e : ℕ) (octets : Bor (List ℕ)) (result : Result (Unit {0}) PlayFault)
    → IfErr result (λ fault. LeftAtFault (Some (event.In e octets ∷ [])) old fault new)
    → IfErr result (λ fault. LeftAtFault (Some (in_event e octets.now ∷ [])) old fault new)
IfErr-octets old new e octets (Ok _) h = tt
IfErr-octets old new e octets (Err (Trace line fault)) h = h
IfErr-octets old new e octets (Err NoMemory) h = elim h [ inl none ↦ inl none | inr on ↦ inr (runs-octets old new e octets on) ]
IfErr-octets old new e octets (Err Write) h = runs-octets old new e octets h
IfErr-octets old new e octets (Err Read) h = h
