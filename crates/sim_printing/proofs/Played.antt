-- What an event and a question print.
use Rattle.std.proofs.Common.{◌≡◌, ◌≢◌, ℕ, List, [], ◌∷◌, ◌++◌, Option, Some, Result, Ok, Err, Bor, codes, inl, inr, refl, sym, ap, ◌∙◌, append-nil}
use Rattle.std.specs.Prelude.{is_ok, IsOk, IfErr, OnErr}
use Rattle.std.specs.Result.{result_ok}
use Rattle.identity_slots.specs.declared.profile.Profile.{Profile}
use Rattle.identity_slots.specs.declared.profile.Vector.{Vector}
use Rattle.emm_machine.specs.declared.subscriber.States.{States}
use Rattle.mme_types.specs.declared.network.Network.{Network}
use Rattle.mme_core.specs.World.{World, happens, reply, world_after}
use Rattle.mme_core.specs.declared.event.Event.{Event}
use Rattle.mme_core.specs.declared.event.Event.TheVariants as event
use Rattle.mme_core.specs.declared.event.StepFault.{StepFault}
use Rattle.mme_core.specs.mme_answering.declared.out.Out.{Out}
use Rattle.trace_words.specs.declared.line.Line.{Line}
use Rattle.trace_words.specs.declared.line.Line.TheVariants.{Skip, Mme, Sub, Vec, Tick, Show}
use Rattle.trace_words.specs.declared.fault.TraceFault.{TraceFault}
use Rattle.trace_words.specs.Trace.{line_of, ◌>>=◌}
use Rattle.trace_words.specs.Kept.{kept_line}
use Rattle.trace_words.specs.Script.{FirstWordTells}
use Rattle.trace_progress.specs.declared.fault.PlayFault.{PlayFault}
use Rattle.trace_progress.specs.declared.fault.PlayFault.TheVariants.{Trace, Read, Write, NoMemory}
use Rattle.trace_progress.specs.Acts.{Acts}
use Rattle.trace_progress.specs.declared.progress.Progress.{Progress}
use Rattle.trace_progress.specs.declared.progress.Progress.TheVariants.{Running}
use Rattle.trace_progress.specs.Effects.{Effect, configured, effect_of, event_played, in_event, left, left_by, running, states_of_imsi, states_shown, subscriber_added, tick_then, ticked, vector_given}
use Rattle.trace_answers.specs.Words.{answers_of, states_text}
use Rattle.trace_progress.specs.Replies.{reply_text}
use Rattle.sim_printing.specs.Printed.{AddsComments, AfterEvent, IfSent, Prints, PrintsFrom, PrintsLine, ReadsAs, event_line}
use Rattle.sim_printing.specs.PrintLaws.{AddsComments-none, Prints-line}

-- what stands whatever was answered
pub on_err : {T E P : Type 0} (r : Result T E) → P → OnErr r P
on_err (Ok x) p = tt
on_err (Err e) p = p

-- one tick is an event
one_then : (world : World) (r : Result (List Out) StepFault)
    → tick_then world r (λ after. (after, [])) ≡ (left_by world event.Tick r, reply_text r)
one_then world (Ok outs) =
    ap (λ (v : List ℕ). let p : World × List ℕ = (world_after world event.Tick, v) in p) (append-nil (answers_of outs))
one_then world (Err fault) = refl

ticked-one : (world : World) → ticked 1 world ≡ event_played world event.Tick
unfolding ticked
ticked-one world = one_then world (reply world event.Tick)

pub tick_reads : ReadsAs (Tick 1) (codes "tick 1")
unfolding line_of
tick_reads = (refl, refl)

-- where octets lie in memory is nothing to the MME
played-octets : (world : World) (e : ℕ) (octets : Bor (List ℕ))
    → event_played world (in_event e octets.now) ≡ event_played world (event.In e octets)
unfolding happens
played-octets world e octets = refl

pub reply-octets : (world : World) (e : ℕ) (octets : Bor (List ℕ))
    → reply world (in_event e octets.now) ≡ reply world (event.In e octets)
unfolding happens
reply-octets world e octets = refl

pub IfSent-octets : (progress : Progress) (e : ℕ) (octets : Bor (List ℕ)) (sent : Option (List Out))
    → IfSent progress (event.In e octets) sent → IfSent progress (in_event e octets.now) sent
IfSent-octets progress e octets sent h = λ world r. h world r ∙ ap result_ok (sym (reply-octets world e octets))

pub AfterEvent-octets : (old new : Progress) (e : ℕ) (octets : Bor (List ℕ)) → AfterEvent old (event.In e octets) new
    → AfterEvent old (in_event e octets.now) new
unfolding happens
AfterEvent-octets old new e octets h = h

after_run : (progress : Progress) (world : World) (f : World → Effect) → running progress ≡ Ok world
    → (running progress >>= f) ≡ f world
after_run progress world f r = ap (λ (v : Result World TraceFault). v >>= f) r

event_effect : (progress : Progress) (world : World) (event : Event) → running progress ≡ Ok world
    → effect_of progress (event_line event) ≡ left (event_played world event)
unfolding effect_of
event_effect progress world (event.Up e) r = after_run progress world (λ w. left (event_played w (event.Up e))) r
event_effect progress world (event.Lost e) r = after_run progress world (λ w. left (event_played w (event.Lost e))) r
event_effect progress world (event.In e octets) r =
    after_run progress world (λ w. left (event_played w (in_event e octets.now))) r ∙ ap left (played-octets world e octets)
event_effect progress world event.Tick r = after_run progress world (λ w. left (ticked 1 w)) r ∙ ap left (ticked-one world)
event_effect progress world (event.Data imsi) r = after_run progress world (λ w. left (event_played w (event.Data imsi))) r
event_effect progress world (event.Cancel imsi) r = after_run progress world (λ w. left (event_played w (event.Cancel imsi))) r

event_says : (event : Event) → event_line event ≢ Skip
event_says (event.Up e) h = cc h
event_says (event.Lost e) h = cc h
event_says (event.In e octets) h = cc h
event_says event.Tick h = cc h
event_says (event.Data imsi) h = cc h
event_says (event.Cancel imsi) h = cc h

made : World → List ℕ → Effect
made world said = Ok (Running world, said)

-- an event by the answer of the MME
pub Prints-played : FirstWordTells → (old new : World) (event : Event) (before mid after l : List ℕ) → ReadsAs (event_line event) l
    → new ≡ left_by old event (reply old event) → mid ≡ before ++ (l ++ 10 ∷ [])
    → AddsComments mid after (reply_text (reply old event))
    → PrintsFrom old before new after (kept_line (event_line event))
unfolding made
Prints-played law old new event before mid after l reads n m adds progress r =
    let said = reply_text (reply old event) in
    Prints-line law progress (Running new) before mid after l said (event_line event) reads (event_says event)
    (event_effect progress old event r ∙ sym (ap (λ w. made w said) n)) m adds

show_effect : (progress : Progress) (world : World) (imsi : List ℕ) (states : States) → running progress ≡ Ok world
    → states_of_imsi imsi world ≡ Some states
    → effect_of progress (Show imsi) ≡ Ok (Running world, states_text imsi states)
unfolding effect_of
show_effect progress world imsi states r e =
    after_run progress world (λ w. states_shown imsi w (states_of_imsi imsi w)) r ∙ ap (states_shown imsi world) e

pub Prints-show : FirstWordTells → (world : World) (imsi : List ℕ) (states : States) (before mid after l : List ℕ)
    → ReadsAs (Show imsi) l
    → states_of_imsi imsi world ≡ Some states → mid ≡ before ++ (l ++ 10 ∷ []) → AddsComments mid after (states_text imsi states)
    → PrintsFrom world before world after (kept_line (Show imsi))
Prints-show law world imsi states before mid after l reads e m adds progress r =
    Prints-line law progress (Running world) before mid after l (states_text imsi states) (Show imsi) reads (λ s. cc s)
    (show_effect progress world imsi states r e) m adds

-- ---- provisioning

pub mme_effect : (progress : Progress) (network : Network) → effect_of progress (Mme network) ≡ configured progress network
unfolding effect_of
mme_effect progress network = refl

pub sub_effect : (progress : Progress) (profile : Profile) → effect_of progress (Sub profile) ≡ subscriber_added progress profile
unfolding effect_of
sub_effect progress profile = refl

pub vec_effect : (progress : Progress) (imsi : List ℕ) (vector : Vector)
    → effect_of progress (Vec imsi vector) ≡ vector_given progress imsi vector
unfolding effect_of
vec_effect progress imsi vector = refl

-- a line that writes nothing
pub Prints-provisioned : FirstWordTells → (old new : Progress) (before after l : List ℕ) (line : Line) → ReadsAs line l
    → line ≢ Skip
    → effect_of old line ≡ Ok (new, []) → after ≡ before ++ (l ++ 10 ∷ []) → Prints old before new after (kept_line line)
Prints-provisioned law old new before after l line reads some effect e =
    Prints-line law old new before after after l [] line reads some effect e (AddsComments-none after)

-- a line that is taken has no fault, whether memory to print it is wanting or not
IsOk-effect : (effect : Effect) (done : Progress × List ℕ) → effect ≡ Ok done → IsOk effect
IsOk-effect effect done e = ap (λ (v : Effect). is_ok v) e

pub PrintsLine-unprinted : (number : ℕ) (line : Line) (old new : Progress) (before after : List ℕ)
    → effect_of old line ≡ Ok (new, []) → after ≡ before → PrintsLine number line old before (Err NoMemory) new after
PrintsLine-unprinted number line old new before after effect e =
    (IsOk-effect (effect_of old line) (new, []) effect, e, inr effect)

abbrev refused : PlayFault → Result (Unit {0}) PlayFault
refused fault = Err fault

-- nor has one for which memory was wanting, since its fault would have come
IsOk-unfaulted : (number : ℕ) (effect same : Effect) → effect ≡ same
    → IfErr same (λ met. refused NoMemory ≡ refused (Trace number met)) → IsOk effect
IsOk-unfaulted number effect (Ok done) e due = IsOk-effect effect done e
IsOk-unfaulted number effect (Err met) e due = absurd (cc due)

-- a line that is refused
pub PrintsLine-fault : (number : ℕ) (line : Line) (effect : Effect) (old new : Progress) (out : List ℕ) (fault : PlayFault)
    → effect_of old line ≡ effect
    → Acts number effect (Err fault) new [] → new ≡ old → fault ≢ Write
    → IfErr effect (λ met. refused fault ≡ refused (Trace number met))
    → PrintsLine number line old out (Err fault) new out
PrintsLine-fault number line effect old new out (Trace place fault) e acts stays other due = (e ∙ acts.0, acts.1, refl, stays)
PrintsLine-fault number line effect old new out NoMemory e acts stays other due =
    (IsOk-unfaulted number (effect_of old line) effect e due, refl, inl stays)
PrintsLine-fault number line effect old new out Read e acts stays other due = absurd acts
PrintsLine-fault number line effect old new out Write e acts stays other due = absurd (other refl)
