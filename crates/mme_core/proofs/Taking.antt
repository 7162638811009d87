-- An event is taken as it was prepared, or it is refused.
use Rattle.std.proofs.Common.{◌≡◌, List, Option, None, Result, Ok, Err, inl, inr, refl, sym, ◌∙◌, ap, subst}
use Rattle.std.specs.Prelude.{IfErr, IfOk, IfSome, OnErr, OnOk}
use Rattle.mme_answering.specs.declared.out.Out.{Out}
use Rattle.mme_answering.specs.Short.{AreShort}
use Rattle.mme_core.specs.declared.event.Event.{Event}
use Rattle.mme_core.specs.declared.event.StepFault.{StepFault}
use Rattle.mme_core.specs.declared.event.StepFault.TheVariants.{NoMemory}
use Rattle.mme_core.specs.declared.mme.Ready.{Ready}
use Rattle.mme_core.specs.Projection.{AreInOrder}
use Rattle.mme_core.specs.Ready.{IsRefused, LeadsTo, TakesEvent, ready_world}
use Rattle.mme_core.specs.World.{World, outputs, reply_of}

-- an event is answered by its own fault, if it has one
abbrev IsItsFault : Result (List Out) StepFault → Option StepFault → Type 0
IsItsFault answer own = IfSome own (λ fault. answer ≡ Err fault)

-- `v` is the MME that the event was prepared for
pub takes : (w v : World) (e : Event) (r : Ready) (answer : Result (List Out) StepFault) (next : World) → v ≡ w → LeadsTo w e r
    → OnOk answer (next ≡ ready_world r v) → IfOk answer (λ outs. outs ≡ r.outs) → IfOk answer (λ outs. AreShort outs)
    → IfErr answer (λ fault. fault ≡ NoMemory) → OnErr answer (next ≡ v) → TakesEvent w e answer next
takes w v e r (Ok outs) next same led after is short memory err = record {
  output = led.sends ∙ ap (λ (os : List Out). reply_of None os) (sym is);
  order = subst AreInOrder (sym is) led.order;
  short = short;
  after = after ∙ ap (λ (x : World). ready_world r x) same ∙ led.after;
  fault = subst (IsItsFault (Ok outs)) (sym led.accepted) tt;
  refused = tt;
  err = tt;
}
takes w v e r (Err fault) next same led after is short memory err = record {
  output = tt;
  order = tt;
  short = tt;
  after = tt;
  fault = subst (IsItsFault (Err fault)) (sym led.accepted) tt;
  refused = λ other. absurd (other memory);
  err = err ∙ same;
}

-- it has a fault of its own, or memory was refused, and nothing has changed
pub refuses : (w next : World) (e : Event) (fault : StepFault) → IsRefused w e fault → next ≡ w → TakesEvent w e (Err fault) next
refuses w next e fault (inl own) same = record {
  output = tt;
  order = tt;
  short = tt;
  after = tt;
  fault = subst (IsItsFault (Err fault)) (sym own) refl;
  refused = λ other. ap (λ (o : Option StepFault). reply_of o (outputs w e)) own;
  err = same;
}
refuses w next e fault (inr memory) same = record {
  output = tt;
  order = tt;
  short = tt;
  after = tt;
  fault = subst (IsItsFault (Err fault)) (sym memory.1) tt;
  refused = λ other. absurd (other memory.0);
  err = same;
}
