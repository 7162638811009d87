use Rattle.std.proofs.Common.{◌≡◌, List, Option, None, Err, sym, ◌∙◌, ap, subst}
use Rattle.std.specs.Prelude.{IfSome}
use Rattle.mme_answering.specs.declared.out.Out.{Out}
use Rattle.mme_answering.specs.Short.{AreShort}
use Rattle.mme_core.specs.declared.event.Event.{Event}
use Rattle.mme_core.specs.declared.event.StepFault.{StepFault}
use Rattle.mme_core.specs.Projection.{AreInOrder}
use Rattle.mme_core.specs.Quiet.{IsQuiet}
use Rattle.mme_core.specs.World.{event_fault, reply, reply_of, world_after}
use Rattle.mme_core.proofs.Quiet.{not_refused}
use Rattle.mme_core.proofs.mme.Mme.step.Goals as goal

pub pass-requires : goal.pass-requires
pass-requires c =
    let quiet = c.is_quiet.ensures c.if-is_quiet.true in subst (λ (e : Event). IsQuiet c.args.self.now e) quiet.tick quiet

pub returns-then-is_quiet-clause-reply : goal.returns-then-is_quiet-clause-reply
returns-then-is_quiet-clause-reply c =
    let quiet = c.is_quiet.ensures c.if-is_quiet.true in
    ap (λ (e : Event). reply c.args.self.now e) quiet.tick ∙ c.pass.ensures.silent
    ∙ ap (λ (os : List Out). reply_of None os) (sym c.pass.ensures.none)

pub returns-then-is_quiet-clause-after : goal.returns-then-is_quiet-clause-after
returns-then-is_quiet-clause-after c =
    let quiet = c.is_quiet.ensures c.if-is_quiet.true in
    c.pass.ensures.after ∙ ap (λ (e : Event). world_after c.args.self.now e) (sym quiet.tick)

pub returns-then-is_quiet-clause-order : goal.returns-then-is_quiet-clause-order
returns-then-is_quiet-clause-order c = subst AreInOrder (sym c.pass.ensures.none) tt

pub returns-then-is_quiet-clause-short : goal.returns-then-is_quiet-clause-short
returns-then-is_quiet-clause-short c = subst AreShort (sym c.pass.ensures.none) tt

pub returns-then-is_quiet-clause-fault : goal.returns-then-is_quiet-clause-fault
returns-then-is_quiet-clause-fault c =
    let quiet = c.is_quiet.ensures c.if-is_quiet.true in
    let s = c.args.self.now.sight in
    let none = ap (λ (e : Event). event_fault s e) quiet.tick ∙ not_refused s quiet.before in
    subst (λ (o : Option StepFault). IfSome o (λ fault. reply_of None c.pass.result ≡ Err fault)) (sym none) tt
