use Rattle.std.proofs.Common.{sym, subst}
use Rattle.std.proofs.lemmas.Result.{err_from_is_err_and}
use Rattle.mme_core.specs.Ready.{LeadsTo}
use Rattle.mme_core.specs.World.{World}
use Rattle.mme_core.proofs.Taking.{refuses, takes}
use Rattle.mme_core.proofs.mme.Mme.step_message.Goals as goal

pub take-requires : goal.take-requires
take-requires c =
    let e = c.args.event.now in (
      e,
      subst (λ (v : World). LeadsTo v e c.in_ok-ready.ready) (sym c.in_ok-ready.ensures.same) c.in_ok-ready.ensures.leads,
    )

pub returns : goal.returns
returns c =
    let ready = c.in_ok-ready.ensures in
    let taken = c.take.ensures in
    takes c.args.self.now _ c.args.event.now c.in_ok-ready.ready c.take.result _ ready.same ready.leads taken.after taken.outs taken.short
    taken.memory taken.err

pub returns-in_err-ready : goal.returns-in_err-ready
returns-in_err-ready c =
    let fault = err_from_is_err_and c.from_residual.result c.from_residual.ensures.1 in
    rw (fault.1, fault.2) (refuses c.args.self.now _ c.args.event.now _ c.in_err-ready.ensures.refused c.in_err-ready.ensures.same)
