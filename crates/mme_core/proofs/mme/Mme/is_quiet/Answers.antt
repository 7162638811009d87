use Rattle.std.proofs.Common.{subst}
use Rattle.mme_core.specs.Quiet.{IsQuiet}
use Rattle.mme_core.specs.World.{World, world_of}
use Rattle.mme_core.proofs.Quiet.{quiet_if}
use Rattle.mme_core.proofs.mme.Mme.is_quiet.Goals as goal

pub returns : goal.returns
returns c = λ told.
    let w = world_of c.self.inside.surroundings c.self.inside.owners in
    let before = c.may_tick.ensures.0 c.if-not-may_tick.false in
    subst (λ (v : World). IsQuiet v c.args.event.now) c.self.view_is
    (quiet_if w c.args.event.now c.is_due.result c.in-Tick.is before c.is_due.ensures.0 told)
