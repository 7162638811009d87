use Rattle.std.proofs.Common.{sym, subst, Option}
use Rattle.std.specs.Prelude.{Some}
use Rattle.mme_types.specs.declared.connection.Connection.{Connection}
use Rattle.mme_tables.specs.KeptPlaces.{IsReopened}
use Rattle.mme_tables.proofs.opening.reopen.Goals as goal

pub returns-in-None-new-clause-each : goal.returns-in-None-new-clause-each
returns-in-None-new-clause-each c =
    let es = c.args.associations.now.entries in
    let fs = c.close.new.associations.entries in
    subst (λ (o : Option Connection). IsReopened c.args.slot o c.args.new.now es fs) (sym c.in-Some.is)
    (subst (λ (o : Option Connection). IsReopened c.args.slot (Some c.in-Some.old) o es fs) (sym c.in-None-new.is) (c.close.ensures.each c.args.slot))
