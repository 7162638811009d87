use Rattle.std.proofs.Common.{◌≡◌, ◌∙◌, Option, None, refl, sym, ap, subst}
use Rattle.std.specs.Prelude.{◌==◌, if◌then◌else◌, IsSome, Some}
use Rattle.mme_types.specs.declared.connection.Connection.{Connection}
use Rattle.mme_tables.specs.Whereabouts.{waits_at, NoneConnected}
use Rattle.mme_owners.proofs.owners.begin_wait.Goals as goal

pub begin_wait-requires-clause-free : goal.begin_wait-requires-clause-free
begin_wait-requires-clause-free c =
    let there : IsSome c.args.place = subst IsSome (sym c.in-Some.is) refl in
    subst (λ n. NoneConnected n c.args.connections.now.whereabouts) (sym (c.requires.own c.in-Some.place c.in-Some.is))
    (c.requires.free there)

pub begin_wait-requires-clause-alone : goal.begin_wait-requires-clause-alone
begin_wait-requires-clause-alone c =
    subst (λ n. waits_at n c.args.connections.now.associations ≡ None) (sym (c.requires.own c.in-Some.place c.in-Some.is)) c.requires.alone

pub returns-in-Some-clause-waits : goal.returns-in-Some-clause-waits
returns-in-Some-clause-waits c = λ other.
    let es = c.args.connections.now.associations in
    c.begin_wait.ensures.strangers other
    ∙ ap (λ n. if n == other then Some c.in-Some.place else waits_at other es) (c.requires.own c.in-Some.place c.in-Some.is)
    ∙ ap (λ (o : Option Connection). if c.args.id == other then o else waits_at other es) (sym c.in-Some.is)
