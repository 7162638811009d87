use Rattle.std.proofs.Common.{sym, ◌∙◌, ap, arith}
use Rattle.std.specs.Prelude.{option_map}
use Rattle.stranger_machine.specs.Lent.{lent_now}
use Rattle.stranger_machine.specs.Table.{stranger_at}
use Rattle.mme_tables.specs.StrangerRows.{sleeper_now}
use Rattle.mme_tables.specs.Strangers.{StrangerTable}
use Rattle.mme_tables.proofs.Now.{sleeping_at, stranger_now}
use Rattle.mme_tables.proofs.strangers.Strangers.find.Goals as goal

pub overflow_sub-slept : goal.overflow_sub-slept
overflow_sub-slept c =
    let found = sym c.find.ensures ∙ ap (option_map (λ s. s.now)) c.in_ok-sleeper.was in
    let past = (sleeping_at c.self.inside.clock c.args.id c.in_ok-sleeper.sleeper.now c.self.inside.sleepers found c.self.invariant.sleeping).past in
    omega arith

pub returns-in_err-sleeper : goal.returns-in_err-sleeper
returns-in_err-sleeper c =
    let found = sym c.find.ensures ∙ ap (option_map (λ s. s.now)) c.in_err-sleeper.was in
    ap (option_map lent_now) c.from_residual.ensures
    ∙ sym (ap (λ (v : StrangerTable). stranger_at c.args.id v.strangers) (sym c.self.view_is) ∙ stranger_now c.self.inside.clock c.args.id c.self.inside.sleepers ∙ ap (option_map (sleeper_now c.self.inside.clock)) found)

pub returns : goal.returns
returns c =
    let found = sym c.find.ensures ∙ ap (option_map (λ s. s.now)) c.in_ok-sleeper.was in
    sym (ap (λ (v : StrangerTable). stranger_at c.args.id v.strangers) (sym c.self.view_is) ∙ stranger_now c.self.inside.clock c.args.id c.self.inside.sleepers ∙ ap (option_map (sleeper_now c.self.inside.clock)) found)
