use Rattle.std.proofs.Common.{sym, ◌∙◌, ap}
use Rattle.std.specs.Prelude.{option_map}
use Rattle.mme_tables.specs.Waiting.{wait_at, wait_if}
use Rattle.mme_tables.specs.StrangerRows.{sleeper_now}
use Rattle.mme_tables.specs.Strangers.{StrangerTable}
use Rattle.mme_tables.proofs.Now.{sleeping_at, stranger_now}
use Rattle.mme_tables.proofs.strangers.Strangers.left.Goals as goal

pub left-requires : goal.left-requires
left-requires c =
    let found = sym c.find.ensures ∙ ap (option_map (λ s. s.now)) c.in_ok-sleeper.was in
    (sleeping_at c.self.inside.clock c.args.id c.in_ok-sleeper.sleeper.now c.self.inside.sleepers found c.self.invariant.sleeping).past

pub returns-in_err-sleeper : goal.returns-in_err-sleeper
returns-in_err-sleeper c =
    let found = sym c.find.ensures ∙ ap (option_map (λ s. s.now)) c.in_err-sleeper.was in
    c.from_residual.ensures
    ∙ sym (ap (λ (v : StrangerTable). wait_at c.args.id v.strangers) (sym c.self.view_is) ∙ ap wait_if (stranger_now c.self.inside.clock c.args.id c.self.inside.sleepers ∙ ap (option_map (sleeper_now c.self.inside.clock)) found))

pub returns : goal.returns
returns c =
    let found = sym c.find.ensures ∙ ap (option_map (λ s. s.now)) c.in_ok-sleeper.was in
    c.left.ensures
    ∙ sym (ap (λ (v : StrangerTable). wait_at c.args.id v.strangers) (sym c.self.view_is) ∙ ap wait_if (stranger_now c.self.inside.clock c.args.id c.self.inside.sleepers ∙ ap (option_map (sleeper_now c.self.inside.clock)) found))
