use Rattle.std.proofs.Common.{◌≡◌, sym, ◌∙◌, ap}
use Rattle.std.specs.Prelude.{None, option_map}
use Rattle.stranger_machine.specs.StationLaws.{station_open}
use Rattle.stranger_machine.specs.Table.{stranger_at}
use Rattle.mme_tables.specs.StrangerRows.{sleeper_now}
use Rattle.mme_tables.specs.Strangers.{StrangerTable}
use Rattle.mme_tables.proofs.Now.{none_there, not_not}
use Rattle.mme_tables.proofs.Now.{stranger_now}
use Rattle.mme_tables.proofs.strangers.Strangers.is_closed_by.Goals as goal

pub returns-in-Some : goal.returns-in-Some
returns-in-Some c =
    λ there. not_not _ _ (c.stays_open.ensures ∙ station_open c.args.id c.in-Some.sleeper.now.stranger c.args.notice.now c.requires)

pub returns-in-None : goal.returns-in-None
returns-in-None c = λ there.
    let none : stranger_at c.args.id c.args.self.now.strangers ≡ None =
    ap (λ (v : StrangerTable). stranger_at c.args.id v.strangers) (sym c.self.view_is)
    ∙ stranger_now c.self.inside.clock c.args.id c.self.inside.sleepers
    ∙ ap (option_map (sleeper_now c.self.inside.clock)) (sym c.find.ensures ∙ ap (option_map (λ s. s.now)) c.in-None.is) in
    absurd (none_there (stranger_at c.args.id c.args.self.now.strangers) none there)
