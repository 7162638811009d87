use Rattle.std.proofs.Common.{◌+◌, sym, ◌∙◌, ap}
use Rattle.mme_tables.specs.Waiting.{due_ids}
use Rattle.stranger_machine.specs.declared.turn.Notice.TheVariants.{Tick}
use Rattle.stranger_machine.specs.Table.{noted}
use Rattle.mme_tables.specs.StrangerRows.{all_now}
use Rattle.mme_tables.specs.Strangers.{StrangerTable}
use Rattle.mme_tables.proofs.Ending.{all_ended_now, met_is_due, sleeping_around}
use Rattle.mme_tables.proofs.strangers.Strangers.tick.Goals as goal

pub tick_all-requires-clause-around : goal.tick_all-requires-clause-around
tick_all-requires-clause-around c = sleeping_around c.self.inside.clock c.self.inside.sleepers c.self.invariant.sleeping

pub tick_all-requires-clause-due : goal.tick_all-requires-clause-due
tick_all-requires-clause-due c =
    c.requires.due ∙ ap (λ (v : StrangerTable). due_ids v.strangers) (sym c.self.view_is)
    ∙ sym (met_is_due c.self.inside.clock c.self.inside.sleepers c.self.invariant.sleeping)

pub invariant_of-self : goal.invariant_of-self
invariant_of-self c = record { rows = c.tick_all.ensures.rows; sleeping = c.tick_all.ensures.sleeping }

pub returns-clause-strangers : goal.returns-clause-strangers
returns-clause-strangers c =
    ap (all_now (c.self.inside.clock + 1)) c.tick_all.ensures.ended
    ∙ all_ended_now c.self.inside.clock c.self.inside.sleepers c.self.invariant.sleeping
    ∙ ap (λ (v : StrangerTable). noted Tick v.strangers) c.self.view_is
