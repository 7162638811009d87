use Rattle.emm_machine.specs.TickLaws as subscribers
use Rattle.laws_mme.proofs.tables.quiet_tick.Goals as goal

pub returns : goal.returns
returns c = subscribers.quiet_tick
