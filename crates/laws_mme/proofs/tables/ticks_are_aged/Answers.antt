use Rattle.emm_machine.specs.TickLaws as subscribers
use Rattle.stranger_machine.specs.TickLaws as strangers
use Rattle.laws_mme.proofs.tables.ticks_are_aged.Goals as goal

pub returns-clause-subscriber : goal.returns-clause-subscriber
returns-clause-subscriber c = subscribers.ticks_are_aged

pub returns-clause-stranger : goal.returns-clause-stranger
returns-clause-stranger c = strangers.ticks_are_aged
