use Rattle.stranger_machine.specs.TickLaws as strangers
use Rattle.laws_mme.proofs.tables.quiet_notice.Goals as goal

pub returns : goal.returns
returns c = strangers.quiet_notice
