-- A stranger that is lent, as it is now.
use Rattle.stranger_machine.specs.declared.state.Stranger.{Stranger}
use Rattle.stranger_machine.specs.declared.table.LentStranger.{LentStranger}
use Rattle.stranger_machine.specs.Ticks.{stranger_aged}

abbrev pub lent_now : LentStranger → Stranger
lent_now l = stranger_aged l.slept l.stranger.now
