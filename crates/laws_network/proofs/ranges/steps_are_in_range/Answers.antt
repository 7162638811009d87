use Rattle.laws_network.proofs.Begun.{alone_steps_in_range, steps_in_range}
use Rattle.laws_network.proofs.ranges.steps_are_in_range.Goals as goal

pub returns-clause-next : goal.returns-clause-next
returns-clause-next c =
    let told = c.what_stations_tell_is_in_range.ensures in
    steps_in_range c.ranges_are_kept.ensures.fresh c.ranges_are_kept.ensures.run told.entries told.messages c.every_message_is_sent.ensures

pub returns-clause-alone : goal.returns-clause-alone
returns-clause-alone c =
    let told = c.what_stations_tell_is_in_range.ensures in
    alone_steps_in_range c.ranges_are_kept.ensures.fresh c.ranges_are_kept.ensures.run told.entries told.messages c.every_message_is_sent.ensures
