use Rattle.laws_network.proofs.Begun.{begins_in_range, items_are_in_range, stays_in_range}
use Rattle.laws_network.proofs.ranges.runs_are_in_range.Goals as goal

pub returns-clause-begins : goal.returns-clause-begins
returns-clause-begins c = begins_in_range c.ranges_are_kept.ensures.fresh

pub returns-clause-stays : goal.returns-clause-stays
returns-clause-stays c =
    let told = c.what_stations_tell_is_in_range.ensures in
    stays_in_range c.ranges_are_kept.ensures.fresh c.ranges_are_kept.ensures.run told.entries told.messages

pub returns-clause-items : goal.returns-clause-items
returns-clause-items c =
    let told = c.what_stations_tell_is_in_range.ensures in
    items_are_in_range c.ranges_are_kept.ensures.fresh c.ranges_are_kept.ensures.run told.entries told.messages
