use Rattle.laws_network.proofs.Begun.{challenges_sent}
use Rattle.laws_network.proofs.ranges.challenges_are_sent.Goals as goal

pub returns : goal.returns
returns c =
    let told = c.what_stations_tell_is_in_range.ensures in
    challenges_sent c.ranges_are_kept.ensures.fresh c.ranges_are_kept.ensures.run told.entries told.messages c.proved_were_challenged.ensures
