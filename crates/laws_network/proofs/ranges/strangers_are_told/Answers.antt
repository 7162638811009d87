use Rattle.laws_network.proofs.Begun.{TellsStrangers, beginners_told, senders_answered, waiting_told}
use Rattle.laws_network.proofs.ranges.strangers_are_told.Goals as goal

pub returns : goal.returns
returns c =
    let told = c.what_stations_tell_is_in_range.ensures in
    let kept = c.ranges_are_kept.ensures in
    let e = c.strangers_are_answered.ensures in
    let tells : TellsStrangers =
    record { asked = e.asked; refusal = e.refused; release = e.released; unknown = c.stations_are_answered.ensures.unknown; indication = c.phone_messages_are_written.ensures.indication } in
    record {
      begins = beginners_told kept.fresh kept.run told.entries told.messages tells;
      sends = senders_answered kept.fresh kept.run told.entries told.messages tells;
      waits = waiting_told kept.fresh kept.run told.entries told.messages tells;
    }
