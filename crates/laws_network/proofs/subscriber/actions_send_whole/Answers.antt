use Rattle.laws_network.proofs.FitActions.{AreWritten}
use Rattle.laws_network.proofs.Whole.{indicate_whole, leave_whole, not_switched_whole, page_whole, protect_whole, refuse_whole, release_whole, send_whole, set_up_whole, switched_whole, turn_away_whole}
use Rattle.laws_network.proofs.subscriber.actions_send_whole.Goals as goal

pub returns : goal.returns
returns c =
    let e = c.phone_messages_are_written.ensures in
    let written : AreWritten = record { nas = e.nas; release = e.release; indication = e.indication; not_switched = e.not_switched; switched = e.switched; page = e.page; set_up = e.set_up } in
    record {
      send = send_whole written;
      protect = protect_whole written;
      release = release_whole written;
      leave = leave_whole written;
      turn_away = turn_away_whole written;
      refuse = refuse_whole written;
      set_up = set_up_whole written;
      page = page_whole written;
      indicate = indicate_whole written;
      not_switched = not_switched_whole written;
      switched = switched_whole written;
    }
