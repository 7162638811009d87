use Rattle.laws_network.proofs.RowsWhole.{attach_refused_whole, challenged_whole, not_authenticated_whole}
use Rattle.laws_network.proofs.FitActions.{AreWritten}
use Rattle.laws_network.proofs.FitRows.{requests_are_known}
use Rattle.laws_network.proofs.subscriber.rows_send_whole.Goals as goal

pub returns : goal.returns
returns c =
    let e = c.phone_messages_are_written.ensures in
    let written : AreWritten = record { nas = e.nas; release = e.release; indication = e.indication; not_switched = e.not_switched; switched = e.switched; page = e.page; set_up = e.set_up } in
    record {
      attach_refused = attach_refused_whole written;
      challenged = challenged_whole written;
      not_authenticated = not_authenticated_whole written;
      requests = requests_are_known;
    }
