use Rattle.laws_network.proofs.FitActions.{AreWritten}
use Rattle.laws_network.proofs.Whole.{proved_were_challenged}
use Rattle.laws_network.proofs.subscriber.proved_were_challenged.Goals as goal

pub returns : goal.returns
returns c =
    let e = c.phone_messages_are_written.ensures in
    let written : AreWritten = record { nas = e.nas; release = e.release; indication = e.indication; not_switched = e.not_switched; switched = e.switched; page = e.page; set_up = e.set_up } in
    proved_were_challenged written c.decoded_is_spelled.ensures c.decoded_esm_is_spelled.ensures
