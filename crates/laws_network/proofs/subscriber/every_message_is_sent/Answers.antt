use Rattle.laws_network.proofs.FitActions.{AreWritten}
use Rattle.laws_network.proofs.FitRows.{every_message_sent}
use Rattle.laws_network.proofs.subscriber.every_message_is_sent.Goals as goal

pub returns : goal.returns
returns c =
    let e = c.phone_messages_are_written.ensures in
    let written : AreWritten = record { nas = e.nas; release = e.release; indication = e.indication; not_switched = e.not_switched; switched = e.switched; page = e.page; set_up = e.set_up } in
    every_message_sent written c.decoded_is_spelled.ensures c.decoded_esm_is_spelled.ensures
