use Rattle.laws_network.proofs.Sent.{TellsPhones, identity_asked_is_sent, refused_is_sent, released_is_sent}
use Rattle.laws_network.proofs.answers.strangers_are_answered.Goals as goal

pub returns : goal.returns
returns c =
    let e = c.phone_messages_are_written.ensures in
    let tells : TellsPhones =
    record { nas = e.nas; release = e.release; indication = e.indication; not_switched = e.not_switched } in
    record { released = released_is_sent tells; refused = refused_is_sent tells; asked = identity_asked_is_sent tells }
