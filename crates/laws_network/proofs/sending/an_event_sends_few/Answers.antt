use Rattle.laws_network.proofs.SentAtEvents.{events_send_few}
use Rattle.laws_network.proofs.sending.an_event_sends_few.Goals as goal

pub returns : goal.returns
returns c = events_send_few c.what_is_encoded.ensures.decoded c.work_is_bounded.ensures
