use Rattle.laws_simulation.proofs.StationActs.{S1apLawsGiven, acts_are_sent, nas_is_carried, others_are_silent, phones_are_carried, station_begins, station_stays}
use Rattle.laws_simulation.proofs.StationAnswers.{answers_are_sent}
use Rattle.laws_simulation.proofs.sent.stations_send_s1ap.Goals as goal

pub returns : goal.returns
returns c =
    let laws : S1apLawsGiven =
    record { short = c.short_messages_are_written.ensures.written; decodes = c.what_is_encoded.ensures.decoded } in
    record {
      acts = acts_are_sent laws;
      others = others_are_silent;
      nas = nas_is_carried;
      phones = phones_are_carried laws;
      answers = answers_are_sent laws c.decoded_is_in_range.ensures;
      begins = station_begins;
      stays = station_stays;
    }
