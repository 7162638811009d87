use Rattle.laws_simulation.proofs.GivenLaws.{NasLawsGiven}
use Rattle.laws_simulation.proofs.PhoneMoves.{acts_move_well, hearing_moves_well, lies_are_forms, phone_begins, phones_send_well}
use Rattle.laws_simulation.proofs.ProtectedForms.{nas_is_brief}
use Rattle.laws_simulation.proofs.sent.phones_send_nas.Goals as goal

pub returns : goal.returns
returns c =
    let laws : NasLawsGiven = record {
      decoded = c.encoded_is_decoded.ensures;
      esm_decoded = c.encoded_esm_is_decoded.ensures;
      are_split = c.protected_is_split.ensures;
      spelled = c.decoded_is_spelled.ensures;
      esm_spelled = c.decoded_esm_is_spelled.ensures;
    } in
    record {
      acts = acts_move_well laws;
      lies = lies_are_forms laws;
      hears = hearing_moves_well laws;
      brief = nas_is_brief;
      begins = phone_begins;
      runs = phones_send_well laws;
    }
