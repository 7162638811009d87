use Rattle.laws_network.proofs.Ranged.{resets_are_in_range}
use Rattle.laws_network.proofs.Sent.{TellsPhones, fault_is_answered, incompatible_is_answered, part_reset_is_answered, reset_is_answered, setup_is_answered, unknown_is_answered}
use Rattle.laws_network.proofs.answers.stations_are_answered.Goals as goal

pub returns : goal.returns
returns c =
    let short = c.short_messages_are_written.ensures.written in
    let e = c.phone_messages_are_written.ensures in
    let tells : TellsPhones =
    record { nas = e.nas; release = e.release; indication = e.indication; not_switched = e.not_switched } in
    record {
      setup = setup_is_answered short;
      reset = reset_is_answered short;
      part_reset = part_reset_is_answered short (resets_are_in_range c.decoded_is_in_range.ensures);
      fault = fault_is_answered short;
      incompatible = incompatible_is_answered short;
      unknown = unknown_is_answered tells;
    }
