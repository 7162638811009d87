use Rattle.laws_simulation.proofs.Two.{same_slot_is_printed, same_station_is_printed, same_stranger_is_printed}
use Rattle.laws_simulation.proofs.printed.same_is_printed_alike.Goals as goal

pub returns-clause-slot : goal.returns-clause-slot
returns-clause-slot c = same_slot_is_printed c.slots_are_printed.ensures.trace c.same_to_slot.ensures.machine

pub returns-clause-stranger : goal.returns-clause-stranger
returns-clause-stranger c =
    same_stranger_is_printed c.strangers_are_printed.ensures.trace c.same_to_stranger.ensures.machine

pub returns-clause-station : goal.returns-clause-station
returns-clause-station c = same_station_is_printed c.stations_are_printed.ensures.trace c.same_to_station.ensures.machine
