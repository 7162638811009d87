use Rattle.laws_simulation.proofs.Commented.{comments_are_played, nobody_is_simulated, nothing_is_simulated, slot_is_simulated, station_is_simulated, stranger_is_simulated}
use Rattle.laws_simulation.proofs.printed.simulations_are_printed.Goals as goal

pub returns : goal.returns
returns c = record {
  played = comments_are_played;
  nothing = nothing_is_simulated c.no_run_prints_nothing.ensures;
  slot = slot_is_simulated c.slots_are_printed.ensures.trace;
  absent = nobody_is_simulated c.slots_are_printed.ensures.absent;
  station = station_is_simulated c.stations_are_printed.ensures.trace;
  stranger = stranger_is_simulated c.strangers_are_printed.ensures.trace;
}
