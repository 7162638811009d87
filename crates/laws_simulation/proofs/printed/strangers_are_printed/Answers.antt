use Rattle.laws_simulation.proofs.StrangerLines.{stranger_is_printed, stranger_is_printed_from}
use Rattle.laws_simulation.proofs.printed.strangers_are_printed.Goals as goal

pub returns-clause-trace : goal.returns-clause-trace
returns-clause-trace c =
    stranger_is_printed c.what_stations_tell_is_in_range.ensures.entries c.what_stations_tell_is_in_range.ensures.messages
    c.worlds_are_kept.ensures.stays c.ids_are_apart.ensures.stays c.everybody_is_placed.ensures.stays
    c.worlds_are_kept.ensures.begins c.ids_are_apart.ensures.begins c.everybody_is_placed.ensures.begins
    c.strangers_run_alone.ensures.told

pub returns-clause-mme : goal.returns-clause-mme
returns-clause-mme c =
    stranger_is_printed_from c.what_stations_tell_is_in_range.ensures.entries
    c.what_stations_tell_is_in_range.ensures.messages c.worlds_are_kept.ensures.stays c.ids_are_apart.ensures.stays
    c.everybody_is_placed.ensures.stays c.strangers_run_alone.ensures.told
