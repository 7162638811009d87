use Rattle.laws_network.proofs.Ranged.{entries_are_in_range, messages_are_in_range, resets_are_in_range}
use Rattle.laws_network.proofs.answers.what_stations_tell_is_in_range.Goals as goal

pub returns-clause-entries : goal.returns-clause-entries
returns-clause-entries c = entries_are_in_range c.decoded_is_in_range.ensures

pub returns-clause-messages : goal.returns-clause-messages
returns-clause-messages c = messages_are_in_range c.decoded_is_in_range.ensures

pub returns-clause-resets : goal.returns-clause-resets
returns-clause-resets c = resets_are_in_range c.decoded_is_in_range.ensures
