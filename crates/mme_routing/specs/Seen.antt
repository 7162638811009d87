-- What functions of the code returned, without where octets lie in memory.
use Rattle.std.specs.Prelude.{List}
use Rattle.mme_types.specs.declared.stations.StationState.{StationState}
use Rattle.mme_types.specs.Events.{entry_lists, item_of, message_lists}
use Rattle.mme_routing.specs.declared.destination.Destination.{Destination as DestinationInCode}
use Rattle.mme_routing.specs.declared.destination.Destination.TheVariants as code
use Rattle.mme_routing.specs.declared.outcome.Outcome.{Outcome as OutcomeInCode}
use Rattle.mme_routing.specs.Destinations.{Destination, Nobody, Subscriber, Beginner, Stranger, Everyone}
use Rattle.mme_routing.specs.Outcomes.{Outcome}

-- data carries the stations
abbrev pub destination_of : List StationState → DestinationInCode → Destination
destination_of stations code.Nobody = Nobody
destination_of stations (code.Subscriber slot event) = Subscriber slot (item_of event stations)
destination_of stations (code.Beginner id m) = Beginner id (entry_lists m)
destination_of stations (code.Stranger m) = Stranger (message_lists m)
destination_of stations (code.Everyone notice) = Everyone notice

abbrev pub seen_outcome : List StationState → OutcomeInCode → Outcome
seen_outcome stations h = record { state = h.state; sent = h.sent; destination = destination_of stations h.destination }
