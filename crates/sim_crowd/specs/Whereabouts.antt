-- Where phones are: at a station by an eNB UE id, and by which associations.
use Rattle.std.specs.Prelude.{◌&&◌, ◌==◌, Bool, false, Option, Some, None}
use Rattle.enb_sim.specs.Delivering.{is_pair, pair_with}
use Rattle.trace_words.specs.declared.act.RadioPlace.{RadioPlace}
use Rattle.sim_crowd.specs.declared.whereabouts.Connection.{Connection}
use Rattle.sim_crowd.specs.declared.whereabouts.Standing.{Standing}

-- a phone that was nowhere yet
abbrev pub standing_nowhere : Standing
standing_nowhere = record { place = None; connection = None; awaited = None }

-- where a phone with an association is
abbrev pub place_with : Connection → RadioPlace
place_with k = record { station = k.station; enb_ue_id = k.pair.enb_ue_id }

abbrev pub same_place : RadioPlace → RadioPlace → Bool
same_place a b = a.station == b.station && a.enb_ue_id == b.enb_ue_id

abbrev pub same_connection : Connection → Connection → Bool
same_connection a b = a.station == b.station && is_pair a.pair b.pair

-- an association that may be none is this one
abbrev pub is_connection : Connection → Option Connection → Bool
is_connection k None = false
is_connection k (Some l) = same_connection l k

-- a phone that has this association alone
abbrev pub standing_with : Connection → Standing
standing_with k = record { place = Some (place_with k); connection = Some k; awaited = None }

-- a phone that came to a place
abbrev pub standing_at : RadioPlace → Standing → Standing
standing_at place s = record s { place = Some place }

-- the association of a phone whose path moved to a place: the same of the MME, and the eNB UE id there
abbrev pub moved_to : RadioPlace → Connection → Connection
moved_to place k = record { station = place.station; pair = pair_with k.pair.mme_ue_id place.enb_ue_id }
