-- Two traces that are the same to an owner.
use Rattle.std.proofs.Common.{◌≡◌, ℕ, List, length, map, None, refl, sym, ap, ◌∙◌, arith}
use Rattle.identity_slots.specs.Ids.{stranger_id}
use Rattle.mme_types.specs.declared.stations.StationState.{StationState}
use Rattle.mme_types.specs.Stations.{no_stations, station_at}
use Rattle.mme_answering.specs.declared.out.Owner.TheVariants.{Station, Stranger, Subscriber}
use Rattle.mme_core.specs.Laws.{SameToSlot}
use Rattle.mme_core.specs.World.{World, strangers_in}
use Rattle.laws_mme.specs.Same.{SameToStation, SameToStranger}
use Rattle.trace_progress.specs.Text.{played_of}
use Rattle.laws_simulation.specs.OwnLines.{SameSlotIsPrinted, SameStationIsPrinted, SameStrangerIsPrinted, SlotIsPrinted, StationIsPrinted, StrangerIsPrinted}
use Rattle.laws_simulation.specs.Printed.{told_line}
use Rattle.laws_simulation.specs.TraceRuns.{Run}
use Rattle.laws_simulation.proofs.BegunRuns.{IsRunOf, run_printed}

pub same_slot_is_printed : SlotIsPrinted → SameToSlot → SameSlotIsPrinted
same_slot_is_printed prints same octets others run other slot x is other_is there other_there busy =
    prints octets run slot x is there
    ∙ ap (map (told_line (Subscriber slot))) (same slot run.mme.sight other.mme.sight (strangers_in run.mme) (strangers_in other.mme) run.events other.events x busy).0
    ∙ sym (prints others other slot x other_is other_there)

pub same_stranger_is_printed : StrangerIsPrinted → SameToStranger → SameStrangerIsPrinted
same_stranger_is_printed prints same octets others run other e enb_ue_id is other_is low less profiles busy =
    let id = stranger_id e enb_ue_id in
    prints octets run e enb_ue_id is low less
    ∙ ap (map (told_line (Stranger id))) (same id run.mme.sight other.mme.sight None run.events other.events profiles busy).0
    ∙ sym (prints others other e enb_ue_id other_is low less)

all_stations : length no_stations ≡ 128
unfolding no_stations
all_stations = refl

-- no station is up where a run begins
down_first : (octets : List ℕ) (run : Run) → IsRunOf run (played_of octets) → run.mme.sight.stations ≡ no_stations
down_first octets run r = ap (λ (w : World). w.sight.stations) r.fresh

pub same_station_is_printed : StationIsPrinted → SameToStation → SameStationIsPrinted
same_station_is_printed prints same octets others run other e is other_is low network profiles events =
    let first = down_first octets run (run_printed octets run is) in
    let second = down_first others other (run_printed others other other_is) in
    let many = ap (λ (s : List StationState). length s) first ∙ all_stations in
    let other_many = ap (λ (s : List StationState). length s) second ∙ all_stations in
    prints octets run e is low
    ∙ ap (map (told_line (Station e))) (same e run.mme.sight other.mme.sight run.events other.events (record {
      network = network;
      profiles = profiles;
      state = ap (λ (s : List StationState). station_at s e) (first ∙ sym second);
      there = omega (arith, low, many);
      there_too = omega (arith, low, other_many);
    }) events).0
    ∙ sym (prints others other e other_is low)
