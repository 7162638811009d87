use Rattle.std.proofs.Common.{List, sym, ◌∙◌, ap}
use Rattle.mme_types.specs.declared.stations.StationState.TheVariants.{Ready}
use Rattle.s1ap_elements.specs.declared.station.SupportedTa.{SupportedTa}
use Rattle.s1ap_elements.specs.StationLaws.{supported_tas_again}
use Rattle.snapshot_formats.specs.Heads.{typed_saved_station}
use Rattle.snapshot_formats.specs.declared.head.SavedStation.{SavedStation}
use Rattle.mme_snapshot.specs.Images.{named_station}
use Rattle.mme_snapshot.proofs.parts.station_of.Goals as goal

pub returns-in-Ready : goal.returns-in-Ready
returns-in-Ready c =
    ap (λ (tas : List SupportedTa). Ready tas) (sym (supported_tas_again c.in-Ready.areas))
    ∙ ap (λ (s : SavedStation). named_station (typed_saved_station s)) (sym c.in-Ready.is)
