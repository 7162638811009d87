use Rattle.std.proofs.Common.{◌∙◌, List, ap, sym}
use Rattle.s1ap_elements.specs.declared.station.SupportedTa.{SupportedTa}
use Rattle.s1ap_elements.specs.StationLaws.{supported_tas_again}
use Rattle.per_bits.specs.WritingLaws.{complete_written}
use Rattle.mme_types.specs.declared.stations.StationState.TheVariants.{Ready}
use Rattle.snapshot_formats.specs.Formats.{saved_station}
use Rattle.snapshot_formats.specs.Heads.{typed_saved_station}
use Rattle.snapshot_formats.specs.declared.head.SavedStation.TheVariants as saved
use Rattle.mme_snapshot.proofs.stored.station_octets.Goals as goal

pub returns-in-Ok : goal.returns-in-Ok
returns-in-Ok c = (
  typed_saved_station (saved.Ready c.in-Ready.areas),
  ap (λ (tas : List SupportedTa). Ready tas) (supported_tas_again c.in-Ready.areas) ∙ sym c.in-Ready.is,
  complete_written saved_station (typed_saved_station (saved.Ready c.in-Ready.areas)) c.in-Ok.octets.items c.in-Ok.ensures,
)
