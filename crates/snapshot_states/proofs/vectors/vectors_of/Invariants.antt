use Rattle.std.proofs.Common.{◌≡◌, map, take, true}
use Rattle.std.specs.List.{list_all}
use Rattle.snapshot_formats.specs.Subscribers.{typed_saved_vector}
use Rattle.snapshot_states.specs.Fit.{fits_vector}
use Rattle.snapshot_states.specs.States.{named_vector}
use Rattle.snapshot_states.proofs.vectors.vectors_of.Given as goal

abbrev pub invariant-loop-saved : goal.invariant-loop-saved
invariant-loop-saved l = record {
  made : l.vectors.items ≡ map named_vector (map typed_saved_vector (take l.saved-index l.saved));
  fit : list_all fits_vector (map typed_saved_vector (take l.saved-index l.saved)) ≡ true;
}
