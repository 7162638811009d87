use Rattle.laws_codecs.proofs.Frames.{fault_is_named}
use Rattle.laws_codecs.proofs.s1ap.s1ap_fault_is_named.Goals as goal

pub returns : goal.returns
returns c = fault_is_named
