use Rattle.laws_codecs.proofs.Frames.{named_is_fault}
use Rattle.laws_codecs.proofs.s1ap.named_is_s1ap_fault.Goals as goal

pub returns : goal.returns
returns c = named_is_fault
