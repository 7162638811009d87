use Rattle.s1ap_rows.specs.declared.fault.S1apFault.TheVariants.{NoMemory}
use Rattle.laws_codecs.proofs.Frames.{fault_is_named}
use Rattle.laws_codecs.proofs.s1ap.no_memory_is_no_fault.Goals as goal

pub returns : goal.returns
returns c os h = fault_is_named os NoMemory h
