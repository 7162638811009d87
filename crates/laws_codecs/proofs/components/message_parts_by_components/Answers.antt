use Rattle.laws_codecs.proofs.MessageParts.{frame_fault, head_fault, tail_fault}
use Rattle.laws_codecs.proofs.components.message_parts_by_components.Goals as goal

pub returns-clause-frame : goal.returns-clause-frame
returns-clause-frame c = frame_fault

pub returns-clause-head : goal.returns-clause-head
returns-clause-head c = head_fault

pub returns-clause-tail : goal.returns-clause-tail
returns-clause-tail c = tail_fault
