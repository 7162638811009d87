use Rattle.s1ap_pdus.specs.Pdus.{lists, typed}
use Rattle.s1ap_pdus.proofs.LengthLaws.{typed_short}
use Rattle.s1ap_pdus.proofs.codec.encode.Goals as goal

pub returns-in-Ok-clause-short : goal.returns-in-Ok-clause-short
returns-in-Ok-clause-short c = typed_short (typed (lists c.args.message.now)) c.in-Ok.octets.items c.in-Ok.ensures
