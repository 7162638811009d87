-- One message more.
use Rattle.std.proofs.Common.{◌≤◌, List, [], ◌∷◌, ◌++◌, length}
use Rattle.s1ap_pdus.specs.Pdus.{longest}
use Rattle.mme_answering.specs.declared.out.Out.{Out}
use Rattle.mme_answering.specs.Short.{AreShort}

pub short_push : (os : List Out) (o : Out) → AreShort os → length o.octets ≤ longest → AreShort (os ++ o ∷ [])
short_push [] o h short = (short, tt)
short_push (x ∷ os) o h short = (h.0, short_push os o h.1 short)
