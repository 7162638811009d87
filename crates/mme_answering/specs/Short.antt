-- How long messages are.
use Rattle.std.specs.Prelude.{◌≤◌, List, [], ◌∷◌, length}
use Rattle.s1ap_pdus.specs.Pdus.{longest}
use Rattle.mme_answering.specs.declared.out.Out.{Out}

-- none is longer than an S1AP message can be, 16388 octets
abbrev pub AreShort : List Out → Type 0
AreShort [] = Unit {0}
AreShort (o ∷ os) = (length o.octets ≤ longest) × AreShort os
