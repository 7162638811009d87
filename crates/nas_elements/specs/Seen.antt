-- What a function of the code returned, without where it lies in memory.
use Rattle.std.specs.Prelude.{ℕ, List, Option, Some, None}
use Rattle.std.specs.Borrow.{Bor}
use Rattle.nas_elements.specs.declared.rule.Element.{Element}

-- a value and the octets after it
abbrev pub at : {X Y : Type 0} → (X → Y) → Option (X × Bor (List ℕ)) → Option (Y × List ℕ)
at view None = None
at view (Some x) = Some (view x.0, x.1.now)

abbrev pub octets_of : Option (Bor (List ℕ)) → Option (List ℕ)
octets_of None = None
octets_of (Some os) = Some os.now

abbrev pub element_of : Element (Bor (List ℕ)) → Element (List ℕ)
element_of e = record { iei = e.iei; octets = e.octets.now }
