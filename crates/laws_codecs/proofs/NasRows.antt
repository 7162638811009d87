-- A fault that octets have after a message's type is what reading its row answers.
use Rattle.std.proofs.Common.{◌≡◌, ℕ, List, Option, Some, None, Result, Err, refl, ◌∙◌, ap}
use Rattle.nas_elements.specs.declared.fault.NasFault.{NasFault}
use Rattle.nas_elements.specs.declared.fault.NasFault.TheVariants.{TooShort, Mandatory, UnknownType, OptionalPart, NoMemory}
use Rattle.nas_elements.specs.declared.rule.Element.{Element}
use Rattle.nas_elements.specs.Parts.{Values, read_parts}
use Rattle.nas_elements.specs.Optionals.{elements}
use Rattle.nas_elements.specs.PartLaws.{exact_parts}
use Rattle.nas_elements.specs.ElementLaws.{elements_take}
use Rattle.nas_elements.specs.Rows.{Row, RowFault, LacksMandatory, LacksElements, read_row}

-- no front spells the mandatory part, so none is read
no_parts : (r : Row) (os : List ℕ) (o : Option (Values r.parts × List ℕ)) → read_parts r.parts os ≡ o → LacksMandatory r os
    → read_row r os ≡ Err Mandatory
unfolding read_row
no_parts r os None q lacks = rw q refl
no_parts r os (Some x) q lacks =
    let t = (exact_parts r.parts).takes os x.1 x.0 q in absurd (lacks x.0 t.taken x.1 t.parts t.spelled)

-- no elements part what follows the mandatory part, so none are read
no_elements : (r : Row) (os : List ℕ) (h : LacksElements r os) (o : Option (List (Element (List ℕ)))) → elements r.domain h.2 ≡ o
    → read_row r os ≡ Err OptionalPart
unfolding read_row
no_elements r os h None q =
    let parts : read_parts r.parts os ≡ Some (h.0, h.2) = ap (read_parts r.parts) h.3 ∙ (exact_parts r.parts).again h.0 h.1 h.2 h.4 in
    rw (parts, q) refl
no_elements r os h (Some es) q = absurd (h.5 es (elements_take r.domain h.2 es q))

pub row_named : (r : Row) (os : List ℕ) (f : NasFault) → RowFault r os f → read_row r os ≡ Err f
row_named r os TooShort h = absurd h
row_named r os Mandatory h = no_parts r os (read_parts r.parts os) refl h
row_named r os UnknownType h = absurd h
row_named r os OptionalPart h = no_elements r os h (elements r.domain h.2) refl
row_named r os NoMemory h = absurd h
