-- Rows: what is read is spelled so, and what is spelled is read.
use Rattle.std.proofs.Common.{◌≡◌, ℕ, List, ◌++◌, Option, Some, None, Result, Ok, Err, refl, sym, subst, ◌∙◌}
use Rattle.nas_elements.specs.declared.fault.NasFault.{NasFault}
use Rattle.nas_elements.specs.declared.fault.NasFault.TheVariants.{Mandatory, OptionalPart}
use Rattle.nas_elements.specs.declared.rule.Element.{Element}
use Rattle.nas_elements.specs.Faults.{◌>>>◌, mandatory_part, optional_part}
use Rattle.nas_elements.specs.Parts.{Values, read_parts}
use Rattle.nas_elements.specs.Optionals.{elements}
use Rattle.nas_elements.specs.Rows.{Row, firsts, RowValue, SpellsRow, RowFault, LacksElements, read_row}
use Rattle.nas_elements.specs.Exact.{some_of}
use Rattle.nas_elements.specs.PartLaws.{exact_parts}
use Rattle.nas_elements.specs.ElementLaws.{elements_take, elements_again}

pub bound : {A B : Type 0} (r : Result A NasFault) (f : A → Result B NasFault) (y : B) → (r >>> f) ≡ Ok y
    → (x : A) × (r ≡ Ok x) × (f x ≡ Ok y)
bound (Ok x) f y e = (x, refl, e)
bound (Err d) f y e = absurd cc

abbrev pub okay : {A : Type 0} → A → Result A NasFault
okay x = Ok x

pub okay_is : {A : Type 0} (x y : A) → okay x ≡ okay y → x ≡ y
okay_is x y e = cc

mandatory_is : {A : Type 0} (o : Option A) (x : A) → mandatory_part o ≡ Ok x → o ≡ Some x
mandatory_is None x e = absurd cc
mandatory_is (Some a) x e = cc

optional_is : {A : Type 0} (o : Option A) (x : A) → optional_part o ≡ Ok x → o ≡ Some x
optional_is None x e = absurd cc
optional_is (Some a) x e = cc

pub row_takes : (r : Row) (os : List ℕ) (v : RowValue r) → read_row r os ≡ Ok v → SpellsRow r v os
unfolding read_row
row_takes r os v e =
    let f : Values r.parts × List ℕ → Result (RowValue r) NasFault =
    λ x. optional_part (elements r.domain x.1) >>> λ es. Ok (x.0, firsts r.kept es) in
    let a = bound (mandatory_part (read_parts r.parts os)) f v e in
    let g : List (Element (List ℕ)) → Result (RowValue r) NasFault = λ es. Ok (a.0.0, firsts r.kept es) in
    let b = bound (optional_part (elements r.domain a.0.1)) g v a.2 in
    let t = (exact_parts r.parts).takes os a.0.1 a.0.0 (mandatory_is (read_parts r.parts os) a.0 a.1) in
    let found = elements_take r.domain a.0.1 b.0 (optional_is (elements r.domain a.0.1) b.0 b.1) in
    let made : RowValue r = (a.0.0, firsts r.kept b.0) in
    let spelled : SpellsRow r made os =
    record { front = t.taken; rest = a.0.1; found = b.0; whole = t.parts; mandatory = t.spelled; optional = found; kept = refl } in
    subst (λ (w : RowValue r). SpellsRow r w os) (okay_is made v b.2) spelled

pub row_again : (r : Row) (os : List ℕ) (v : RowValue r) → SpellsRow r v os → read_row r os ≡ Ok v
unfolding read_row
row_again r os v m =
    let parts : read_parts r.parts (m.front ++ m.rest) ≡ Some (v.0, m.rest) =
    (exact_parts r.parts).again v.0 m.front m.rest m.mandatory in
    rw (m.whole, parts, elements_again r.domain m.found m.rest m.optional, m.kept) refl

-- ---- faults

abbrev pub failed : {A : Type 0} → NasFault → Result A NasFault
failed f = Err f

abbrev kept_after : (r : Row) → Values r.parts × List ℕ → List (Element (List ℕ)) → Result (RowValue r) NasFault
kept_after r x es = Ok (x.0, firsts r.kept es)

abbrev after : (r : Row) → Values r.parts × List ℕ → Result (RowValue r) NasFault
after r x = optional_part (elements r.domain x.1) >>> kept_after r x

fault_is : {A : Type 0} (f g : NasFault) → failed {A = A} f ≡ failed g → f ≡ g
fault_is f g e = cc

-- the optional part is at fault where a front spells the mandatory part and no elements part the rest
lacks_elements : (r : Row) (os : List ℕ) (x : Values r.parts × List ℕ) → read_parts r.parts os ≡ Some x
    → elements r.domain x.1 ≡ None → LacksElements r os
lacks_elements r os x q none =
    let t = (exact_parts r.parts).takes os x.1 x.0 q in (
      x.0,
      t.taken,
      x.1,
      t.parts,
      t.spelled,
      λ es m. absurd (let some = elements_again r.domain es x.1 m in let never : some_of es ≡ None = sym some ∙ none in cc),
    )

elements_refused : (r : Row) (os : List ℕ) (f : NasFault) (x : Values r.parts × List ℕ) (o : Option (List (Element (List ℕ))))
    → read_parts r.parts os ≡ Some x → elements r.domain x.1 ≡ o
    → (optional_part o >>> kept_after r x) ≡ Err f → RowFault r os f
elements_refused r os f x None q none h =
    subst (λ (g : NasFault). RowFault r os g) (fault_is OptionalPart f h) (lacks_elements r os x q none)
elements_refused r os f x (Some es) q some h = absurd cc

parts_refused : (r : Row) (os : List ℕ) (f : NasFault) (o : Option (Values r.parts × List ℕ)) → read_parts r.parts os ≡ o
    → (mandatory_part o >>> after r) ≡ Err f → RowFault r os f
parts_refused r os f None q h = subst (λ (g : NasFault). RowFault r os g) (fault_is Mandatory f h)
    (λ v front rest whole m. absurd
    (let some : read_parts r.parts os ≡ Some (v, rest) = rw whole ((exact_parts r.parts).again v front rest m) in
    let never : some_of (v, rest) ≡ None = sym some ∙ q in cc))
parts_refused r os f (Some x) q h = elements_refused r os f x (elements r.domain x.1) q refl h

pub row_fault : (r : Row) (os : List ℕ) (f : NasFault) → read_row r os ≡ Err f → RowFault r os f
unfolding read_row
row_fault r os f e = parts_refused r os f (read_parts r.parts os) refl e
