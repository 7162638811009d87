-- Each value of a spelled message is spelled.
use Rattle.std.proofs.Common.{◌≡◌, ℕ, List, not, Option, Some, None, subst}
use Rattle.std.specs.Prelude.{filter}
use Rattle.per_bits.specs.Formats.{Format, Value}
use Rattle.per_bits.specs.Spelling.{SpellsWhole, IfSomeOr}
use Rattle.s1ap_elements.specs.s1ap_causes.NameLaws.{Spelled}
use Rattle.s1ap_rows.specs.Rows.{Rows, ie, end, needed, optional, unkept, Slots, Kept}
use Rattle.s1ap_pdus.specs.Profile.{rows_of}
use Rattle.s1ap_pdus.specs.Typed.{Typed, SpellsTyped}
use Rattle.s1ap_rows.specs.Spelling.{Raw, octets_of, has_id, OfRow, AreElements, IsKept}

abbrev pub SpelledOption : (f : Format) → Option (Value f) → Type 0
SpelledOption f o = IfSomeOr o (Unit {0}) (Spelled f)

abbrev pub AreSpelled : (rs : Rows) → Kept rs → Type 0
AreSpelled end v = Unit {0}
AreSpelled (ie id c needed f rs) v = Spelled f v.0 × AreSpelled rs v.1
AreSpelled (ie id c optional f rs) v = SpelledOption f v.0 × AreSpelled rs v.1
AreSpelled (ie id c unkept f rs) v = AreSpelled rs v

whole_spelled : (f : Format) (v : Value f) (os : List ℕ) → SpellsWhole f v os → Spelled f v
whole_spelled f v os s = (0, s.0, s.2)

option_spelled : (f : Format) (o : Option (Value f)) (es : List Raw) → OfRow f o es → SpelledOption f o
option_spelled f None es m = tt
option_spelled f (Some v) es m = whole_spelled f v (octets_of m.0) m.2

needed_spelled : (f : Format) (o : Option (Value f)) (v : Value f) (es : List Raw) → o ≡ Some v → OfRow f o es → Spelled f v
needed_spelled f o v es e m = option_spelled f (Some v) es (subst (λ (x : Option (Value f)). OfRow f x es) e m)

rows_spelled : (rs : Rows) (slots : Slots rs) (v : Kept rs) (es : List Raw) → AreElements rs slots es → IsKept rs slots v
    → AreSpelled rs v
rows_spelled end slots v es a k = tt
rows_spelled (ie id c needed f rs) slots v es a k = (
  needed_spelled f slots.0 v.0 (filter (has_id id) es) k.0 a.0,
  rows_spelled rs slots.1 v.1 (filter (λ e. not (has_id id e)) es) a.1 k.1,
)
rows_spelled (ie id c optional f rs) slots v es a k = (
  subst (λ (x : Option (Value f)). SpelledOption f x) k.0 (option_spelled f slots.0 (filter (has_id id) es) a.0),
  rows_spelled rs slots.1 v.1 (filter (λ e. not (has_id id e)) es) a.1 k.1,
)
rows_spelled (ie id c unkept f rs) slots v es a k = rows_spelled rs slots.1 v (filter (λ e. not (has_id id e)) es) a.1 k

pub typed_spelled : (m : Typed) (os : List ℕ) → SpellsTyped m os → AreSpelled (rows_of m.0) m.1
typed_spelled m os s = rows_spelled (rows_of m.0) s.3.1 m.1 s.3.0 s.3.3 s.3.4
