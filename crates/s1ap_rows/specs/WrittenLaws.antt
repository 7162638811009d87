-- What is written of a message spells it: the elements of the rows in their order.
use Rattle.std.proofs.Common.{◌≡◌, ℕ, ◌+◌, Bool, true, false, eqb, not, ◌||◌, List, [], ◌∷◌, length, Option, Some, None, Ok, refl, sym, ap, subst, ◌∙◌, arith}
use Rattle.std.specs.Prelude.{filter}
use Rattle.std.proofs.lemmas.Bool.{and_parts, eq-eqb}
use Rattle.std.proofs.lemmas.List.{append-nil}
use Rattle.per_streams.specs.Bits.{◌>>=◌, padded}
use Rattle.per_bits.specs.Formats.{Format, Value, open_type, raw}
use Rattle.per_bits.specs.Spelling.{SpellsWhole}
use Rattle.per_bits.specs.Writing.{write_at, write_each, write_element, write_string, write_whole, complete_write}
use Rattle.per_streams.specs.Writing.{write_number}
use Rattle.per_streams.specs.BitLaws.{bind_ok}
use Rattle.per_bits.specs.WritingLaws.{complete_written}
use Rattle.s1ap_rows.specs.Criticalities.{criticality_number}
use Rattle.s1ap_rows.specs.Rows.{Rows, ie, end, needed, optional, unkept, Slots, Kept, has_row, are_distinct}
use Rattle.s1ap_rows.specs.Spelling.{Raw, id_of, octets_of, has_id, OfRow, AreElements, IsKept, message, IsMessage}
use Rattle.s1ap_rows.specs.Writing.{count_of, write_rows, write_message}

-- ---- the elements that are written

-- an element that holds the value of a row
abbrev Holds : ℕ → (f : Format) → Value f → Raw → Type 0
Holds id f v e = (id_of e ≡ id) × SpellsWhole f v (octets_of e)

abbrev pub AreWritten : (rs : Rows) → Kept rs → List Raw → Type 0
AreWritten end v es = es ≡ []
AreWritten (ie id c needed f rs) v es = (e : Raw) × (more : List Raw) × (es ≡ e ∷ more) × Holds id f v.0 e × AreWritten rs v.1 more
AreWritten (ie id c optional f rs) (None, v) es = AreWritten rs v es
AreWritten (ie id c optional f rs) (Some x, v) es =
    (e : Raw) × (more : List Raw) × (es ≡ e ∷ more) × Holds id f x e × AreWritten rs v more
AreWritten (ie id c unkept f rs) v es = AreWritten rs v es

raw_written : (out a b new : List Bool) (id c : ℕ) (os : List ℕ) → write_number 0 65535 id out ≡ Ok a → write_number 0 2 c a ≡ Ok b
    → write_string os b ≡ Ok new → write_at raw (id, (c, (os, tt))) out ≡ Ok new
raw_written out a b new id c os p q r = rw (append-nil out, p, q, r) refl

record Written (id : ℕ) (f : Format) (v : Value f) (out new : List Bool) : Type 0 where
  e : Raw
  holds : Holds id f v e
  same : write_at raw e out ≡ Ok new

element_written : (id n : ℕ) (f : Format) (v : Value f) (out new : List Bool) → write_element id n f v out ≡ Ok new
    → Written id f v out new
element_written id n f v out new h =
    let a =
    bind_ok (write_number 0 65535 id out) (λ a. write_number 0 2 n a >>= λ b. write_at (open_type f) v b) new h in
    let b = bind_ok (write_number 0 2 n a.0) (λ b. write_at (open_type f) v b) new a.2 in
    let o = bind_ok (complete_write f v) (λ os. write_string os b.0) new b.2 in
    record {
      e = (id, (n, (o.0, tt)));
      holds = (refl, complete_written f v o.0 o.1);
      same = raw_written out a.0 b.0 new id n o.0 a.1 b.1 o.2;
    }

record Elements (rs : Rows) (v : Kept rs) (n : ℕ) (out new : List Bool) : Type 0 where
  es : List Raw
  written : AreWritten rs v es
  count : count_of rs v n ≡ n + length es
  same : write_each (write_at raw) es out ≡ Ok new

more_written : (e : Raw) (es : List Raw) (out mid new : List Bool) → write_at raw e out ≡ Ok mid
    → write_each (write_at raw) es mid ≡ Ok new → write_each (write_at raw) (e ∷ es) out ≡ Ok new
unfolding write_each
more_written e es out mid new p q = rw (p, q) refl

one_more : (n m : ℕ) (e : Raw) (es : List Raw) → m ≡ (n + 1) + length es → m ≡ n + length (e ∷ es)
one_more n m e es h = omega (arith, h)

rows_written : (rs : Rows) (v : Kept rs) (n : ℕ) (out new : List Bool) → write_rows rs v out ≡ Ok new → Elements rs v n out new
unfolding write_each
rows_written end v n out new h = record { es = []; written = refl; count = omega arith; same = h }
rows_written (ie id c needed f rs) v n out new h =
    let a = bind_ok (write_element id (criticality_number c) f v.0 out) (λ first. write_rows rs v.1 first) new h in
    let w = element_written id (criticality_number c) f v.0 out a.0 a.1 in
    let k = rows_written rs v.1 (n + 1) a.0 new a.2 in
    record {
      es = w.e ∷ k.es;
      written = (w.e, k.es, refl, w.holds, k.written);
      count = one_more n _ w.e k.es k.count;
      same = more_written w.e k.es out a.0 new w.same k.same;
    }
rows_written (ie id c optional f rs) (None, v) n out new h =
    let k = rows_written rs v (n + 0) out new h in
    record { es = k.es; written = k.written; count = (let q = k.count in omega (arith, q)); same = k.same }
rows_written (ie id c optional f rs) (Some x, v) n out new h =
    let a = bind_ok (write_element id (criticality_number c) f x out) (λ first. write_rows rs v first) new h in
    let w = element_written id (criticality_number c) f x out a.0 a.1 in
    let k = rows_written rs v (n + 1) a.0 new a.2 in
    record {
      es = w.e ∷ k.es;
      written = (w.e, k.es, refl, w.holds, k.written);
      count = one_more n _ w.e k.es k.count;
      same = more_written w.e k.es out a.0 new w.same k.same;
    }
rows_written (ie id c unkept f rs) v n out new h =
    let k = rows_written rs v n out new h in
    record { es = k.es; written = k.written; count = k.count; same = k.same }

-- ---- they are the rows' elements, since the ids of rows differ

abbrev AllOther : ℕ → List Raw → Type 0
AllOther id [] = Unit {0}
AllOther id (e ∷ es) = (has_id id e ≡ false) × AllOther id es

none_left : (id : ℕ) (es : List Raw) → AllOther id es → filter (has_id id) es ≡ []
none_left id [] h = refl
none_left id (e ∷ es) h = rw h.0 (none_left id es h.1)

all_left : (id : ℕ) (es : List Raw) → AllOther id es → filter (λ e. not (has_id id e)) es ≡ es
all_left id [] h = refl
all_left id (e ∷ es) h = rw h.0 (ap (λ (l : List Raw). e ∷ l) (all_left id es h.1))

or_parts : (a b : Bool) → (a || b) ≡ false → (a ≡ false) × (b ≡ false)
or_parts false b h = (refl, h)
or_parts true b h = absurd cc

all_other : (rs : Rows) (v : Kept rs) (es : List Raw) (id : ℕ) → has_row id rs ≡ false → AreWritten rs v es → AllOther id es
all_other end v es id h w = subst (λ (l : List Raw). AllOther id l) (sym w) tt
all_other (ie i c needed f rs) v es id h w =
    let p = or_parts (eqb i id) (has_row id rs) h in
    subst (λ (l : List Raw). AllOther id l) (sym w.2) (ap (λ (n : ℕ). eqb n id) w.3.0 ∙ p.0, all_other rs v.1 w.1 id p.1 w.4)
all_other (ie i c optional f rs) (None, v) es id h w = all_other rs v es id (or_parts (eqb i id) (has_row id rs) h).1 w
all_other (ie i c optional f rs) (Some x, v) es id h w =
    let p = or_parts (eqb i id) (has_row id rs) h in
    subst (λ (l : List Raw). AllOther id l) (sym w.2) (ap (λ (n : ℕ). eqb n id) w.3.0 ∙ p.0, all_other rs v w.1 id p.1 w.4)
all_other (ie i c unkept f rs) v es id h w = all_other rs v es id (or_parts (eqb i id) (has_row id rs) h).1 w

abbrev slots_of : (rs : Rows) → Kept rs → Slots rs
slots_of end v = tt
slots_of (ie id c needed f rs) v = (Some v.0, slots_of rs v.1)
slots_of (ie id c optional f rs) v = (v.0, slots_of rs v.1)
slots_of (ie id c unkept f rs) v = (None, slots_of rs v)

slots_kept : (rs : Rows) (v : Kept rs) → IsKept rs (slots_of rs v) v
slots_kept end v = tt
slots_kept (ie id c needed f rs) v = (refl, slots_kept rs v.1)
slots_kept (ie id c optional f rs) v = (refl, slots_kept rs v.1)
slots_kept (ie id c unkept f rs) v = slots_kept rs v

abbrev RowElements : (id : ℕ) (f : Format) (rs : Rows) → Option (Value f) → Slots rs → List Raw → Type 0
RowElements id f rs o slots es = OfRow f o (filter (has_id id) es) × AreElements rs slots (filter (λ e. not (has_id id e)) es)

with_one : (id : ℕ) (f : Format) (rs : Rows) (v : Value f) (slots : Slots rs) (e : Raw) (es : List Raw) → Holds id f v e
    → AllOther id es → AreElements rs slots es → RowElements id f rs (Some v) slots (e ∷ es)
with_one id f rs v slots e es h o a =
    let own : has_id id e ≡ true = eq-eqb (id_of e) id h.0 in
    let ours : filter (has_id id) (e ∷ es) ≡ e ∷ [] = rw (own, none_left id es o) refl in
    let others : filter (λ x. not (has_id id x)) (e ∷ es) ≡ es = rw (own, all_left id es o) refl in (
      subst (λ (l : List Raw). OfRow f (Some v) l) (sym ours) (e, refl, h.1),
      subst (λ (l : List Raw). AreElements rs slots l) (sym others) a,
    )

with_none : (id : ℕ) (f : Format) (rs : Rows) (slots : Slots rs) (es : List Raw) → AllOther id es → AreElements rs slots es
    → RowElements id f rs None slots es
with_none id f rs slots es o a = (none_left id es o, subst (λ (l : List Raw). AreElements rs slots l) (sym (all_left id es o)) a)

not_false : (b : Bool) → not b ≡ true → b ≡ false
not_false false h = refl
not_false true h = absurd cc

elements_are : (rs : Rows) (v : Kept rs) (es : List Raw) → are_distinct rs ≡ true → AreWritten rs v es
    → AreElements rs (slots_of rs v) es
elements_are end v es d w = subst (λ (l : List Raw). AreElements end tt l) (sym w) tt
elements_are (ie id c needed f rs) v es d w =
    let p = and_parts (not (has_row id rs)) (are_distinct rs) d in
    subst (λ (l : List Raw). RowElements id f rs (Some v.0) (slots_of rs v.1) l) (sym w.2)
    (with_one id f rs v.0 (slots_of rs v.1) w.0 w.1 w.3 (all_other rs v.1 w.1 id (not_false _ p.0) w.4)
    (elements_are rs v.1 w.1 p.1 w.4))
elements_are (ie id c optional f rs) (None, v) es d w =
    let p = and_parts (not (has_row id rs)) (are_distinct rs) d in
    with_none id f rs (slots_of rs v) es (all_other rs v es id (not_false _ p.0) w) (elements_are rs v es p.1 w)
elements_are (ie id c optional f rs) (Some x, v) es d w =
    let p = and_parts (not (has_row id rs)) (are_distinct rs) d in
    subst (λ (l : List Raw). RowElements id f rs (Some x) (slots_of rs v) l) (sym w.2)
    (with_one id f rs x (slots_of rs v) w.0 w.1 w.3 (all_other rs v w.1 id (not_false _ p.0) w.4) (elements_are rs v w.1 p.1 w.4))
elements_are (ie id c unkept f rs) v es d w =
    let p = and_parts (not (has_row id rs)) (are_distinct rs) d in
    with_none id f rs (slots_of rs v) es (all_other rs v es id (not_false _ p.0) w) (elements_are rs v es p.1 w)

-- ---- the message

message_same : (es : List Raw) (counted new : List Bool) → write_number 0 65535 (length es) (false ∷ []) ≡ Ok counted
    → write_each (write_at raw) es counted ≡ Ok new → write_at message (es, tt) [] ≡ Ok new
message_same es counted new p q = rw (p, q) refl

pub message_written : (rs : Rows) (v : Kept rs) (os : List ℕ) → are_distinct rs ≡ true → write_whole (write_message rs) v ≡ Ok os
    → IsMessage rs v os
message_written rs v os d h =
    let m = bind_ok (write_message rs v []) (λ bs. Ok (padded bs)) os h in
    let c = bind_ok (write_number 0 65535 (count_of rs v 0) (false ∷ [])) (λ counted. write_rows rs v counted) m.0 m.1 in
    let k = rows_written rs v 0 c.0 m.0 c.2 in
    let counted : length k.es ≡ count_of rs v 0 = (let q = k.count in omega (arith, q)) in
    let same : write_at message (k.es, tt) [] ≡ Ok m.0 =
    message_same k.es c.0 m.0 (ap (λ (n : ℕ). write_number 0 65535 n (false ∷ [])) counted ∙ c.1) k.same in
    let whole : complete_write message (k.es, tt) ≡ Ok os = rw same m.2 in
    (k.es, slots_of rs v, complete_written message (k.es, tt) os whole, elements_are rs v k.es d k.written, slots_kept rs v)
