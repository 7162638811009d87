-- A message is written exactly where it is writable.
use Rattle.std.proofs.Common.{◌≡◌, ℕ, ◌+◌, ◌&&◌, Bool, true, false, cond, List, [], ◌∷◌, ◌++◌, length, Some, None, Result, Ok, Err, refl, sym, ap, ◌∙◌, arith}
use Rattle.std.proofs.lemmas.List.{append-nil}
use Rattle.per_streams.specs.declared.fault.PerFault.{PerFault}
use Rattle.per_streams.specs.declared.fault.PerFault.TheVariants.{Range}
use Rattle.per_streams.specs.Bits.{◌>>=◌, padded}
use Rattle.per_bits.specs.Formats.{Format, Value, number, octet_string, open_type, raw}
use Rattle.per_bits.specs.Writing.{write_at, write_each, write_element, write_string, write_whole, complete_write}
use Rattle.per_streams.specs.Writing.{write_number}
use Rattle.per_bits.specs.Written.{number_fits, string_fits, written, writable}
use Rattle.per_bits.proofs.WrittenLaws.{put_if, writes, whole_written}
use Rattle.s1ap_rows.specs.declared.criticality.Criticality.{Criticality}
use Rattle.s1ap_rows.specs.Criticalities.{criticality_number}
use Rattle.s1ap_rows.specs.Rows.{Rows, ie, end, needed, optional, unkept, Kept}
use Rattle.s1ap_rows.specs.Spelling.{Raw, message}
use Rattle.s1ap_rows.specs.Writing.{count_of, write_rows, write_message, write_frame, write_pdu}
use Rattle.s1ap_rows.specs.Writable.{raw_of, elements_of, values_fit, message_fits}

abbrev Bits : Type 0
Bits = List Bool

abbrev Out : Type 0
Out = Result (List Bool) PerFault

abbrev range : Out
range = Err Range

-- ---- steps one after the other

same_then : (r : Out) (k l : Bits → Out) → ((a : Bits) → k a ≡ l a) → (r >>= k) ≡ (r >>= l)
same_then (Ok a) k l h = h a
same_then (Err e) k l h = refl

ends_well : (r : Out) → (r >>= λ a. Ok a) ≡ r
ends_well (Ok a) = refl
ends_well (Err e) = refl

range_follows : (b : Bool) (out xs : Bits) (k : Bits → Out) → ((mid : Bits) → k mid ≡ range) → (put_if b out xs >>= k) ≡ range
range_follows true out xs k h = h (out ++ xs)
range_follows false out xs k h = refl

-- writing goes on, or is out of range as what stands after it
at_then : (f : Format) (v : Value f) (out : Bits) (k : Bits → Out) → ((mid : Bits) → k mid ≡ range)
    → (write_at f v out >>= k) ≡ range
at_then f v out k h = ap (λ (r : Out). r >>= k) (writes f v out) ∙ range_follows (writable f v) out (written f v (length out)) k h

-- ---- an element

raw_at : (id c : ℕ) (os : List ℕ) (out : Bits)
    → write_at raw (id, (c, (os, tt))) out ≡ (write_number 0 65535 id out >>= λ a. write_number 0 2 c a >>= λ b. write_string os b)
raw_at id c os out =
    rw (append-nil out)
    (same_then (write_number 0 65535 id out) (λ a. write_number 0 2 c a >>= λ b. write_string os b >>= λ d. Ok d)
    (λ a. write_number 0 2 c a >>= λ b. write_string os b)
    (λ a. same_then (write_number 0 2 c a) (λ b. write_string os b >>= λ d. Ok d) (λ b. write_string os b)
    (λ b. ends_well (write_string os b))))

complete_is : (f : Format) (v : Value f) → complete_write f v ≡ cond (writable f v) (Ok (padded (written f v 0))) (Err Range)
complete_is f v = whole_written (write_at f) v (writable f v) (written f v 0) (writes f v [])

open_is : (b : Bool) (f : Format) (v : Value f) (out : Bits) → writable f v ≡ b
    → write_at (open_type f) v out ≡ cond b (write_string (padded (written f v 0)) out) range
open_is true f v out e = rw (complete_is f v, e) refl
open_is false f v out e = rw (complete_is f v, e) refl

element_if : (b : Bool) (id : ℕ) (c : Criticality) (f : Format) (v : Value f) (out : Bits) → writable f v ≡ b
    → write_element id (criticality_number c) f v out ≡ cond b (write_at raw (raw_of id c f v) out) range
element_if true id c f v out e =
    let n = criticality_number c in
    let os = padded (written f v 0) in
    same_then (write_number 0 65535 id out) (λ a. write_number 0 2 n a >>= λ b. write_at (open_type f) v b)
    (λ a. write_number 0 2 n a >>= λ b. write_string os b)
    (λ a. same_then (write_number 0 2 n a) (λ b. write_at (open_type f) v b) (λ b. write_string os b) (λ b. open_is true f v b e))
    ∙ sym (raw_at id n os out)
element_if false id c f v out e =
    let n = criticality_number c in
    at_then (number 0 65535) id out (λ a. write_number 0 2 n a >>= λ b. write_at (open_type f) v b)
    (λ a. at_then (number 0 2) n a (λ b. write_at (open_type f) v b) (λ b. open_is false f v b e))

-- ---- the rows

first_then : (b w : Bool) (e : Raw) (es : List Raw) (r : Out) (k : Bits → Out) (out : Bits) → r ≡ cond b (write_at raw e out) range
    → ((mid : Bits) → k mid ≡ cond w (write_each (write_at raw) es mid) range)
    → (r >>= k) ≡ cond (b && w) (write_each (write_at raw) (e ∷ es) out) range
unfolding write_each
first_then false w e es r k out p h = ap (λ (q : Out). q >>= k) p
first_then true true e es r k out p h =
    ap (λ (q : Out). q >>= k) p ∙ same_then (write_at raw e out) k (λ mid. write_each (write_at raw) es mid) h
first_then true false e es r k out p h = ap (λ (q : Out). q >>= k) p ∙ at_then raw e out k h

rows_if : (rs : Rows) (v : Kept rs) (out : Bits)
    → write_rows rs v out ≡ cond (values_fit rs v) (write_each (write_at raw) (elements_of rs v) out) range
unfolding write_each
rows_if end v out = refl
rows_if (ie id c needed f rs) v out =
    first_then (writable f v.0) (values_fit rs v.1) (raw_of id c f v.0) (elements_of rs v.1)
    (write_element id (criticality_number c) f v.0 out)
    (λ first. write_rows rs v.1 first) out (element_if (writable f v.0) id c f v.0 out refl) (λ mid. rows_if rs v.1 mid)
rows_if (ie id c optional f rs) (None, v) out = rows_if rs v out
rows_if (ie id c optional f rs) (Some x, v) out =
    first_then (writable f x) (values_fit rs v) (raw_of id c f x) (elements_of rs v)
    (write_element id (criticality_number c) f x out)
    (λ first. write_rows rs v first) out (element_if (writable f x) id c f x out refl) (λ mid. rows_if rs v mid)
rows_if (ie id c unkept f rs) v out = rows_if rs v out

count_is : (rs : Rows) (v : Kept rs) (n : ℕ) → count_of rs v n ≡ n + length (elements_of rs v)
count_is end v n = omega arith
count_is (ie id c needed f rs) v n = let k = count_is rs v.1 (n + 1) in omega (arith, k)
count_is (ie id c optional f rs) (None, v) n = let k = count_is rs v (n + 0) in omega (arith, k)
count_is (ie id c optional f rs) (Some x, v) n = let k = count_is rs v (n + 1) in omega (arith, k)
count_is (ie id c unkept f rs) v n = count_is rs v n

-- ---- the message

message_is : (es : List Raw) (out : Bits)
    → write_at message (es, tt) out ≡ (write_number 0 65535 (length es) (out ++ false ∷ []) >>= λ c. write_each (write_at raw) es c)
message_is es out = ends_well (write_number 0 65535 (length es) (out ++ false ∷ []) >>= λ c. write_each (write_at raw) es c)

counted : (b : Bool) (n : ℕ) (es : List Raw) (out : Bits) (k : Bits → Out)
    → ((mid : Bits) → k mid ≡ cond b (write_each (write_at raw) es mid) range)
    → (write_number 0 65535 n out >>= k) ≡ cond b (write_number 0 65535 n out >>= λ c. write_each (write_at raw) es c) range
counted true n es out k h = same_then (write_number 0 65535 n out) k (λ c. write_each (write_at raw) es c) h
counted false n es out k h = at_then (number 0 65535) n out k h

message_if : (rs : Rows) (v : Kept rs) (out : Bits)
    → write_message rs v out ≡ cond (values_fit rs v) (write_at message (elements_of rs v, tt) out) range
message_if rs v out =
    let es = elements_of rs v in
    let n : count_of rs v 0 ≡ length es = let k = count_is rs v 0 in omega (arith, k) in
    ap (λ (n : ℕ). write_number 0 65535 n (out ++ false ∷ []) >>= λ c. write_rows rs v c) n
    ∙ counted (values_fit rs v) (length es) es (out ++ false ∷ []) (λ c. write_rows rs v c) (λ mid. rows_if rs v mid)
    ∙ ap (λ (r : Out). cond (values_fit rs v) r range) (sym (message_is es out))

put_both : (a b : Bool) (out xs : Bits) → cond a (put_if b out xs) range ≡ put_if (a && b) out xs
put_both true b out xs = refl
put_both false b out xs = refl

whole_if : (rs : Rows) (v : Kept rs)
    → write_whole (write_message rs) v
    ≡ cond (values_fit rs v && writable message (elements_of rs v, tt)) (Ok (padded (written message (elements_of rs v, tt) 0)))
    (Err Range)
whole_if rs v =
    let es = elements_of rs v in
    let bits = written message (es, tt) 0 in
    whole_written (write_message rs) v (values_fit rs v && writable message (es, tt)) bits
    (message_if rs v [] ∙ ap (λ (r : Out). cond (values_fit rs v) r range) (writes message (es, tt) [])
    ∙ put_both (values_fit rs v) (writable message (es, tt)) [] bits)

-- ---- the frame around it

-- some octets where the test holds, else out of range
abbrev pub WrittenIf : Bool → Result (List ℕ) PerFault → Type 0
WrittenIf true r = (os : List ℕ) × (r ≡ Ok os)
WrittenIf false r = r ≡ Err Range

number_ok : (lo hi n : ℕ) (out : Bits) → number_fits lo hi n ≡ true → (new : Bits) × (write_number lo hi n out ≡ Ok new)
number_ok lo hi n out e =
    (_, writes (number lo hi) n out ∙ ap (λ (b : Bool). put_if b out (written (number lo hi) n (length out))) e)

frame_cases : (b : Bool) (kind code c : ℕ) (os : List ℕ) (out xs : Bits) → write_frame kind code c os [] ≡ put_if b out xs
    → WrittenIf b (write_whole (write_frame kind code c) os)
frame_cases true kind code c os out xs e = (padded (out ++ xs), ap (λ (r : Out). r >>= λ bs. Ok (padded bs)) e)
frame_cases false kind code c os out xs e = ap (λ (r : Out). r >>= λ bs. Ok (padded bs)) e

frame_if : (kind code c : ℕ) (os : List ℕ) → number_fits 0 2 kind ≡ true → number_fits 0 255 code ≡ true → number_fits 0 2 c ≡ true
    → WrittenIf (string_fits os) (write_whole (write_frame kind code c) os)
frame_if kind code c os p q r =
    let a = number_ok 0 2 kind ([] ++ false ∷ []) p in
    let b = number_ok 0 255 code a.0 q in
    let d = number_ok 0 2 c b.0 r in
    let all : write_frame kind code c os [] ≡ put_if (string_fits os) d.0 (written octet_string os (length d.0)) =
    rw (a.1, b.1, d.1) (writes octet_string os d.0) in
    frame_cases (string_fits os) kind code c os d.0 _ all

pdu_cases : (a b d : Bool) (kind code c : ℕ) (rs : Rows) (v : Kept rs) (os : List ℕ)
    → write_whole (write_message rs) v ≡ cond (a && b) (Ok os) (Err Range) → WrittenIf d (write_whole (write_frame kind code c) os)
    → WrittenIf (a && (b && d)) (write_pdu kind code c rs v)
pdu_cases true true true kind code c rs v os e w = (w.0, rw (e, w.1) refl)
pdu_cases true true false kind code c rs v os e w = rw (e, w) refl
pdu_cases true false d kind code c rs v os e w = rw e refl
pdu_cases false b d kind code c rs v os e w = rw e refl

pub pdu_if : (kind code c : ℕ) (rs : Rows) (v : Kept rs) → number_fits 0 2 kind ≡ true → number_fits 0 255 code ≡ true
    → number_fits 0 2 c ≡ true → WrittenIf (message_fits rs v) (write_pdu kind code c rs v)
pdu_if kind code c rs v p q r =
    let es = elements_of rs v in
    let os = padded (written message (es, tt) 0) in
    pdu_cases (values_fit rs v) (writable message (es, tt)) (string_fits os) kind code c rs v os (whole_if rs v)
    (frame_if kind code c os p q r)
