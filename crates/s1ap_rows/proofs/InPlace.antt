-- A message that is written where it stands in its frame has the octets of one that is written apart and then put into it.
use Rattle.std.proofs.Common.{◌≡◌, ℕ, ◌+◌, ◌*◌, ◌/◌, ◌<◌, ◌≤◌, Bool, true, false, List, [], ◌∷◌, ◌++◌, length, Some, None, Result, Ok, Err, refl, sym, ap, subst, ◌∙◌, arith, inl, inr}
use Rattle.std.proofs.lemmas.Bool.{cases_lt}
use Rattle.std.proofs.lemmas.List.{length-append}
use Rattle.per_streams.specs.declared.fault.PerFault.{PerFault}
use Rattle.per_streams.specs.declared.fault.PerFault.TheVariants.{Range}
use Rattle.per_streams.specs.declared.fault.PerError.{PerError}
use Rattle.per_streams.specs.declared.fault.PerError.TheVariants as errors
use Rattle.per_streams.specs.Bits.{◌>>=◌, Fails, bits, pad, padded}
use Rattle.per_streams.specs.BitLaws.{length-bits}
use Rattle.per_bits.specs.Formats.{Format, Value, number, open_type}
use Rattle.per_bits.specs.Writing.{count_after, write_at, write_element, write_string, write_whole}
use Rattle.per_streams.specs.Writing.{write_number}
use Rattle.per_bits.proofs.OpenLaws.{StandsAfter, open_fails, open_room, open_written}
use Rattle.per_bits.proofs.Placed.{Placed, placed_at, placed_nothing, placed_then, placed_after}
use Rattle.per_bits.proofs.WrittenLaws.{put_if}
use Rattle.s1ap_rows.specs.Criticalities.{criticality_number}
use Rattle.s1ap_rows.specs.Rows.{Rows, ie, end, needed, optional, unkept, Kept}
use Rattle.s1ap_rows.specs.Writing.{count_of, write_rows, write_message, write_frame, write_front, write_pdu, write_head}
use Rattle.s1ap_rows.proofs.Fronts.{front_written, head_of, head_octets, head_refused, head_written}

abbrev Out : Type 0
Out = Result (List Bool) PerFault

abbrev Whole : Type 0
Whole = Result (List ℕ) PerFault

-- the octets of a message after their length
abbrev write_content : (rs : Rows) → Kept rs → List Bool → Out
write_content rs v out = do
  os ← write_whole (write_message rs) v
  write_string os out

-- ---- what is written is the same wherever an octet is begun

number_placed : (lo hi n : ℕ) → Placed (write_number lo hi n)
number_placed lo hi n = placed_at (number lo hi) n

element_placed : (id n : ℕ) (f : Format) (v : Value f) → Placed (write_element id n f v)
element_placed id n f v =
    placed_then (write_number 0 65535 id) (λ a. write_number 0 2 n a >>= λ b. write_at (open_type f) v b) (number_placed 0 65535 id)
    (placed_then (write_number 0 2 n) (write_at (open_type f) v) (number_placed 0 2 n) (placed_at (open_type f) v))

rows_placed : (rs : Rows) (v : Kept rs) → Placed (write_rows rs v)
rows_placed end v = placed_nothing
rows_placed (ie id c needed f rs) v =
    placed_then (write_element id (criticality_number c) f v.0) (write_rows rs v.1) (element_placed id (criticality_number c) f v.0)
    (rows_placed rs v.1)
rows_placed (ie id c optional f rs) (None, v) = rows_placed rs v
rows_placed (ie id c optional f rs) (Some x, v) =
    placed_then (write_element id (criticality_number c) f x) (write_rows rs v) (element_placed id (criticality_number c) f x)
    (rows_placed rs v)
rows_placed (ie id c unkept f rs) v = rows_placed rs v

pub message_placed : (rs : Rows) (v : Kept rs) → Placed (write_message rs v)
message_placed rs v =
    let n = count_of rs v 0 in
    placed_after (λ out. write_number 0 65535 n out >>= λ counted. write_rows rs v counted) (false ∷ [])
    (placed_then (write_number 0 65535 n) (write_rows rs v) (number_placed 0 65535 n) (rows_placed rs v))

head_placed : (kind code c : ℕ) → Placed (write_head kind code c)
head_placed kind code c =
    placed_after (λ out. write_number 0 2 kind out >>= λ a. write_number 0 255 code a >>= λ b. write_number 0 2 c b) (false ∷ [])
    (placed_then (write_number 0 2 kind) (λ a. write_number 0 255 code a >>= λ b. write_number 0 2 c b) (number_placed 0 2 kind)
    (placed_then (write_number 0 255 code) (write_number 0 2 c) (number_placed 0 255 code) (number_placed 0 2 c)))

-- ---- the head first, and then the message

chain : {B : Type 0} (r : Out) (k : List Bool → Out) (l : List Bool → Result B PerFault)
    → ((r >>= k) >>= l) ≡ (r >>= λ a. k a >>= l)
chain (Ok a) k l = refl
chain (Err e) k l = refl

abbrev range : Whole
range = Err Range

range_after : (b : Bool) (out xs : List Bool) → (put_if b out xs >>= λ d. range) ≡ range
range_after true out xs = refl
range_after false out xs = refl

abbrev close : Out → Whole
close r = r >>= λ bs. Ok (padded bs)

-- the whole by what the message is, written apart, and where it stands
abbrev apart : ℕ → ℕ → ℕ → Out → Whole
apart kind code c r = close r >>= λ os. write_whole (write_frame kind code c) os

abbrev in_place : ℕ → ℕ → ℕ → Out → Whole
in_place kind code c r = write_head kind code c [] >>= λ d. close (close r >>= λ os. write_string os d)

apart_is : (kind code c : ℕ) (b : Bool) (xs : List Bool)
    → apart kind code c (put_if b [] xs) ≡ in_place kind code c (put_if b [] xs)
apart_is kind code c true xs = chain (write_head kind code c []) (write_string (padded xs)) (λ bs. Ok (padded bs))
apart_is kind code c false xs =
    let h = head_placed kind code c in
    sym (ap (λ (r : Out). r >>= λ d. range) (h.puts []) ∙ range_after h.fits [] (h.text 0))

pdu_is : (kind code c : ℕ) (rs : Rows) (v : Kept rs)
    → write_pdu kind code c rs v ≡ (write_head kind code c [] >>= λ d. write_content rs v d >>= λ bs. Ok (padded bs))
pdu_is kind code c rs v =
    let m = message_placed rs v in
    ap (apart kind code c) (m.puts []) ∙ apart_is kind code c m.fits (m.text 0) ∙ sym (ap (in_place kind code c) (m.puts []))

-- what refuses the head refuses the whole
pub front_fails : (kind code c n : ℕ) (rs : Rows) (v : Kept rs) (e : PerError) → code < 256 → c ≤ 2 → n < 65536
    → Fails e (write_front kind code c n) → Fails e (write_pdu kind code c rs v)
front_fails kind code c n rs v errors.NoMemory small few within h = tt
front_fails kind code c n rs v (errors.Fault f) small few within h = elim (cases_lt 2 kind) [
  | inl many ↦
      let refused : write_front kind code c n ≡ Err Range = rw (head_refused kind code c many) refl in
      let same : Range ≡ f = cc in
      pdu_is kind code c rs v
      ∙ ap (λ (r : Out). r >>= λ d. close (write_content rs v d)) (head_refused kind code c many) ∙ ap (λ r. Err r) same
  | inr known ↦ absurd (let e = front_written kind code c n known small few within in cc)
]

-- after a head the whole is what the message is where it stands
after_head : (kind code c : ℕ) (rs : Rows) (v : Kept rs) (d : List Bool) → write_head kind code c [] ≡ Ok d
    → write_pdu kind code c rs v ≡ close (write_content rs v d)
after_head kind code c rs v d e =
    pdu_is kind code c rs v ∙ ap (λ (r : Out). r >>= λ d. close (write_content rs v d)) e

content_fails : (kind code c : ℕ) (rs : Rows) (v : Kept rs) (d : List Bool) (e : PerError) → write_head kind code c [] ≡ Ok d
    → Fails e (write_content rs v d) → Fails e (write_pdu kind code c rs v)
content_fails kind code c rs v d errors.NoMemory at h = tt
content_fails kind code c rs v d (errors.Fault f) at h = after_head kind code c rs v d at ∙ ap close h

-- ---- a message after what stands before its elements

-- the octet for the length after the head
abbrev left_after : List Bool → List Bool
left_after d = (d ++ pad (length d)) ++ bits 8 0

pub record Begun (kind code c : ℕ) (rs : Rows) (v : Kept rs) (begun : List Bool) : Type 0 where
  pub head : write_head kind code c [] ≡ Ok (head_of kind code c)
  pub counted : write_number 0 65535 (count_of rs v 0) (left_after (head_of kind code c) ++ false ∷ []) ≡ Ok begun
  pub place : 3 ≡ length (head_of kind code c ++ pad (length (head_of kind code c))) / 8

pub has_begun : (kind code c n : ℕ) (rs : Rows) (v : Kept rs) (begun : List Bool) → code < 256 → c ≤ 2 → n ≡ count_of rs v 0
    → write_front kind code c n ≡ Ok begun → Begun kind code c rs v begun
has_begun kind code c n rs v begun small few many h = elim (cases_lt 2 kind) [
  | inl wrong ↦
      let refused : write_front kind code c n ≡ Err Range = rw (head_refused kind code c wrong) refl in absurd cc
  | inr known ↦
      let head = head_written kind code c known small few in
      let number : write_front kind code c n ≡ write_number 0 65535 n (left_after (head_of kind code c) ++ false ∷ []) = rw head refl in
      record {
        head = head;
        counted =
            ap (λ m. write_number 0 65535 m (left_after (head_of kind code c) ++ false ∷ [])) (sym many) ∙ sym number ∙ h;
        place = let l = ap length (head_octets kind code c known few) in omega (
          arith,
          l,
          length-append (bits 8 (kind * 32) ++ bits 8 code) (bits 8 (c * 64)),
          length-append (bits 8 (kind * 32)) (bits 8 code),
          length-bits 8 (kind * 32),
          length-bits 8 code,
          length-bits 8 (c * 64),
        );
      }
]

stands : (kind code c : ℕ) (rs : Rows) (v : Kept rs) (begun whole after : List Bool) → Begun kind code c rs v begun
    → write_rows rs v begun ≡ Ok whole → after ≡ whole ++ pad (length whole)
    → StandsAfter (write_message rs v) (head_of kind code c) after 3
stands kind code c rs v begun whole after b put ends =
    let d : List Bool = head_of kind code c in
    record {
      front = d ++ pad (length d);
      one = left_after d;
      whole = whole;
      aligned = refl;
      at = b.place;
      left = refl;
      put = rw b.counted put;
      ends = ends;
    }

-- the octet for the length was written
pub has_room : (kind code c : ℕ) (rs : Rows) (v : Kept rs) (begun whole after : List Bool) → Begun kind code c rs v begun
    → write_rows rs v begun ≡ Ok whole → after ≡ whole ++ pad (length whole) → 8 * 3 + 8 ≤ length after
has_room kind code c rs v begun whole after b put ends =
    open_room (write_message rs v) (message_placed rs v) (head_of kind code c) after 3
    (stands kind code c rs v begun whole after b put ends)

-- what refuses the elements refuses the whole
pub rows_fail : (kind code c : ℕ) (rs : Rows) (v : Kept rs) (begun : List Bool) (e : PerError) → Begun kind code c rs v begun
    → Fails e (write_rows rs v begun) → Fails e (write_pdu kind code c rs v)
rows_fail kind code c rs v begun e b h =
    let d : List Bool = head_of kind code c in
    let same : write_message rs v (left_after d) ≡ write_rows rs v begun = rw b.counted refl in
    content_fails kind code c rs v d e b.head
    (open_fails (write_message rs) v (message_placed rs v) d (left_after d) e (subst (λ (q : Out). Fails e q) (sym same) h))

-- and so does what refuses the length
pub length_fails : (kind code c : ℕ) (rs : Rows) (v : Kept rs) (begun whole after : List Bool) (e : PerError)
    → Begun kind code c rs v begun
    → write_rows rs v begun ≡ Ok whole → after ≡ whole ++ pad (length whole) → Fails e (count_after 3 after)
    → Fails e (write_pdu kind code c rs v)
length_fails kind code c rs v begun whole after e b put ends h =
    let d : List Bool = head_of kind code c in
    content_fails kind code c rs v d e b.head
    (open_written {X = Unit {0}} (write_message rs) v (message_placed rs v) d after [] 3 (Err e)
    (stands kind code c rs v begun whole after b put ends) h)

pub pdu_written : (kind code c : ℕ) (rs : Rows) (v : Kept rs) (begun whole after new : List Bool) → Begun kind code c rs v begun
    → write_rows rs v begun ≡ Ok whole → after ≡ whole ++ pad (length whole) → count_after 3 after ≡ Ok new
    → write_pdu kind code c rs v ≡ Ok (padded new)
pdu_written kind code c rs v begun whole after new b put ends h =
    let d : List Bool = head_of kind code c in
    after_head kind code c rs v d b.head
    ∙ ap close
    (open_written {X = Unit {0}} (write_message rs) v (message_placed rs v) d after new 3 (Ok tt)
    (stands kind code c rs v begun whole after b put ends) h)
