-- No message is long: an open type has at most 16383 octets, and at most five stand before it.
use Rattle.std.proofs.Common.{◌≡◌, ℕ, zero, suc, ◌+◌, ◌*◌, ◌/◌, ◌<◌, ◌≤◌, List, [], ◌∷◌, ◌++◌, Bool, true, false, length, length-append, drop, Ok, refl, sym, ◌∙◌, ap, arith}
use Rattle.std.proofs.lemmas.List.{length-replicate}
use Rattle.std.specs.Prelude.{nat_le, nat_lt, ◌-◌, ◌^◌, ◌%◌, ◌&&◌, if◌then◌else◌}
use Rattle.std.proofs.lemmas.Bool.Decides.{nat_tests}
use Rattle.per_streams.specs.declared.fault.PerFault.TheVariants.{Range}
use Rattle.per_streams.specs.Octet.{all_below}
use Rattle.per_streams.specs.Bits.{◌>>=◌, bits, octet_bits, octets_of_bits, pad, padding, padded}
use Rattle.per_bits.specs.per_streams.Numbers.{offset_bits, whole, width_of}
use Rattle.per_bits.specs.Spelling.{length_octets}
use Rattle.per_bits.specs.Writing.{write_aligned, write_length, write_string, write_whole}
use Rattle.per_bits.specs.per_streams.Writing.{write_number}
use Rattle.per_streams.specs.BitLaws.{bind_ok, where_ok, ok_is, length-bits, length-octet_bits}
use Rattle.s1ap_rows.specs.Criticalities.{criticality_number}
use Rattle.s1ap_pdus.specs.Pdus.{longest}
use Rattle.s1ap_pdus.specs.Profile.{code_of, criticality_of, kind_of, rows_of}
use Rattle.s1ap_pdus.specs.Typed.{Typed, encode_typed}
use Rattle.s1ap_rows.specs.Writing.{write_frame, write_head, write_message}

-- ---- how much each part adds

number_adds : (lo hi n : ℕ) (out new : List Bool) → write_number lo hi n out ≡ Ok new
    → length new ≡ length out + length (whole lo hi n (length out))
unfolding write_number
number_adds lo hi n out new h =
    let w = where_ok (nat_le lo n && (nat_le n hi && nat_lt (n - lo) (2 ^ 64))) Range (out ++ whole lo hi n (length out)) new h in
    sym (ap length w.1) ∙ length-append out (whole lo hi n (length out))

two_bits : (n at : ℕ) → length (whole 0 2 n at) ≡ 2
unfolding offset_bits width_of
two_bits n at = length-bits 2 (n - 0)

octet : (n at : ℕ) → length (whole 0 255 n at) ≡ length (pad at) + 8
unfolding offset_bits
octet n at = length-append (pad at) (bits 8 (n - 0)) ∙ ap (λ m. length (pad at) + m) (length-bits 8 (n - 0))

length_of_length : (b : Bool) (n : ℕ) → length (if b then n ∷ [] else (128 + n / 256) ∷ (n % 256) ∷ []) ≤ 2
length_of_length true n = omega arith
length_of_length false n = omega arith

length_adds : (n : ℕ) (out new : List Bool) → write_length n out ≡ Ok new
    → (n < 16384) × (length new ≡ length out + (length (pad (length out)) + 8 * length (length_octets n)))
unfolding write_length
length_adds n out new h =
    let more = pad (length out) ++ octet_bits (length_octets n) in
    let w = where_ok (nat_lt n 16384) Range (out ++ more) new h in (
      grind (arith, nat_tests, w.0),
      sym (ap length w.1) ∙ length-append out more
          ∙ ap (λ m. length out + m)
          (length-append (pad (length out)) (octet_bits (length_octets n))
          ∙ ap (λ m. length (pad (length out)) + m) (length-octet_bits (length_octets n))),
    )

aligned_adds : (os : List ℕ) (out new : List Bool) → write_aligned os out ≡ Ok new
    → length new ≡ length out + (length (pad (length out)) + 8 * length os)
unfolding write_aligned
aligned_adds os out new h =
    let more = pad (length out) ++ octet_bits os in
    let w = where_ok (all_below 256 os) Range (out ++ more) new h in
    sym (ap length w.1) ∙ length-append out more
    ∙ ap (λ m. length out + m)
    (length-append (pad (length out)) (octet_bits os) ∙ ap (λ m. length (pad (length out)) + m) (length-octet_bits os))

-- an octet begins anew: no padding
no_pad : (k : ℕ) → length (pad (8 * k)) ≡ 0
no_pad k = length-replicate (padding (8 * k)) false ∙ omega arith

string_adds : (os : List ℕ) (out new : List Bool) → length out ≡ 18 → write_string os out ≡ Ok new → length new ≤ 8 * longest
unfolding write_string
string_adds os out new at h =
    let n = length os in
    let k = length (length_octets n) in
    let a = bind_ok (write_length n out) (λ counted. write_aligned os counted) new h in
    let c = length_adds n out a.0 a.1 in
    let w = aligned_adds os a.0 new a.2 in
    let few : k ≤ 2 = length_of_length (nat_lt n 128) n in
    let counted : length a.0 ≡ 8 * (3 + k) = c.1 ∙ ap (λ m. m + (length (pad m) + 8 * k)) at ∙ omega arith in
    let whole : length new ≡ 8 * (3 + k) + 8 * n =
    w ∙ ap (λ m. m + (length (pad m) + 8 * n)) counted ∙ ap (λ m. 8 * (3 + k) + (m + 8 * n)) (no_pad (3 + k)) ∙ omega arith in
    omega (arith, whole, few, c.0)

-- ---- the frame

frame_adds : (kind code c : ℕ) (os : List ℕ) (new : List Bool) → write_frame kind code c os [] ≡ Ok new → length new ≤ 8 * longest
frame_adds kind code c os new h =
    let head = bind_ok (write_head kind code c []) (write_string os) new h in
    let a =
    bind_ok (write_number 0 2 kind (false ∷ [])) (λ a. write_number 0 255 code a >>= λ b. write_number 0 2 c b) head.0 head.1 in
    let b = bind_ok (write_number 0 255 code a.0) (write_number 0 2 c) head.0 a.2 in
    let at_a : length a.0 ≡ 3 = number_adds 0 2 kind (false ∷ []) a.0 a.1 ∙ ap (λ m. 1 + m) (two_bits kind 1) in
    let at_b : length b.0 ≡ 16 =
    number_adds 0 255 code a.0 b.0 b.1 ∙ ap (λ m. length a.0 + m) (octet code (length a.0))
    ∙ ap (λ m. m + (length (pad m) + 8)) at_a in
    let at_head : length head.0 ≡ 18 =
    number_adds 0 2 c b.0 head.0 b.2 ∙ ap (λ m. length b.0 + m) (two_bits c (length b.0)) ∙ ap (λ m. m + 2) at_b in
    string_adds os head.0 new at_head head.2

-- ---- the message

octets_long : (n : ℕ) (bs : List Bool) → length (octets_of_bits n bs) ≡ n
unfolding octets_of_bits
octets_long zero bs = refl
octets_long (suc n) bs = ap suc (octets_long n (drop 8 bs))

whole_long : (kind code c : ℕ) (inner os : List ℕ) → write_whole (write_frame kind code c) inner ≡ Ok os → length os ≤ longest
unfolding padded
whole_long kind code c inner os h =
    let a = bind_ok (write_frame kind code c inner []) (λ bs. Ok (padded bs)) os h in
    let most = frame_adds kind code c inner a.0 a.1 in
    let long : length (padded a.0) ≡ (length a.0 + 7) / 8 = octets_long ((length a.0 + 7) / 8) (a.0 ++ pad (length a.0)) in
    let same : length os ≡ length (padded a.0) = sym (ap length (ok_is (padded a.0) os a.2)) in
    omega (arith, most, long, same)

pub typed_short : (t : Typed) (os : List ℕ) → encode_typed t ≡ Ok os → length os ≤ longest
unfolding encode_typed
typed_short t os h =
    let a =
    bind_ok (write_whole (write_message (rows_of t.0)) t.1)
    (λ inner. write_whole (write_frame (kind_of t.0) (code_of t.0) (criticality_number (criticality_of t.0))) inner) os h in
    whole_long (kind_of t.0) (code_of t.0) (criticality_number (criticality_of t.0)) a.0 os a.2
