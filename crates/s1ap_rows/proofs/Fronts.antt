-- What stands before the elements of a message, as seven octets.
use Rattle.std.proofs.Common.{◌≡◌, ℕ, ◌+◌, ◌-◌, ◌*◌, ◌/◌, ◌%◌, ◌^◌, ◌<◌, ◌≤◌, Bool, false, List, [], ◌∷◌, ◌++◌, length, replicate, None, Some, Ok, Err, refl, sym, ap, ◌∙◌, append_assoc, arith}
use Rattle.std.proofs.lemmas.Bool.{le-leb, lt-ltb}
use Rattle.std.proofs.lemmas.List.{append-nil, length-append}
use Rattle.per_streams.specs.declared.fault.PerFault.TheVariants.{Range}
use Rattle.per_streams.specs.Bits.{bits, octet_bits, pad, padding}
use Rattle.per_streams.specs.BitLaws.{bits-zero, length-bits}
use Rattle.per_streams.specs.PartLaws.{bits-join}
use Rattle.per_streams.specs.Numbers.{offset_bits}
use Rattle.per_streams.specs.Writing.{write_number}
use Rattle.per_bits.specs.HeadLaws.{criticality_refused, criticality_written, id_written, mark_octet, two_octets}
use Rattle.s1ap_rows.specs.Rows.{Rows, ie, end, needed, optional, unkept, Kept, row_count}
use Rattle.s1ap_rows.specs.Writing.{count_of, write_front, write_head}

-- there are no more elements than rows
pub count_within : (rs : Rows) (v : Kept rs) (n : ℕ) → count_of rs v n ≤ n + row_count rs
count_within end v n = omega (arith)
count_within (ie id c needed f rs) v n = let ih = count_within rs v.1 (n + 1) in omega (arith, ih)
count_within (ie id c optional f rs) (None, v) n = let ih = count_within rs v (n + 0) in omega (arith, ih)
count_within (ie id c optional f rs) (Some x, v) n = let ih = count_within rs v (n + 1) in omega (arith, ih)
count_within (ie id c unkept f rs) v n = let ih = count_within rs v n in omega (arith, ih)

code_written : (code : ℕ) (out : List Bool) → code < 256
    → write_number 0 255 code out ≡ Ok (out ++ (pad (length out) ++ bits 8 code))
unfolding write_number offset_bits
code_written code out small =
    let same : code - 0 ≡ code = omega (arith) in
    rw (
      le-leb 0 code (omega (arith)),
      le-leb code 255 (omega (arith, small)),
      lt-ltb (code - 0) (2 ^ 64) (omega (arith, small)),
      same,
    ) refl

-- kind, code and criticality
abbrev pub head_of : ℕ → ℕ → ℕ → List Bool
head_of kind code c =
    ((false ∷ bits 2 kind) ++ (pad (length (false ∷ bits 2 kind)) ++ bits 8 code)) ++ bits 2 c

pub head_written : (kind code c : ℕ) → kind ≤ 2 → code < 256 → c ≤ 2 → write_head kind code c [] ≡ Ok (head_of kind code c)
head_written kind code c known small few =
    rw (
      criticality_written kind (false ∷ []) known,
      code_written code (false ∷ bits 2 kind) small,
      criticality_written c ((false ∷ bits 2 kind) ++ (pad (length (false ∷ bits 2 kind)) ++ bits 8 code)) few,
    ) refl

pub head_refused : (kind code c : ℕ) → 2 < kind → write_head kind code c [] ≡ Err Range
head_refused kind code c many = rw (criticality_refused kind (false ∷ []) many) refl

-- the kind after the bit for an extension, and the bits up to the next octet
kind_octet : (kind : ℕ) → kind ≤ 2 → bits 8 (kind * 32) ≡ (false ∷ bits 2 kind) ++ replicate 5 false
kind_octet kind known =
    let shifted : kind * 32 ≡ kind * 2 ^ 5 + 0 = omega (arith) in
    let alone : kind ≡ 0 * 2 ^ 2 + kind = omega (arith) in
    let unmarked : bits 3 kind ≡ false ∷ bits 2 kind =
    ap (bits 3) alone ∙ bits-join 1 2 0 kind (omega (arith)) (omega (arith, known)) ∙ ap (λ (l : List Bool). l ++ bits 2 kind) (bits-zero 1) in
    ap (bits 8) shifted ∙ bits-join 3 5 kind 0 (omega (arith, known)) (omega (arith))
    ∙ ap (λ (l : List Bool). l ++ bits 5 0) unmarked
    ∙ ap (λ (l : List Bool). (false ∷ bits 2 kind) ++ l) (bits-zero 5)

gap : (n k : ℕ) → padding n ≡ k → pad n ≡ replicate k false
gap n k e = ap (λ j. replicate j false) e

-- the head and the bits up to the next octet
pub head_octets : (kind code c : ℕ) → kind ≤ 2 → c ≤ 2
    → head_of kind code c ++ pad (length (head_of kind code c)) ≡ (bits 8 (kind * 32) ++ bits 8 code) ++ bits 8 (c * 64)
head_octets kind code c known few =
    let first : List Bool = false ∷ bits 2 kind in
    let five : pad (length first) ≡ replicate 5 false = gap (length first) 5 (omega (arith, length-bits 2 kind)) in
    let start : first ++ (pad (length first) ++ bits 8 code) ≡ bits 8 (kind * 32) ++ bits 8 code =
    ap (λ (l : List Bool). first ++ (l ++ bits 8 code)) five ∙ sym (append_assoc first (replicate 5 false) (bits 8 code))
    ∙ ap (λ (l : List Bool). l ++ bits 8 code) (sym (kind_octet kind known)) in
    let octets : List Bool = bits 8 (kind * 32) ++ bits 8 code in
    let whole : head_of kind code c ≡ octets ++ bits 2 c = ap (λ (l : List Bool). l ++ bits 2 c) start in
    let size : padding (length (octets ++ bits 2 c)) ≡ 6 =
    omega (
      arith,
      length-append octets (bits 2 c),
      length-append (bits 8 (kind * 32)) (bits 8 code),
      length-bits 8 (kind * 32),
      length-bits 8 code,
      length-bits 2 c,
    ) in
    ap (λ (l : List Bool). l ++ pad (length l)) whole
    ∙ ap (λ (l : List Bool). (octets ++ bits 2 c) ++ l) (gap (length (octets ++ bits 2 c)) 6 size)
    ∙ append_assoc octets (bits 2 c) (replicate 6 false)
    ∙ ap (λ (l : List Bool). octets ++ l) (sym (mark_octet c few))

-- the count after the octet for the length and the bit for an extension
count_octets : (front : List Bool) (n : ℕ) → length front % 8 ≡ 0 → n < 65536
    → write_number 0 65535 n ((front ++ bits 8 0) ++ false ∷ [])
    ≡ Ok (front ++ octet_bits (0 ∷ 0 ∷ n / 256 ∷ n % 256 ∷ []))
count_octets front n aligned small =
    let one : List Bool = front ++ bits 8 0 in
    let size : padding (length (one ++ false ∷ [])) ≡ 7 =
    omega (arith, aligned, length-append one (false ∷ []), length-append front (bits 8 0), length-bits 8 0) in
    let seven : false ∷ replicate 7 false ≡ bits 8 0 = sym (bits-zero 8) in
    let same : (one ++ false ∷ []) ++ (pad (length (one ++ false ∷ [])) ++ bits 16 n)
    ≡ front ++ octet_bits (0 ∷ 0 ∷ n / 256 ∷ n % 256 ∷ []) =
    ap (λ (l : List Bool). (one ++ false ∷ []) ++ (l ++ bits 16 n)) (gap (length (one ++ false ∷ [])) 7 size)
    ∙ append_assoc one (false ∷ []) (replicate 7 false ++ bits 16 n)
    ∙ ap (λ (l : List Bool). one ++ (l ++ bits 16 n)) seven
    ∙ append_assoc front (bits 8 0) (bits 8 0 ++ bits 16 n)
    ∙ ap (λ (l : List Bool). front ++ (bits 8 0 ++ (bits 8 0 ++ l)))
    (sym (ap (λ (l : List Bool). bits 8 (n / 256) ++ l) (append-nil (bits 8 (n % 256))) ∙ two_octets n small)) in
    id_written n (one ++ false ∷ []) small ∙ ap (λ (l : List Bool). Ok l) same

pub front_written : (kind code c n : ℕ) → kind ≤ 2 → code < 256 → c ≤ 2 → n < 65536
    → write_front kind code c n
    ≡ Ok (octet_bits (kind * 32 ∷ code ∷ c * 64 ∷ 0 ∷ 0 ∷ n / 256 ∷ n % 256 ∷ []))
front_written kind code c n known small few within =
    let head : List Bool = bits 8 (kind * 32) ++ bits 8 code in
    let front : List Bool = head ++ bits 8 (c * 64) in
    let rest : List Bool = octet_bits (0 ∷ 0 ∷ n / 256 ∷ n % 256 ∷ []) in
    let aligned : length front % 8 ≡ 0 =
    omega (
      arith,
      length-append head (bits 8 (c * 64)),
      length-append (bits 8 (kind * 32)) (bits 8 code),
      length-bits 8 (kind * 32),
      length-bits 8 code,
      length-bits 8 (c * 64),
    ) in
    rw (head_written kind code c known small few)
    (ap (λ (l : List Bool). write_number 0 65535 n ((l ++ bits 8 0) ++ false ∷ [])) (head_octets kind code c known few)
    ∙ count_octets front n aligned within
    ∙ ap (λ (l : List Bool). Ok l)
    (append_assoc head (bits 8 (c * 64)) rest
    ∙ append_assoc (bits 8 (kind * 32)) (bits 8 code) (bits 8 (c * 64) ++ rest)))
