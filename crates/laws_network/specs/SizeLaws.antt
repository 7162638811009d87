-- How many octets a written value has at most, and that what is in range and short is writable.
use Rattle.std.proofs.Common.{◌≡◌, ℕ, zero, suc, ◌+◌, ◌-◌, ◌*◌, ◌/◌, ◌%◌, ◌^◌, ◌<◌, ◌≤◌, ◌&&◌, Bool, true, false, cond, leb, ltb, List, [], ◌∷◌, ◌++◌, length, take, drop, Option, Some, None, refl, ap, inl, inr, ◌⊎◌, arith}
use Rattle.std.proofs.lemmas.Bool.{and_from, and_parts, le-leb, leb-true, lt-ltb}
use Rattle.std.proofs.lemmas.Grind.{common_steps}
use Rattle.std.proofs.lemmas.List.{length-append, length-replicate, length-take}
use Rattle.std.proofs.Math.Pow.{pow_mono}
use Rattle.per_streams.specs.Octet.{all_below}
use Rattle.per_streams.specs.Bits.{bits, octet_bits, octets_of_bits, pad, padded, padding, value}
use Rattle.per_streams.specs.BitLaws.{length-bits, length-octet_bits, value_below}
use Rattle.per_bits.specs.Formats.{Format, number, octets, octets_between, octet_string, bit_string, bits_between, enumerated, closed, items, open_type, plain, sequence, choice, Fields, done, must, may, skip, fixed, marked, Alternatives, last, either, Value, Values, Chosen, optionals, alternatives, raw}
use Rattle.per_bits.specs.LargeLaws.{octets-most}
use Rattle.per_bits.specs.Numbers.{octets_for, offset_bits, whole, width_of}
use Rattle.per_bits.specs.Spelling.{length_octets}
use Rattle.per_bits.specs.Writing.{index_of, presence}
use Rattle.per_bits.specs.Written.{aligned_form, each_fits, each_form, length_form, name_form, number_fits, optional_fits, optional_form, string_fits, string_form, writable, writable_chosen, writable_fields, written, written_chosen, written_fields}
use Rattle.s1ap_rows.specs.declared.criticality.Criticality.{Criticality}
use Rattle.s1ap_rows.specs.declared.criticality.Criticality.TheVariants.{Reject, Ignore, Notify}
use Rattle.s1ap_rows.specs.Criticalities.{criticality_number}
use Rattle.s1ap_rows.specs.Rows.{Rows, ie, end, needed, optional, unkept, Kept}
use Rattle.s1ap_rows.specs.Spelling.{Raw, message}
use Rattle.s1ap_rows.specs.Writable.{elements_of, message_fits, raw_of, values_fit}
use Rattle.s1ap_pdus.specs.declared.pdu.Pdu.{Pdu}
use Rattle.s1ap_pdus.specs.Pdus.{IsWritableMessage, typed}
use Rattle.s1ap_pdus.specs.Profile.{rows_of}
use Rattle.laws_network.specs.Sizes.{IsShortMessage, chosen_in_range, fields_in_range, in_range, most_octets, most_of_chosen, most_of_each, most_of_fields, most_of_optional, most_of_rows, rows_in_range}

-- ---- tests

-- a number of a range
pub number_allowed : (lo hi n : ℕ) → lo ≤ n → n ≤ hi → hi < 2 ^ 64 → number_fits lo hi n ≡ true
number_allowed lo hi n low high most =
    and_from (leb lo n) (leb n hi && ltb (n - lo) (2 ^ 64)) (le-leb lo n low)
    (and_from (leb n hi) (ltb (n - lo) (2 ^ 64)) (le-leb n hi high) (lt-ltb (n - lo) (2 ^ 64) (omega arith)))

-- ---- parts

append_size : (xs ys : List Bool) (a b : ℕ) → length xs ≤ 8 * a → length ys ≤ 8 * b → length (xs ++ ys) ≤ 8 * (a + b)
append_size xs ys a b p q = omega (arith, length-append xs ys)

cond_size : (b : Bool) (xs ys : List Bool) (n : ℕ) → length xs ≤ n → length ys ≤ n → length (cond b xs ys) ≤ n
cond_size true xs ys n p q = p
cond_size false xs ys n p q = q

pad_size : (at : ℕ) → length (pad at) ≤ 7
pad_size at = omega (arith, length-replicate (padding at) false)

width-most : (n : ℕ) → width_of n ≤ 8
unfolding width_of
width-most n = grind (arith, common_steps)

large_size : (span offset at : ℕ)
    → length (bits (width_of (octets_for span - 1)) (octets_for offset - 1) ++ (pad at ++ bits (8 * octets_for offset) offset)) ≤ 80
large_size span offset at =
    let count = bits (width_of (octets_for span - 1)) (octets_for offset - 1) in
    let rest = bits (8 * octets_for offset) offset in
    omega (
      arith,
      length-append count (pad at ++ rest),
      length-append (pad at) rest,
      length-bits (width_of (octets_for span - 1)) (octets_for offset - 1),
      length-bits (8 * octets_for offset) offset,
      width-most (octets_for span - 1),
      octets-most offset,
      pad_size at,
    )

offset_size : (span offset at : ℕ) → length (offset_bits span offset at) ≤ 80
unfolding offset_bits
offset_size span offset at =
    cond_size (ltb span 255) _ _ 80 (omega (arith, length-bits (width_of span) offset, width-most span))
    (cond_size (ltb span 256) _ _ 80 (omega (arith, length-append (pad at) (bits 8 offset), length-bits 8 offset, pad_size at))
    (cond_size (ltb span 65536) _ _ 80 (omega (arith, length-append (pad at) (bits 16 offset), length-bits 16 offset, pad_size at))
    (large_size span offset _)))

number_size : (lo hi n at : ℕ) → length (whole lo hi n at) ≤ 80
number_size lo hi n at = offset_size (hi - lo) (n - lo) at

aligned_size : (os : List ℕ) (at : ℕ) → length (aligned_form os at) ≤ 8 * (1 + length os)
aligned_size os at = omega (arith, length-append (pad at) (octet_bits os), pad_size at, length-octet_bits os)

short_list : (b : Bool) (x y z : ℕ) → length (cond b (x ∷ []) (y ∷ z ∷ [])) ≤ 2
short_list true x y z = omega arith
short_list false x y z = omega arith

length_size : (n at : ℕ) → length (length_form n at) ≤ 8 * 3
length_size n at = omega (
  arith,
  length-append (pad at) (octet_bits (length_octets n)),
  pad_size at,
  length-octet_bits (length_octets n),
  short_list (ltb n 128) n (128 + n / 256) (n % 256),
)

string_size : (os : List ℕ) (at : ℕ) → length (string_form os at) ≤ 8 * (3 + (1 + length os))
string_size os at = append_size (length_form (length os) at) _ 3 (1 + length os) (length_size (length os) at) (aligned_size os _)

padded_bits_size : (b : List Bool) (at : ℕ) → length (pad at ++ b) ≤ 8 * (1 + length b)
padded_bits_size b at = omega (arith, length-append (pad at) b, pad_size at)

name_size : (n : ℕ) (v : ℕ ⊎ ℕ) (at : ℕ) → length (name_form n v at) ≤ 8 * 11
name_size n (inl k) at = let size = number_size 0 n k (at + 1) in omega (arith, size)
name_size n (inr k) at = omega arith

each_size : {A : Type 0} (w : A → ℕ → List Bool) (most : A → ℕ) → ((a : A) (at : ℕ) → length (w a at) ≤ 8 * most a)
    → (vs : List A) (at : ℕ) → length (each_form w vs at) ≤ 8 * most_of_each most vs
each_size w most h [] at = omega arith
each_size w most h (a ∷ more) at = append_size (w a at) _ (most a) (most_of_each most more) (h a at) (each_size w most h more _)

optional_size : {A : Type 0} (w : A → ℕ → List Bool) (most : A → ℕ) → ((a : A) (at : ℕ) → length (w a at) ≤ 8 * most a)
    → (o : Option A) (at : ℕ) → length (optional_form w o at) ≤ 8 * most_of_optional most o
optional_size w most h None at = omega arith
optional_size w most h (Some a) at = h a at

presence_size : (fs : Fields) (v : Values fs) → length (presence fs v) ≤ optionals fs
presence_size done v = omega arith
presence_size (must f fs) v = presence_size fs v.1
presence_size (may f fs) v = let size = presence_size fs v.1 in omega (arith, size)
presence_size (skip f fs) v = let size = presence_size fs v in omega (arith, size)
presence_size (fixed lo hi n fs) v = presence_size fs v
presence_size (marked lo hi n fs) v = presence_size fs v

-- ---- complete encodings

octets_long : (n : ℕ) (bs : List Bool) → length (octets_of_bits n bs) ≡ n
unfolding octets_of_bits
octets_long zero bs = refl
octets_long (suc n) bs = ap suc (octets_long n (drop 8 bs))

-- bits as octets
padded_size : (bs : List Bool) (most : ℕ) → length bs ≤ 8 * most → length (padded bs) ≤ most
unfolding padded
padded_size bs most h = omega (arith, octets_long ((length bs + 7) / 8) (bs ++ pad (length bs)))

octet_below : (bs : List Bool) → value (take 8 bs) < 256
octet_below bs =
    let few : length (take 8 bs) ≤ 8 = omega (arith, length-take 8 bs) in
    let small : 2 ^ length (take 8 bs) ≤ 2 ^ 8 = pow_mono few in
    omega (arith, value_below (take 8 bs), small)

octets_below : (n : ℕ) (bs : List Bool) → all_below 256 (octets_of_bits n bs) ≡ true
unfolding octets_of_bits
octets_below zero bs = refl
octets_below (suc n) bs = and_from (ltb (value (take 8 bs)) 256) _ (lt-ltb _ 256 (octet_below bs)) (octets_below n (drop 8 bs))

padded_below : (bs : List Bool) → all_below 256 (padded bs) ≡ true
unfolding padded
padded_below bs = octets_below ((length bs + 7) / 8) (bs ++ pad (length bs))

padded_fits : (bs : List Bool) (most : ℕ) → length bs ≤ 8 * most → most ≤ 16383 → string_fits (padded bs) ≡ true
padded_fits bs most size few =
    let short : length (padded bs) ≤ most = padded_size bs most size in
    and_from (ltb (length (padded bs)) 16384) _ (lt-ltb _ 16384 (omega arith)) (padded_below bs)

-- ---- values

mutual
  pub written_size : (f : Format) (v : Value f) (at : ℕ) → length (written f v at) ≤ 8 * most_octets f v
  written_size (number lo hi) n at = number_size lo hi n at
  written_size (octets n) os at =
      cond_size (ltb n 3) (octet_bits os) (aligned_form os at) (8 * (1 + length os)) (omega (arith, length-octet_bits os))
      (aligned_size os at)
  written_size (octets_between lo hi) os at =
      append_size (whole lo hi (length os) at) _ 10 (1 + length os) (number_size lo hi (length os) at) (aligned_size os _)
  written_size octet_string os at = string_size os at
  written_size (bit_string n) b at = cond_size (ltb n 17) b (pad at ++ b) (8 * (1 + length b)) (omega arith) (padded_bits_size b at)
  written_size (bits_between lo hi) b at =
      append_size (whole lo hi (length b) at) _ 10 (1 + length b) (number_size lo hi (length b) at) (padded_bits_size b _)
  written_size (enumerated n) v at = name_size n v at
  written_size (closed f) v at = let size = written_size f v (at + 1) in omega (arith, size)
  written_size (items lo hi f) vs at =
      append_size (whole lo hi (length vs) at) _ 10 (most_of_each (most_octets f) vs) (number_size lo hi (length vs) at)
      (each_size (written f) (most_octets f) (written_size f) vs _)
  written_size (open_type f) v at =
      let inner : length (padded (written f v 0)) ≤ most_octets f v =
      padded_size (written f v 0) (most_octets f v) (written_size f v 0) in
      let size = string_size (padded (written f v 0)) at in
      omega (arith, size, inner)
  written_size (plain fs) v at =
      let flags : length (presence fs v) ≤ optionals fs = presence_size fs v in
      append_size (presence fs v) _ (optionals fs) (most_of_fields fs v) (omega (arith, flags)) (written_fields_size fs v _)
  written_size (sequence fs) v at =
      let flags : length (presence fs v) ≤ optionals fs = presence_size fs v in
      append_size (false ∷ presence fs v) _ (1 + optionals fs) (most_of_fields fs v) (omega (arith, flags))
      (written_fields_size fs v _)
  written_size (choice alts) v at =
      let index : length (whole 0 (alternatives alts - 1) (index_of alts v) (at + 1)) ≤ 80 =
      number_size 0 (alternatives alts - 1) (index_of alts v) (at + 1) in
      append_size (false ∷ whole 0 (alternatives alts - 1) (index_of alts v) (at + 1)) _ 11 (most_of_chosen alts v)
      (omega (arith, index)) (written_chosen_size alts v _)

  written_fields_size : (fs : Fields) (v : Values fs) (at : ℕ) → length (written_fields fs v at) ≤ 8 * most_of_fields fs v
  written_fields_size done v at = omega arith
  written_fields_size (must f fs) v at =
      append_size (written f v.0 at) _ (most_octets f v.0) (most_of_fields fs v.1) (written_size f v.0 at)
      (written_fields_size fs v.1 _)
  written_fields_size (may f fs) v at =
      append_size (optional_form (written f) v.0 at) _ (most_of_optional (most_octets f) v.0) (most_of_fields fs v.1)
      (optional_size (written f) (most_octets f) (written_size f) v.0 at) (written_fields_size fs v.1 _)
  written_fields_size (skip f fs) v at = written_fields_size fs v at
  written_fields_size (fixed lo hi n fs) v at =
      append_size (whole lo hi n at) _ 10 (most_of_fields fs v) (number_size lo hi n at) (written_fields_size fs v _)
  written_fields_size (marked lo hi n fs) v at =
      append_size (whole lo hi n at) _ 10 (most_of_fields fs v) (number_size lo hi n at) (written_fields_size fs v _)

  written_chosen_size : (alts : Alternatives) (v : Chosen alts) (at : ℕ)
      → length (written_chosen alts v at) ≤ 8 * most_of_chosen alts v
  written_chosen_size (last f) v at = written_size f v at
  written_chosen_size (either f alts) (inl v) at = written_size f v at
  written_chosen_size (either f alts) (inr v) at = written_chosen_size alts v at

-- ---- writable values

each_writable : {A : Type 0} (p q : A → Bool) (most : A → ℕ) → ((a : A) → p a ≡ true → most a ≤ 16383 → q a ≡ true) → (vs : List A)
    → each_fits p vs ≡ true → most_of_each most vs ≤ 16383
    → each_fits q vs ≡ true
each_writable p q most h [] fits few = refl
each_writable p q most h (a ∷ more) fits few =
    let parts = and_parts (p a) (each_fits p more) fits in
    and_from (q a) (each_fits q more) (h a parts.0 (omega arith)) (each_writable p q most h more parts.1 (omega arith))

optional_writable : {A : Type 0} (p q : A → Bool) (most : A → ℕ) → ((a : A) → p a ≡ true → most a ≤ 16383 → q a ≡ true)
    → (o : Option A) → optional_fits p o ≡ true → most_of_optional most o ≤ 16383
    → optional_fits q o ≡ true
optional_writable p q most h None fits few = refl
optional_writable p q most h (Some a) fits few = h a fits few

mutual
  pub short_writable : (f : Format) (v : Value f) → in_range f v ≡ true → most_octets f v ≤ 16383 → writable f v ≡ true
  short_writable (number lo hi) n fits few = fits
  short_writable (octets n) os fits few = fits
  short_writable (octets_between lo hi) os fits few = fits
  short_writable octet_string os fits few =
      and_from (ltb (length os) 16384) (all_below 256 os) (lt-ltb (length os) 16384 (omega arith)) fits
  short_writable (bit_string n) b fits few = fits
  short_writable (bits_between lo hi) b fits few = fits
  short_writable (enumerated n) v fits few = fits
  short_writable (closed f) v fits few = short_writable f v fits (omega arith)
  short_writable (items lo hi f) vs fits few =
      let parts = and_parts (number_fits lo hi (length vs)) (each_fits (in_range f) vs) fits in
      and_from (number_fits lo hi (length vs)) _ parts.0
      (each_writable (in_range f) (writable f) (most_octets f) (short_writable f) vs parts.1 (omega arith))
  short_writable (open_type f) v fits few =
      and_from (writable f v) (string_fits (padded (written f v 0))) (short_writable f v fits (omega arith))
      (padded_fits (written f v 0) (most_octets f v) (written_size f v 0) (omega arith))
  short_writable (plain fs) v fits few = short_fields fs v fits (omega arith)
  short_writable (sequence fs) v fits few = short_fields fs v fits (omega arith)
  short_writable (choice alts) v fits few =
      let parts = and_parts (number_fits 0 (alternatives alts - 1) (index_of alts v)) (chosen_in_range alts v) fits in
      and_from (number_fits 0 (alternatives alts - 1) (index_of alts v)) _ parts.0 (short_chosen alts v parts.1 (omega arith))

  short_fields : (fs : Fields) (v : Values fs) → fields_in_range fs v ≡ true → most_of_fields fs v ≤ 16383
      → writable_fields fs v ≡ true
  short_fields done v fits few = refl
  short_fields (must f fs) v fits few =
      let parts = and_parts (in_range f v.0) (fields_in_range fs v.1) fits in
      and_from (writable f v.0) _ (short_writable f v.0 parts.0 (omega arith)) (short_fields fs v.1 parts.1 (omega arith))
  short_fields (may f fs) v fits few =
      let parts = and_parts (optional_fits (in_range f) v.0) (fields_in_range fs v.1) fits in
      and_from (optional_fits (writable f) v.0) _
      (optional_writable (in_range f) (writable f) (most_octets f) (short_writable f) v.0 parts.0 (omega arith))
      (short_fields fs v.1 parts.1 (omega arith))
  short_fields (skip f fs) v fits few = short_fields fs v fits few
  short_fields (fixed lo hi n fs) v fits few =
      let parts = and_parts (number_fits lo hi n) (fields_in_range fs v) fits in
      and_from (number_fits lo hi n) _ parts.0 (short_fields fs v parts.1 (omega arith))
  short_fields (marked lo hi n fs) v fits few =
      let parts = and_parts (number_fits lo hi n) (fields_in_range fs v) fits in
      and_from (number_fits lo hi n) _ parts.0 (short_fields fs v parts.1 (omega arith))

  short_chosen : (alts : Alternatives) (v : Chosen alts) → chosen_in_range alts v ≡ true → most_of_chosen alts v ≤ 16383
      → writable_chosen alts v ≡ true
  short_chosen (last f) v fits few = short_writable f v fits few
  short_chosen (either f alts) (inl v) fits few = short_writable f v fits few
  short_chosen (either f alts) (inr v) fits few = short_chosen alts v fits few

-- ---- messages

values_writable : (rs : Rows) (v : Kept rs) → rows_in_range rs v ≡ true → most_of_rows rs v ≤ 16000 → values_fit rs v ≡ true
values_writable end v fits few = refl
values_writable (ie id c needed f rs) v fits few =
    let parts = and_parts (leb id 65535) (in_range f v.0 && rows_in_range rs v.1) fits in
    let inner = and_parts (in_range f v.0) (rows_in_range rs v.1) parts.1 in
    and_from (writable f v.0) _ (short_writable f v.0 inner.0 (omega arith)) (values_writable rs v.1 inner.1 (omega arith))
values_writable (ie id c optional f rs) (None, v) fits few = values_writable rs v fits few
values_writable (ie id c optional f rs) (Some x, v) fits few =
    let parts = and_parts (leb id 65535) (in_range f x && rows_in_range rs v) fits in
    let inner = and_parts (in_range f x) (rows_in_range rs v) parts.1 in
    and_from (writable f x) _ (short_writable f x inner.0 (omega arith)) (values_writable rs v inner.1 (omega arith))
values_writable (ie id c unkept f rs) v fits few = values_writable rs v fits few

criticality_in : (c : Criticality) → number_fits 0 2 (criticality_number c) ≡ true
criticality_in Reject = refl
criticality_in Ignore = refl
criticality_in Notify = refl

-- elements as they are written: in range, few, and short
record AreShort (es : List Raw) (most : ℕ) : Type 0 where
  ranges : each_fits (in_range raw) es ≡ true
  size : most_of_each (most_octets raw) es ≤ most
  count : length es ≤ most

raw_in : (id : ℕ) (c : Criticality) (f : Format) (v : Value f) → leb id 65535 ≡ true → in_range raw (raw_of id c f v) ≡ true
raw_in id c f v e =
    let number : number_fits 0 65535 id ≡ true = number_allowed 0 65535 id (omega arith) (leb-true id 65535 e) (omega arith) in
    and_from (number_fits 0 65535 id) _ number
    (and_from (number_fits 0 2 (criticality_number c)) _ (criticality_in c)
    (and_from (all_below 256 (padded (written f v 0))) true (padded_below (written f v 0)) refl))

one_short : (id : ℕ) (c : Criticality) (f : Format) (v : Value f) (es : List Raw) (most : ℕ) → leb id 65535 ≡ true
    → AreShort es most → AreShort (raw_of id c f v ∷ es) ((24 + most_octets f v) + most)
one_short id c f v es most e h =
    let os = padded (written f v 0) in
    let size : length os ≤ most_octets f v = padded_size (written f v 0) (most_octets f v) (written_size f v 0) in
    let rest : most_of_each (most_octets raw) es ≤ most = h.size in
    let few : length es ≤ most = h.count in
    record {
      ranges = and_from (in_range raw (raw_of id c f v)) _ (raw_in id c f v e) h.ranges;
      size = omega (arith, size, rest);
      count = omega (arith, few);
    }

elements_short : (rs : Rows) (v : Kept rs) → rows_in_range rs v ≡ true → AreShort (elements_of rs v) (most_of_rows rs v)
elements_short end v fits = record { ranges = refl; size = omega arith; count = omega arith }
elements_short (ie id c needed f rs) v fits =
    let parts = and_parts (leb id 65535) (in_range f v.0 && rows_in_range rs v.1) fits in
    let inner = and_parts (in_range f v.0) (rows_in_range rs v.1) parts.1 in
    one_short id c f v.0 (elements_of rs v.1) (most_of_rows rs v.1) parts.0 (elements_short rs v.1 inner.1)
elements_short (ie id c optional f rs) (None, v) fits = elements_short rs v fits
elements_short (ie id c optional f rs) (Some x, v) fits =
    let parts = and_parts (leb id 65535) (in_range f x && rows_in_range rs v) fits in
    let inner = and_parts (in_range f x) (rows_in_range rs v) parts.1 in
    one_short id c f x (elements_of rs v) (most_of_rows rs v) parts.0 (elements_short rs v inner.1)
elements_short (ie id c unkept f rs) v fits = elements_short rs v fits

rows_fit : (rs : Rows) (v : Kept rs) → rows_in_range rs v ≡ true → most_of_rows rs v ≤ 16000 → message_fits rs v ≡ true
rows_fit rs v fits few =
    let es = elements_of rs v in
    let short = elements_short rs v fits in
    let size : most_of_each (most_octets raw) es ≤ most_of_rows rs v = short.size in
    let count : length es ≤ most_of_rows rs v = short.count in
    let counted : number_fits 0 65535 (length es) ≡ true =
    number_allowed 0 65535 (length es) (omega arith) (omega arith) (omega arith) in
    and_from (values_fit rs v) _ (values_writable rs v fits few)
    (short_writable (open_type message) (es, tt)
    (and_from (number_fits 0 65535 (length es) && each_fits (in_range raw) es) true
    (and_from (number_fits 0 65535 (length es)) _ counted short.ranges) refl) (omega arith))

pub short_message_writable : (m : Pdu (List ℕ)) → IsShortMessage m → IsWritableMessage m
short_message_writable m h = rows_fit (rows_of (typed m).0) (typed m).1 h.ranges h.size
