-- A value that is written after an octet, which then counts it, stands there as an open type.
use Rattle.std.proofs.Common.{◌≡◌, ℕ, ◌+◌, ◌-◌, ◌*◌, ◌/◌, ◌%◌, ◌<◌, ◌≤◌, ◌&&◌, Bool, true, false, cond, ltb, List, [], ◌∷◌, ◌++◌, length, take, drop, replicate, Result, Ok, Err, refl, sym, ap, subst, ◌∙◌, append_assoc, arith}
use Rattle.std.proofs.lemmas.Bool.{le-ltb, lt-ltb}
use Rattle.std.proofs.lemmas.List.{append-nil, length-append, length-replicate, take_at, drop_at}
use Rattle.per_streams.specs.declared.fault.PerFault.{PerFault}
use Rattle.per_streams.specs.declared.fault.PerFault.TheVariants.{Range}
use Rattle.per_streams.specs.declared.fault.PerError.{PerError}
use Rattle.per_streams.specs.declared.fault.PerError.TheVariants as errors
use Rattle.per_streams.specs.Octet.{all_below}
use Rattle.per_streams.specs.Bits.{◌>>=◌, Fails, bits, octet_bits, pad, padded, padding}
use Rattle.per_streams.specs.BitLaws.{length-bits, length-octet_bits}
use Rattle.per_streams.specs.OctetLaws.{bytes-octets_of}
use Rattle.per_streams.specs.WholeOctets.{bytes-below}
use Rattle.per_streams.specs.Writing.{Wrote}
use Rattle.per_bits.specs.Spelling.{length_octets}
use Rattle.per_bits.specs.Writing.{count_after, write_string, write_whole}
use Rattle.per_bits.specs.WritingLaws.{padded-bits}
use Rattle.per_bits.specs.Written.{string_fits, string_form}
use Rattle.per_bits.proofs.PlaceLaws.{pad_same}
use Rattle.per_bits.proofs.WrittenLaws.{put_if, inside_written}
use Rattle.per_bits.proofs.Placed.{Placed, refused, was_put}

-- ---- the length of what stands after it

set_length : (first : ℕ) (front rest : List Bool) (place : ℕ) → length front ≡ 8 * place
    → (take (8 * (place + 1)) (front ++ (bits 8 first ++ rest)) ≡ front ++ bits 8 first)
    × (drop (8 * (place + 1)) (front ++ (bits 8 first ++ rest)) ≡ rest)
set_length first front rest place len =
    let size : length (front ++ bits 8 first) ≡ 8 * (place + 1) =
    omega (arith, len, length-append front (bits 8 first), length-bits 8 first) in
    let parts : front ++ (bits 8 first ++ rest) ≡ (front ++ bits 8 first) ++ rest =
    sym (append_assoc front (bits 8 first) rest) in (
      ap (take (8 * (place + 1))) parts ∙ take_at (front ++ bits 8 first) rest (8 * (place + 1)) size,
      ap (drop (8 * (place + 1))) parts ∙ drop_at (front ++ bits 8 first) rest (8 * (place + 1)) size,
    )

pub two_octets : (first second : ℕ) (front rest : List Bool) (place : ℕ) → length front ≡ 8 * place
    → take (8 * (place + 1)) (front ++ (bits 8 first ++ rest))
    ++ (bits 8 second ++ drop (8 * (place + 1)) (front ++ (bits 8 first ++ rest)))
    ≡ front ++ (octet_bits (first ∷ second ∷ []) ++ rest)
two_octets first second front rest place len =
    let k = set_length first front rest place len in
    rw (k.0, k.1, append-nil (bits 8 second))
    (append_assoc front (bits 8 first) (bits 8 second ++ rest)
    ∙ ap (λ (l : List Bool). front ++ l) (sym (append_assoc (bits 8 first) (bits 8 second) rest)))

pub counted_in_two : (place n : ℕ) (old new : List Bool) → length old / 8 - place - 1 ≡ n → n < 16384 → 128 ≤ n
    → take (8 * place) old ++ (octet_bits ((128 + n / 256) ∷ (n % 256) ∷ []) ++ drop (8 * place + 8) old) ≡ new
    → count_after place old ≡ Ok new
unfolding count_after
counted_in_two place n old new many lt le e = rw (many, lt-ltb n 16384 lt, le-ltb n 128 le) (ap (λ (l : List Bool). Ok l) e)

-- ---- an open type

padded_below : (bs : List Bool) → all_below 256 (padded bs) ≡ true
unfolding padded
padded_below bs =
    let len : length (bs ++ pad (length bs)) ≡ 8 * ((length bs + 7) / 8) =
    omega (arith, length-append bs (pad (length bs)), length-replicate (padding (length bs)) false) in
    bytes-below (padded bs) (bytes-octets_of ((length bs + 7) / 8) (bs ++ pad (length bs)) len)

both_hold : (b c : Bool) → c ≡ true → (b && c) ≡ b
both_hold true c e = e
both_hold false c e = refl

-- the octets of a string after their length, from the next octet on
string_parts : (os : List ℕ) (old : List Bool)
    → old ++ string_form os (length old) ≡ (old ++ pad (length old)) ++ (octet_bits (length_octets (length os)) ++ octet_bits os)
string_parts os old =
    let counted : List Bool = octet_bits (length_octets (length os)) in
    let front : List Bool = pad (length old) in
    let whole : padding (length old + length (front ++ counted)) ≡ 0 =
    omega (
      arith,
      length-append front counted,
      length-replicate (padding (length old)) false,
      length-octet_bits (length_octets (length os)),
    ) in
    let none : pad (length old + length (front ++ counted)) ≡ [] = ap (λ k. replicate k false) whole in
    ap (λ (l : List Bool). old ++ ((front ++ counted) ++ (l ++ octet_bits os))) none
    ∙ ap (λ (l : List Bool). old ++ l) (append_assoc front counted (octet_bits os))
    ∙ sym (append_assoc old front (counted ++ octet_bits os))

-- a value that is written in octets of its own, as an open type
abbrev pub write_inside : {A : Type 0} → (A → List Bool → Result (List Bool) PerFault) → A → List Bool → Result (List Bool) PerFault
write_inside w a old = write_whole w a >>= λ os. write_string os old

open_is : {A : Type 0} (w : A → List Bool → Result (List Bool) PerFault) (a : A) (p : Placed (w a)) (old : List Bool)
    → p.fits ≡ true
    → write_inside w a old ≡ cond (ltb (length (padded (p.text 0))) 16384)
    (Ok ((old ++ pad (length old)) ++ (octet_bits (length_octets (length (padded (p.text 0)))) ++ octet_bits (padded (p.text 0)))))
    (Err Range)
open_is w a p old fits =
    let os : List ℕ = padded (p.text 0) in
    inside_written w a p.fits (p.text 0) old (p.puts [])
    ∙ ap (λ b. put_if (b && string_fits os) old (string_form os (length old))) fits
    ∙ ap (λ b. put_if b old (string_form os (length old)))
    (both_hold (ltb (length os) 16384) (all_below 256 os) (padded_below (p.text 0)))
    ∙ ap (λ (l : List Bool). cond (ltb (length os) 16384) (Ok l) (Err Range)) (string_parts os old)

counted_is : (front : List Bool) (os : List ℕ) (place : ℕ) → length front ≡ 8 * place
    → count_after place ((front ++ bits 8 0) ++ octet_bits os)
    ≡ cond (ltb (length os) 16384) (Ok (front ++ (octet_bits (length_octets (length os)) ++ octet_bits os))) (Err Range)
unfolding count_after
counted_is front os place len =
    let one : List Bool = front ++ bits 8 0 in
    let size : length one ≡ 8 * place + 8 = omega (arith, len, length-append front (bits 8 0), length-bits 8 0) in
    let many : length (one ++ octet_bits os) / 8 - place - 1 ≡ length os =
    omega (arith, size, length-append one (octet_bits os), length-octet_bits os) in
    let before : take (8 * place) (one ++ octet_bits os) ≡ front =
    ap (take (8 * place)) (append_assoc front (bits 8 0) (octet_bits os))
    ∙ take_at front (bits 8 0 ++ octet_bits os) (8 * place) len in
    let following : drop (8 * place + 8) (one ++ octet_bits os) ≡ octet_bits os = drop_at one (octet_bits os) (8 * place + 8) size in
    rw (many, before, following) refl

-- the value as it stands after an octet that was left for its length, and the bits up to the next octet
pub record StandsAfter (w : List Bool → Result (List Bool) PerFault) (old counted : List Bool) (place : ℕ) : Type 0 where
  pub one : List Bool
  pub whole : List Bool
  pub front : List Bool
  pub aligned : front ≡ old ++ pad (length old)
  pub at : place ≡ length front / 8
  pub left : one ≡ front ++ bits 8 0
  pub put : w one ≡ Ok whole
  pub ends : counted ≡ whole ++ pad (length whole)

-- the place of an octet that was just left
pub place_before : (front one : List Bool) (octets : ℕ) → one ≡ front ++ bits 8 0 → octets ≡ length one / 8
    → octets - 1 ≡ length front / 8
place_before front one octets left at =
    let size : length one ≡ length front + 8 = ap length left ∙ length-append front (bits 8 0)
    ∙ ap (λ n. length front + n) (length-bits 8 0) in
    omega (arith, at, size)

-- such a value, with what stands before it written out
record Parts (w : List Bool → Result (List Bool) PerFault) (p : Placed w) (old counted : List Bool) (place : ℕ) : Type 0 where
  size : length (old ++ pad (length old)) ≡ 8 * place
  fits : p.fits ≡ true
  all : counted ≡ ((old ++ pad (length old)) ++ bits 8 0) ++ octet_bits (padded (p.text 0))

parts_of : (w : List Bool → Result (List Bool) PerFault) (p : Placed w) (old counted : List Bool) (place : ℕ)
    → StandsAfter w old counted place → Parts w p old counted place
parts_of w p old counted place b =
    let front : List Bool = old ++ pad (length old) in
    let one : List Bool = front ++ bits 8 0 in
    let text : List Bool = p.text 0 in
    let whole : List Bool = b.whole in
    let at : place ≡ length front / 8 = b.at ∙ ap (λ (l : List Bool). length l / 8) b.aligned in
    let left : b.one ≡ one = b.left ∙ ap (λ (l : List Bool). l ++ bits 8 0) b.aligned in
    let size : length front ≡ 8 * place =
    omega (arith, at, length-append old (pad (length old)), length-replicate (padding (length old)) false) in
    let following : length one % 8 ≡ 0 = omega (arith, size, length-append front (bits 8 0), length-bits 8 0) in
    let k = was_put w p one whole (sym (ap w left) ∙ b.put) in
    let same : whole ≡ one ++ text = sym k.1 ∙ ap (λ (l : List Bool). one ++ l) (p.same (length one) 0 following) in
    let gap : pad (length whole) ≡ pad (length text) =
    pad_same (length whole) (length text) (let l = ap length same in omega (arith, l, following, length-append one text)) in
    let all : counted ≡ one ++ octet_bits (padded text) =
    b.ends ∙ ap (λ (l : List Bool). whole ++ l) gap ∙ ap (λ (l : List Bool). l ++ pad (length text)) same
    ∙ append_assoc one text (pad (length text)) ∙ ap (λ (l : List Bool). one ++ l) (sym (padded-bits text)) in
    record { size = size; fits = k.0; all = all }

-- the octet that counts was written
pub open_room : (w : List Bool → Result (List Bool) PerFault) (p : Placed w) (old counted : List Bool) (place : ℕ)
    → StandsAfter w old counted place → 8 * place + 8 ≤ length counted
open_room w p old counted place b =
    let front : List Bool = old ++ pad (length old) in
    let one : List Bool = front ++ bits 8 0 in
    let k = parts_of w p old counted place b in
    let l = ap length k.all in
    omega (arith, k.size, l, length-append front (bits 8 0), length-bits 8 0, length-append one (octet_bits (padded (p.text 0))))

pub open_written : {A X : Type 0} (w : A → List Bool → Result (List Bool) PerFault) (a : A) (p : Placed (w a))
    (old counted new : List Bool) (place : ℕ) (r : Result X PerError)
    → StandsAfter (w a) old counted place
    → Wrote r new (count_after place counted) → Wrote r new (write_inside w a old)
open_written w a p old counted new place r b h =
    let front : List Bool = old ++ pad (length old) in
    let k = parts_of (w a) p old counted place b in
    let same : write_inside w a old ≡ count_after place counted =
    open_is w a p old k.fits ∙ sym (ap (count_after place) k.all ∙ counted_is front (padded (p.text 0)) place k.size) in
    subst (λ (q : Result (List Bool) PerFault). Wrote r new q) (sym same) h

open_refused : {A : Type 0} (w : A → List Bool → Result (List Bool) PerFault) (a : A) (p : Placed (w a)) (old one : List Bool)
    (fault : PerFault)
    → w a one ≡ Err fault → write_inside w a old ≡ Err fault
open_refused w a p old one fault e =
    let k = refused (w a) p one fault e in
    let os : List ℕ = padded (p.text 0) in
    inside_written w a p.fits (p.text 0) old (p.puts [])
    ∙ ap (λ b. put_if (b && string_fits os) old (string_form os (length old))) k.0 ∙ ap (λ r. Err r) (sym k.1)

pub open_fails : {A : Type 0} (w : A → List Bool → Result (List Bool) PerFault) (a : A) (p : Placed (w a)) (old one : List Bool)
    (e : PerError)
    → Fails e (w a one) → Fails e (write_inside w a old)
open_fails w a p old one errors.NoMemory h = tt
open_fails w a p old one (errors.Fault fault) h = open_refused w a p old one fault h
