-- How long what is written is, to the octet.
use Rattle.std.proofs.Common.{◌≡◌, ℕ, zero, suc, ◌+◌, ◌-◌, ◌*◌, ◌/◌, ◌%◌, ◌^◌, ◌<◌, ◌≤◌, Bool, true, false, cond, eqb, ltb, List, [], ◌∷◌, ◌++◌, length, take, drop, refl, ap, ◌∙◌, arith}
use Rattle.std.proofs.lemmas.Bool.{and_from, and_parts, eqb-true, le-ltb, lt-ltb, ltb-true}
use Rattle.std.proofs.lemmas.List.{length-append, length-replicate, length-take}
use Rattle.std.proofs.Math.Pow.{pow_mono}
use Rattle.per_streams.specs.Bits.{bits, octet_bits, octets_of_bits, pad, padded, padding, value}
use Rattle.per_streams.specs.BitLaws.{length-bits, length-octet_bits, value_below}
use Rattle.per_streams.specs.Octet.{AreBytes, IsLong, all_below}
use Rattle.per_bits.specs.Formats.{open_type, raw}
use Rattle.per_bits.specs.Numbers.{offset_bits, whole, width_of}
use Rattle.per_bits.specs.Spelling.{length_octets}
use Rattle.per_bits.specs.Written.{aligned_form, each_fits, each_form, length_form, number_fits, string_fits, string_form, writable, written}
use Rattle.s1ap_rows.specs.Spelling.{Raw, message, octets_of}

-- an octet begins anew: no padding
no_pad : (k at : ℕ) → at ≡ 8 * k → length (pad at) ≡ 0
no_pad k at e = length-replicate (padding at) false ∙ omega (arith, e)

-- after two bits of an octet
pad_six : (k at : ℕ) → at ≡ 8 * k + 2 → length (pad at) ≡ 6
pad_six k at e = length-replicate (padding at) false ∙ omega (arith, e)

made_long : (n : ℕ) (bs : List Bool) → length (octets_of_bits n bs) ≡ n
unfolding octets_of_bits
made_long zero bs = refl
made_long (suc n) bs = ap suc (made_long n (drop 8 bs))

-- N octets, the last of them not always whole
pub padded_long : (n : ℕ) (bs : List Bool) → length bs ≤ 8 * n → 8 * n < length bs + 8 → length (padded bs) ≡ n
unfolding padded
padded_long n bs most least =
    let long = made_long ((length bs + 7) / 8) (bs ++ pad (length bs)) in omega (arith, long, most, least)

octets_below : (n : ℕ) (bs : List Bool) → all_below 256 (octets_of_bits n bs) ≡ true
unfolding octets_of_bits
octets_below zero bs = refl
octets_below (suc n) bs =
    let few : length (take 8 bs) ≤ 8 = omega (arith, length-take 8 bs) in
    let most : 2 ^ length (take 8 bs) ≤ 256 = pow_mono few in
    let first = value_below (take 8 bs) in
    and_from _ _ (lt-ltb (value (take 8 bs)) 256 (omega (arith, first, most))) (octets_below n (drop 8 bs))

pub padded_below : (bs : List Bool) → all_below 256 (padded bs) ≡ true
unfolding padded
padded_below bs = octets_below ((length bs + 7) / 8) (bs ++ pad (length bs))

-- ---- parts of an encoding

-- exactly n bits
pub record Long (n : ℕ) (bs : List Bool) : Type 0 where
  pub exact : length bs ≡ n

pub none : Long 0 []
none = record { exact = refl }

pub bit : {b : Bool} {bs : List Bool} {n : ℕ} → Long n bs → Long (n + 1) (b ∷ bs)
bit l = record { exact = (let h = l.exact in omega (arith, h)) }

pub join : {xs ys : List Bool} {m n : ℕ} → Long m xs → Long n ys → Long (m + n) (xs ++ ys)
join {xs = xs} {ys = ys} l k = record { exact = (let p = l.exact in let q = k.exact in omega (arith, p, q, length-append xs ys)) }

-- the place after some bits
pub after : {xs : List Bool} {m : ℕ} (at n : ℕ) → Long m xs → at + m ≡ n → at + length xs ≡ n
after at n l e = let h = l.exact in omega (arith, h, e)

pub bits_long : (w n : ℕ) → Long w (bits w n)
bits_long w n = record { exact = length-bits w n }

pub octets_long : (os : List ℕ) (n : ℕ) → AreBytes n os → Long (8 * n) (octet_bits os)
octets_long os n h =
    let long = eqb-true (length os) n (and_parts (eqb (length os) n) (all_below 256 os) h).0 in
    record { exact = omega (arith, long, length-octet_bits os) }

pub pad_long : (at k n : ℕ) → at ≡ k → padding k ≡ n → Long n (pad at)
pad_long at k n e p = record { exact = length-replicate (padding at) false ∙ (ap padding e ∙ p) }

pub string_long : {bs : List Bool} (n : ℕ) → IsLong n bs → Long n bs
string_long {bs = bs} n h = record { exact = eqb-true (length bs) n h }

-- as octets
pub octets_exact : {bs : List Bool} {m : ℕ} (n : ℕ) → Long m bs → m ≤ 8 * n → 8 * n < m + 8 → length (padded bs) ≡ n
octets_exact {bs = bs} n l most least =
    let h = l.exact in padded_long n bs (omega (arith, h, most)) (omega (arith, h, least))

-- ---- strings

-- how many octets a length takes
abbrev pub ahead : ℕ → ℕ
ahead n = length (length_octets n)

one_or_two : Bool → ℕ → ℕ
one_or_two b n = length (cond b (n ∷ []) ((128 + n / 256) ∷ (n % 256) ∷ []))

pub ahead_small : (n : ℕ) → n < 128 → ahead n ≡ 1
unfolding one_or_two
ahead_small n h = ap (λ b. one_or_two b n) (lt-ltb n 128 h)

pub ahead_large : (n : ℕ) → 128 ≤ n → ahead n ≡ 2
unfolding one_or_two
ahead_large n h = ap (λ b. one_or_two b n) (le-ltb n 128 h)

two_most : (b : Bool) (n : ℕ) → one_or_two b n ≤ 2
unfolding one_or_two
two_most true n = omega arith
two_most false n = omega arith

pub ahead_most : (n : ℕ) → ahead n ≤ 2
unfolding one_or_two
ahead_most n = two_most (ltb n 128) n

pub string_ends : (os : List ℕ) (at m : ℕ) → at + length (pad at) ≡ 8 * m
    → at + length (string_form os at) ≡ 8 * (m + (ahead (length os) + length os))
string_ends os at m e =
    let first = length_form (length os) at in
    let second = aligned_form os (at + length first) in
    let long : length first ≡ length (pad at) + 8 * ahead (length os) =
    length-append (pad at) (octet_bits (length_octets (length os)))
    ∙ ap (λ k. length (pad at) + k) (length-octet_bits (length_octets (length os))) in
    let place : at + length first ≡ 8 * (m + ahead (length os)) = omega (arith, long, e) in
    let none : length (pad (at + length first)) ≡ 0 = no_pad (m + ahead (length os)) (at + length first) place in
    let more : length second ≡ length (pad (at + length first)) + 8 * length os =
    length-append (pad (at + length first)) (octet_bits os)
    ∙ ap (λ k. length (pad (at + length first)) + k) (length-octet_bits os) in
    let all : length (string_form os at) ≡ length first + length second = length-append first second in
    omega (arith, place, none, more, all)

-- ---- an element: id, criticality, octets

id_long : (id k at : ℕ) → at ≡ 8 * k → Long 16 (whole 0 65535 id at)
unfolding offset_bits
id_long id k at e = join (record { exact = no_pad k at e }) (bits_long 16 (id - 0))

criticality_long : (c at : ℕ) → Long 2 (whole 0 2 c at)
unfolding offset_bits width_of
criticality_long c at = bits_long 2 (c - 0)

abbrev pub element_size : List ℕ → ℕ
element_size os = 3 + (ahead (length os) + length os)

pub element_ends : (id c : ℕ) (os : List ℕ) (k at : ℕ) → at ≡ 8 * k
    → at + length (written raw (id, (c, (os, tt))) at) ≡ 8 * (k + element_size os)
element_ends id c os k at e =
    let first = whole 0 65535 id (at + 0) in
    let second = whole 0 2 c (at + 0 + length first) in
    let place = at + 0 + length first + length second in
    let third = string_form os place in
    let one : Long 16 first = id_long id k (at + 0) (omega (arith, e)) in
    let two : Long 2 second = criticality_long c (at + 0 + length first) in
    let begun : place ≡ 8 * k + 18 = (let m = one.exact in let n = two.exact in omega (arith, e, m, n)) in
    let six : length (pad place) ≡ 6 = pad_six (k + 2) place (omega (arith, begun)) in
    let ends : place + length third ≡ 8 * (k + 3 + (ahead (length os) + length os)) =
    string_ends os place (k + 3) (omega (arith, begun, six)) in
    let all : Long (16 + (2 + (length third + 0))) (first ++ (second ++ (third ++ []))) =
    join one (join two (join (record { exact = refl }) none)) in
    let long = all.exact in
    omega (arith, e, begun, ends, long)

-- ---- the elements of a message

abbrev pub sizes : List Raw → ℕ
sizes [] = 0
sizes (e ∷ es) = element_size (octets_of e) + sizes es

each_ends : (es : List Raw) (k at : ℕ) → at ≡ 8 * k → at + length (each_form (written raw) es at) ≡ 8 * (k + sizes es)
each_ends [] k at e = omega (arith, e)
each_ends ((id, (c, (os, u))) ∷ es) k at e =
    let one = written raw (id, (c, (os, u))) at in
    let first : at + length one ≡ 8 * (k + element_size os) = element_ends id c os k at e in
    let more = each_ends es (k + element_size os) (at + length one) first in
    let both = length-append one (each_form (written raw) es (at + length one)) in
    omega (arith, first, more, both)

content_long : (es : List Raw) → length (written message (es, tt) 0) ≡ 8 * (3 + sizes es)
unfolding offset_bits
content_long es =
    let count : Long 23 (whole 0 65535 (length es) 1) = join (pad_long 1 1 7 refl refl) (bits_long 16 (length es - 0)) in
    let place = 1 + length (whole 0 65535 (length es) 1) in
    let each = each_form (written raw) es place in
    let ends : place + length each ≡ 8 * (3 + sizes es) = each_ends es 3 place (after 1 24 count refl) in
    let all : Long (23 + length each + 0 + 1) (written message (es, tt) 0) =
    bit (join (join count (record { exact = refl })) none) in
    let long = all.exact in
    let counted = count.exact in
    omega (arith, long, ends, counted)

content_octets : (es : List Raw) → length (padded (written message (es, tt) 0)) ≡ 3 + sizes es
content_octets es =
    let long = content_long es in
    padded_long (3 + sizes es) (written message (es, tt) 0) (omega (arith, long)) (omega (arith, long))

-- the open type around them has 16383 octets at most, 3 of them for their count
abbrev pub elements_room : ℕ
elements_room = 16380

-- the elements of a message that can be written take at most the room that there is for them
pub room : (es : List Raw) → writable (open_type message) (es, tt) ≡ true → sizes es ≤ elements_room
room es h =
    let long = content_octets es in
    let parts = and_parts (writable message (es, tt)) (string_fits (padded (written message (es, tt) 0))) h in
    let few = and_parts (ltb (length (padded (written message (es, tt) 0))) 16384) _ parts.1 in
    let short = ltb-true (length (padded (written message (es, tt) 0))) 16384 few.0 in
    omega (arith, long, short)

pub fits : (es : List Raw) → number_fits 0 65535 (length es) ≡ true → each_fits (writable raw) es ≡ true → sizes es ≤ elements_room
    → writable (open_type message) (es, tt) ≡ true
fits es count each few =
    let bs = written message (es, tt) 0 in
    let long : length (padded bs) ≡ 3 + sizes es = content_octets es in
    and_from _ _ (and_from _ _ (and_from _ _ count each) refl)
    (and_from _ _ (lt-ltb (length (padded bs)) 16384 (omega (arith, long, few))) (padded_below bs))
