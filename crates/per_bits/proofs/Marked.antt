-- The octets of an element's value, where its criticality and their count are the two octets before them.
use Rattle.std.proofs.Common.{◌≡◌, ℕ, ◌+◌, ◌-◌, ◌*◌, ◌/◌, ◌%◌, ◌<◌, ◌≤◌, Bool, false, List, ◌++◌, length, drop, replicate, Ok, refl, sym, ap, ◌∙◌, append_assoc, arith}
use Rattle.std.proofs.lemmas.Bool.{lt-ltb}
use Rattle.std.proofs.lemmas.List.{append-nil, length-append, length-replicate}
use Rattle.per_streams.specs.Bits.{Place, bits, octet_bits, pad, padding, length_at, open_at, aligned_octets_at}
use Rattle.per_streams.specs.BitLaws.{length-bits}
use Rattle.per_streams.specs.TwoOctets.{past_two, Stand}
use Rattle.per_streams.specs.Numbers.{offset_bits, width_of, whole}
use Rattle.per_streams.specs.Reading.{number_at}
use Rattle.per_bits.specs.Spelling.{length_octets}
use Rattle.per_bits.specs.FormatLaws.{exact_number, exact_length}
use Rattle.per_bits.specs.HeadLaws.{mark_octet}
use Rattle.per_bits.specs.Reading.{marked_at}

two_bits : (k at : ℕ) → bits 2 k ≡ whole 0 2 k at
unfolding offset_bits width_of
two_bits k at = let same : k - 0 ≡ k = omega arith in rw same refl

one_octet : (n : ℕ) → n < 128 → octet_bits (length_octets n) ≡ bits 8 n
one_octet n few = rw (lt-ltb n 128 few) (append-nil (bits 8 n))

pub marked_is : (mark count : ℕ) (s : Place) → Stand mark count s → mark % 64 ≡ 0 → mark / 64 ≤ 2 → count < 128
    → marked_at s ≡ aligned_octets_at count (past_two s)
unfolding open_at
marked_is mark count s h zeros few short =
    let k : ℕ = mark / 64 in
    let after : List Bool = drop 16 s.rest in
    let shifted : mark ≡ k * 64 = omega arith in
    let octet : bits 8 mark ≡ bits 2 k ++ replicate 6 false = ap (bits 8) shifted ∙ mark_octet k few in
    let at : ℕ = s.at + length (bits 2 k) in
    let whole_octet = h.at in
    let six : padding at ≡ 6 = omega (arith, length-bits 2 k, whole_octet) in
    let gap : pad at ≡ replicate 6 false = ap (λ n. replicate n false) six in
    let size : List Bool = pad at ++ octet_bits (length_octets count) in
    let size_is : size ≡ replicate 6 false ++ bits 8 count =
    ap (λ (l : List Bool). l ++ octet_bits (length_octets count)) gap
    ∙ ap (λ (l : List Bool). replicate 6 false ++ l) (one_octet count short) in
    let text : s.rest ≡ bits 2 k ++ (size ++ after) =
    h.rest ∙ ap (λ (l : List Bool). l ++ (bits 8 count ++ after)) octet
    ∙ append_assoc (bits 2 k) (replicate 6 false) (bits 8 count ++ after)
    ∙ ap (λ (l : List Bool). bits 2 k ++ l)
    (sym (append_assoc (replicate 6 false) (bits 8 count) after) ∙ ap (λ (l : List Bool). l ++ after) (sym size_is)) in
    let small : k - 0 ≤ 2 = omega arith in
    let first : number_at 0 2 s ≡ Ok (k, record { at = at; rest = size ++ after }) =
    ap (λ (l : List Bool). number_at 0 2 (record { at = s.at; rest = l })) text
    ∙ (exact_number 0 2).again k s.at (bits 2 k) (size ++ after) (omega arith, small, omega (arith, small), two_bits k s.at) in
    let second : length_at (record { at = at; rest = size ++ after }) ≡ Ok (count, record { at = at + length size; rest = after }) =
    exact_length.again count at size after (omega (arith, short), refl) in
    let length_is = ap length size_is in
    let place : at + length size ≡ s.at + 16 =
    omega (
      arith,
      length-bits 2 k,
      length_is,
      length-append (replicate 6 false) (bits 8 count),
      length-replicate 6 false,
      length-bits 8 count,
    ) in
    rw (first, second, place) refl
