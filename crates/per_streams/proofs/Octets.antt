-- Numbers as octets.
use Rattle.std.proofs.Common.{◌≡◌, ℕ, ◌/◌, ◌%◌, ◌^◌, ◌<◌, ◌+◌, Bool, List, [], ◌∷◌, ◌++◌, length, sym, ap, ◌∙◌, append_assoc, arith}
use Rattle.std.proofs.lemmas.List.{append-nil}
use Rattle.per_streams.specs.Bits.{bits, octet_bits, pad}
use Rattle.per_streams.specs.BitLaws.{length-bits}
use Rattle.per_streams.specs.PartLaws.{bits-split}

-- a number of two octets before some bits
before : (n : ℕ) (more : List Bool) → n < 2 ^ 16 → bits 8 (n / 256) ++ (bits 8 (n % 256) ++ more) ≡ bits 16 n ++ more
before n more fits =
    sym (append_assoc (bits 8 (n / 256)) (bits 8 (n % 256)) more)
    ∙ ap (λ (l : List Bool). l ++ more) (sym (bits-split 16 8 n (omega (arith)) fits).0)

pub two_octets : (n : ℕ) → n < 2 ^ 16 → octet_bits (n / 256 ∷ n % 256 ∷ []) ≡ bits 16 n
two_octets n fits = before n [] fits ∙ append-nil (bits 16 n)

pub three_octets : (n : ℕ) → n < 2 ^ 24 → octet_bits (n / 256 / 256 ∷ n / 256 % 256 ∷ n % 256 ∷ []) ≡ bits 24 n
three_octets n fits =
    let k = bits-split 24 16 n (omega (arith)) fits in
    before (n / 256) (bits 8 (n % 256) ++ []) k.1
    ∙ ap (λ (l : List Bool). bits 16 (n / 256) ++ l) (append-nil (bits 8 (n % 256))) ∙ sym k.0

pub four_octets : (n : ℕ) → n < 2 ^ 32
    → octet_bits (n / 65536 / 256 ∷ n / 65536 % 256 ∷ n % 65536 / 256 ∷ n % 65536 % 256 ∷ []) ≡ bits 32 n
four_octets n fits =
    let k = bits-split 32 16 n (omega (arith)) fits in
    before (n / 65536) (octet_bits (n % 65536 / 256 ∷ n % 65536 % 256 ∷ [])) k.1
    ∙ ap (λ (l : List Bool). bits 16 (n / 65536) ++ l) (two_octets (n % 65536) k.2) ∙ sym k.0

-- octets after the octet in which their count ends
pub counted : (old before head octets new written : List Bool) (wide count : ℕ)
    → before ++ head ≡ (old ++ bits wide count) ++ pad (length old + wide)
    → new ≡ before ++ (head ++ written) → written ≡ octets
    → old ++ (bits wide count ++ (pad (length old + length (bits wide count)) ++ octets)) ≡ new
counted old before head octets new written wide count e put same =
    let gap : List Bool = pad (length old + wide) in
    ap (λ j. old ++ (bits wide count ++ (pad (length old + j) ++ octets))) (length-bits wide count)
    ∙ sym (append_assoc old (bits wide count) (gap ++ octets))
    ∙ sym (append_assoc (old ++ bits wide count) gap octets)
    ∙ ap (λ (l : List Bool). l ++ octets) (sym e)
    ∙ append_assoc before head octets
    ∙ ap (λ (l : List Bool). before ++ (head ++ l)) (sym same) ∙ sym put
