-- What stands before the value of an element, as four octets.
use Rattle.std.proofs.Common.{◌≡◌, ℕ, ◌*◌, ◌/◌, ◌%◌, ◌<◌, ◌≤◌, Bool, false, List, [], ◌∷◌, ◌++◌, length, replicate, Err, refl, sym, ap, ◌∙◌, append_assoc, arith}
use Rattle.std.proofs.lemmas.List.{append-nil, length-append, length-replicate}
use Rattle.per_streams.specs.declared.fault.PerFault.TheVariants.{Range}
use Rattle.per_streams.specs.Bits.{bits, octet_bits, pad, padding}
use Rattle.per_streams.specs.BitLaws.{length-bits}
use Rattle.per_bits.specs.Formats.{Format, Value, open_type}
use Rattle.per_bits.specs.HeadLaws.{criticality_refused, criticality_written, id_written, mark_octet, two_octets}
use Rattle.per_bits.specs.Writing.{write_at, write_element}

head_octets : (id k : ℕ) → id < 65536 → k ≤ 2
    → octet_bits (id / 256 ∷ id % 256 ∷ k * 64 ∷ 0 ∷ []) ≡ bits 16 id ++ (bits 2 k ++ (replicate 6 false ++ bits 8 0))
head_octets id k small few =
    rw (append-nil (bits 8 0), mark_octet k few)
    (sym (append_assoc (bits 8 (id / 256)) (bits 8 (id % 256)) ((bits 2 k ++ replicate 6 false) ++ bits 8 0))
    ∙ ap (λ (l : List Bool). l ++ ((bits 2 k ++ replicate 6 false) ++ bits 8 0)) (two_octets id small)
    ∙ ap (λ (l : List Bool). bits 16 id ++ l) (append_assoc (bits 2 k) (replicate 6 false) (bits 8 0)))

-- id and criticality after the bits so far
abbrev pub head_after : ℕ → ℕ → List Bool → List Bool
head_after id k old = (old ++ (pad (length old) ++ bits 16 id)) ++ bits 2 k

pub headed : (id k : ℕ) (old aligned new : List Bool) → id < 65536 → k ≤ 2 → aligned ≡ old ++ pad (length old)
    → new ≡ aligned ++ octet_bits (id / 256 ∷ id % 256 ∷ k * 64 ∷ 0 ∷ [])
    → new ≡ (head_after id k old ++ pad (length (head_after id k old))) ++ bits 8 0
headed id k old aligned new small few a b =
    let gap : List Bool = pad (length old) in
    let first : List Bool = old ++ (gap ++ bits 16 id) in
    let out : List Bool = first ++ bits 2 k in
    let size : padding (length out) ≡ 6 =
    omega (
      arith,
      length-append first (bits 2 k),
      length-bits 2 k,
      length-append old (gap ++ bits 16 id),
      length-append gap (bits 16 id),
      length-bits 16 id,
      length-replicate (padding (length old)) false,
    ) in
    let six : pad (length out) ≡ replicate 6 false = ap (λ n. replicate n false) size in
    let front : first ≡ aligned ++ bits 16 id =
    sym (append_assoc old gap (bits 16 id)) ∙ ap (λ (l : List Bool). l ++ bits 16 id) (sym a) in
    b ∙ ap (λ (l : List Bool). aligned ++ l) (head_octets id k small few)
    ∙ sym (append_assoc aligned (bits 16 id) (bits 2 k ++ (replicate 6 false ++ bits 8 0)))
    ∙ ap (λ (l : List Bool). l ++ (bits 2 k ++ (replicate 6 false ++ bits 8 0))) (sym front)
    ∙ sym (append_assoc first (bits 2 k) (replicate 6 false ++ bits 8 0))
    ∙ sym (append_assoc out (replicate 6 false) (bits 8 0))
    ∙ ap (λ (l : List Bool). (out ++ l) ++ bits 8 0) (sym six)

pub element_written : (id k : ℕ) (f : Format) (v : Value f) (old : List Bool) → id < 65536 → k ≤ 2
    → write_element id k f v old ≡ write_at (open_type f) v (head_after id k old)
element_written id k f v old small few =
    rw (id_written id old small, criticality_written k (old ++ (pad (length old) ++ bits 16 id)) few) refl

pub element_refused : (id k : ℕ) (f : Format) (v : Value f) (old : List Bool) → id < 65536 → 2 < k
    → write_element id k f v old ≡ Err Range
element_refused id k f v old small many =
    rw (id_written id old small, criticality_refused k (old ++ (pad (length old) ++ bits 16 id)) many) refl
