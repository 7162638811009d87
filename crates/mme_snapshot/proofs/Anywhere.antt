-- Octets that spell a value are read as it wherever an octet begins, whatever follows.
use Rattle.std.proofs.Common.{◌≡◌, ℕ, ◌+◌, ◌*◌, ◌%◌, ◌∙◌, List, ◌++◌, length, Ok, Bool, refl, sym, ap, arith, append_assoc}
use Rattle.std.proofs.lemmas.List.{length-append}
use Rattle.per_streams.specs.Bits.{Place, ◌>>=◌, align_at, octet_bits, pad}
use Rattle.per_streams.specs.BitLaws.{length-octet_bits}
use Rattle.per_streams.specs.OctetLaws.{exact_align}
use Rattle.per_bits.specs.Formats.{Format, Value}
use Rattle.per_bits.specs.FormatLaws.{exact}
use Rattle.per_bits.specs.Reading.{read_at}
use Rattle.per_bits.specs.Spelling.{SpellsWhole}
use Rattle.mme_snapshot.specs.Restored.{part_at}
use Rattle.mme_snapshot.proofs.Moved.{pad_same, spells_move}

-- a place where octets stand, and others after them
abbrev pub place_of : ℕ → List ℕ → List Bool → Place
place_of at os rest = record { at = at; rest = octet_bits os ++ rest }

-- the place after them
abbrev pub after : ℕ → List ℕ → List Bool → Place
after at os rest = record { at = at + 8 * length os; rest = rest }

pub stays_whole : (at n : ℕ) → at % 8 ≡ 0 → (at + 8 * n) % 8 ≡ 0
stays_whole at n h = omega (arith, h)

pub read_anywhere : (f : Format) (v : Value f) (os : List ℕ) (at : ℕ) (rest : List Bool) → SpellsWhole f v os → at % 8 ≡ 0
    → part_at f (place_of at os rest) ≡ Ok (v, after at os rest)
unfolding part_at
read_anywhere f v os at rest m whole =
    let bs : List Bool = m.0 in
    let moved = spells_move f v 0 at bs (sym whole) m.2 in
    let here : Place = record { at = at + length bs; rest = pad (at + length bs) ++ rest } in
    let same : pad (length bs) ≡ pad (at + length bs) = pad_same (length bs) (at + length bs) (omega (arith, whole)) in
    let text : octet_bits os ++ rest ≡ bs ++ (pad (at + length bs) ++ rest) =
    ap (λ (l : List Bool). l ++ rest) (m.1 ∙ ap (λ (l : List Bool). bs ++ l) same) ∙ append_assoc bs (pad (at + length bs)) rest in
    let size : length bs + length (pad (at + length bs)) ≡ 8 * length os =
    sym (length-append bs (pad (at + length bs))) ∙ ap length (sym (m.1 ∙ ap (λ (l : List Bool). bs ++ l) same)) ∙ length-octet_bits os in
    let read : read_at f (record { at = at; rest = bs ++ (pad (at + length bs) ++ rest) }) ≡ Ok (v, here) =
    (exact f).again v at bs (pad (at + length bs) ++ rest) moved in
    let aligned : align_at here ≡ Ok (tt, record { at = at + length bs + length (pad (at + length bs)); rest = rest }) =
    exact_align.again tt (at + length bs) (pad (at + length bs)) rest refl in
    let place : at + length bs + length (pad (at + length bs)) ≡ at + 8 * length os = omega (arith, size) in
    let start : part_at f (place_of at os rest) ≡ part_at f (record { at = at; rest = bs ++ (pad (at + length bs) ++ rest) }) =
    ap (λ (l : List Bool). part_at f (record { at = at; rest = l })) text in
    let middle : part_at f (record { at = at; rest = bs ++ (pad (at + length bs) ++ rest) })
    ≡ Ok (v, record { at = at + length bs + length (pad (at + length bs)); rest = rest }) =
    ap (λ r. r >>= λ x. align_at x.1 >>= λ a. Ok (x.0, a.1)) read ∙ ap (λ r. r >>= λ a. Ok (v, a.1)) aligned in
    start ∙ middle ∙ ap (λ n. Ok (v, record { at = n; rest = rest })) place
