-- What the search for an LF says of the octets before it.
use Rattle.std.proofs.Common.{◌≡◌, ℕ, zero, suc, ◌<◌, ◌≤◌, ◌==◌, Bool, true, false, List, [], ◌∷◌, ◌++◌, length, take, Option, Some, None, Ok, inr, refl, sym, ap, ◌∙◌, arith}
use Rattle.std.specs.Prelude.{slice_index, ◌⊎◌, IfSome, IfNone}
use Rattle.std.specs.Option.{unwrap_or}
use Rattle.std.proofs.lemmas.Bool.Decides.{nat_tests}
use Rattle.std.proofs.lemmas.List.{take_all}
use Rattle.memchr.specs.Find.{IsFirstByte, is_byte}
use Rattle.trace_progress.specs.Text.{breaks}
use Rattle.trace_run.specs.Parts.{LiesWhole, TakesPart}

is_false : (b : Bool) → ¬ (b ≡ true) → b ≡ false
is_false true h = absurd (h refl)
is_false false h = refl

is_lf : (octet : ℕ) → (octet == 10) ≡ true → octet ≡ 10
is_lf octet h = grind (arith, nat_tests)

unbroken : (xs : List ℕ) (n : ℕ) → n ≤ length xs → ((k : ℕ) → 0 ≤ k → k < n → ¬ ((slice_index xs k == 10) ≡ true))
    → breaks (take n xs) ≡ 0
unbroken xs zero h none = refl
unbroken [] (suc n) h none = absurd (omega arith)
unbroken (x ∷ xs) (suc n) h none =
    rw (is_false (x == 10) (none 0 (omega arith) (omega arith)))
    (unbroken xs n (omega arith) (λ k low high. none (suc k) (omega arith) (omega arith)))

-- the part before the first LF, or the whole piece, has no LF
pub part_unbroken : (piece : List ℕ) (found : Option ℕ) → IsFirstByte (is_byte 10) piece found
    → breaks (take (unwrap_or found (length piece)) piece) ≡ 0
part_unbroken piece None none = unbroken piece (length piece) (omega arith) none
part_unbroken piece (Some end) first = let high = first.0.high in unbroken piece end (omega (arith, high)) first.0.before

-- a line that has gone on by that part
pub TakesPart-found : (number : ℕ) (old piece new : List ℕ) (found : Option ℕ) → IsFirstByte (is_byte 10) piece found
    → new ≡ old ++ take (unwrap_or found (length piece)) piece → length new ≤ 40000 → TakesPart number old piece (Ok found) new
TakesPart-found number old piece new None none e short =
    let whole = take_all (length piece) piece (omega arith) in
    (ap breaks (sym whole) ∙ part_unbroken piece None none, e ∙ ap (λ v. old ++ v) whole, short)
TakesPart-found number old piece new (Some end) first e short =
    (first.0.high, is_lf (slice_index piece end) first.1, (part_unbroken piece (Some end) first, e, short))

nothing : (line : List ℕ) → length line ≡ 0 → line ≡ []
nothing [] h = refl
nothing (x ∷ xs) h = absurd (omega (arith, h))

-- the first LF ends a line of which nothing has come
pub LiesWhole-found : (line piece : List ℕ) (found : Option ℕ) → length line ≡ 0 → IsFirstByte (is_byte 10) piece found
    → IfSome found (λ end. LiesWhole line piece end)
LiesWhole-found line piece None e none = tt
LiesWhole-found line piece (Some end) e first =
    (nothing line e, first.0.high, is_lf (slice_index piece end) first.1, part_unbroken piece (Some end) first)

-- and without an LF there is none
pub LiesWhole-none : (line piece : List ℕ) (found : Option ℕ) → IsFirstByte (is_byte 10) piece found
    → IfNone found ((0 < length line) ⊎ (breaks piece ≡ 0))
LiesWhole-none line piece None none =
    inr (ap breaks (sym (take_all (length piece) piece (omega arith))) ∙ part_unbroken piece None none)
LiesWhole-none line piece (Some end) first = tt
