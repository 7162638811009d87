-- Lines of events, from what they say.
use Rattle.std.proofs.Common.{◌≡◌, ℕ, ◌+◌, ◌<◌, ◌≤◌, List, [], ◌∷◌, true, length, codes, Result, Ok, refl, ap, arith, length-append}
use Rattle.std.specs.Fmt.{decimal}
use Rattle.std.proofs.lemmas.Fmt.{length-decimal-le}
use Rattle.hex.specs.Hex.{IsBytes}
use Rattle.trace_words.specs.declared.line.Line.TheVariants.{Up, Lost, In}
use Rattle.trace_words.specs.declared.fault.TraceFault.{TraceFault}
use Rattle.trace_words.specs.Trace.{◌>>=◌, ◌␣◌, station_field, octets_text, line_text, read_in}
use Rattle.trace_words.specs.Lines.{IsRewritten, is_unbroken}
use Rattle.trace_words.specs.WordLaws.{decimal_word, shown_word}
use Rattle.trace_words.proofs.Words.{spaced, unbroken_field}
use Rattle.trace_words.proofs.Rewritten.{number_written, octets_of-shown}
use Rattle.trace_words.proofs.Reread.{rewritten, up_reread, lost_reread, in_reread}

station_written : (e : ℕ) → e < 128 → station_field (decimal e) ≡ Ok e
station_written e h = number_written 0 127 e (omega arith) (omega arith) (omega arith)

three_digits : (e : ℕ) → e < 128 → length (decimal e) ≤ 3
three_digits e h = length-decimal-le 3 e (omega arith) (omega arith) (omega arith)

pub up_written : (e : ℕ) → e < 128 → IsRewritten (Up e)
up_written e h =
    let digits = three_digits e h in
    rewritten (Up e) (3 + spaced (decimal e ∷ [])) (omega (arith, digits))
    (up_reread (decimal e ∷ []) (Up e) (ap (λ (r : Result ℕ TraceFault). r >>= (λ n. Ok (Up n))) (station_written e h)))

pub lost_written : (e : ℕ) → e < 128 → IsRewritten (Lost e)
lost_written e h =
    let digits = three_digits e h in
    rewritten (Lost e) (5 + spaced (decimal e ∷ [])) (omega (arith, digits))
    (lost_reread (decimal e ∷ []) (Lost e) (ap (λ (r : Result ℕ TraceFault). r >>= (λ n. Ok (Lost n))) (station_written e h)))

pub in_written : (e : ℕ) (octets : List ℕ) → e < 128 → IsBytes octets → length (line_text (In e octets)) ≤ 40000
    → IsRewritten (In e octets)
unfolding line_text
in_written e octets h bytes short =
    let station = station_written e h in
    let shown = octets_of-shown octets bytes in
    let read : read_in (decimal e ∷ octets_text octets ∷ []) ≡ Ok (In e octets) = rw (station, shown) refl in
    let others = length-append (codes "in" ␣ decimal e) (32 ∷ octets_text octets) in
    let before = length-append (codes "in") (32 ∷ decimal e) in
    rewritten (In e octets) (3 + spaced (decimal e ∷ octets_text octets ∷ [])) (omega (arith, others, before, short))
    (in_reread (decimal e ∷ octets_text octets ∷ []) (In e octets) read)

pub in_unbroken : (e : ℕ) (octets : List ℕ) → e < 128 → is_unbroken (line_text (In e octets)) ≡ true
unfolding line_text
in_unbroken e octets h =
    unbroken_field (codes "in" ␣ decimal e) (octets_text octets)
    (unbroken_field (codes "in") (decimal e) refl (decimal_word e (omega arith))) (shown_word octets)
