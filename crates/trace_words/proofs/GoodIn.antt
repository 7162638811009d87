-- A good line `in E OCTETS`, by its parts.
use Rattle.std.proofs.Common.{◌≡◌, ℕ, ◌+◌, ◌≤◌, ◌==◌, Bool, true, false, cond, List, [], ◌∷◌, ◌++◌, length, drop, take, codes, Some, Ok, Err, refl, ap, ◌∙◌, arith}
use Rattle.std.specs.List.{slice_split, AllPass}
use Rattle.std.specs.Str.{bytes_eq}
use Rattle.std.proofs.lemmas.Slice.Eq.{bytes_eq-Decides}
use Rattle.std.proofs.lemmas.Bool.Decides.{nat_tests}
use Rattle.std.proofs.lemmas.List.Elements.{All-head, All-tail}
use Rattle.memchr.specs.Find.{IsFirstByte, is_byte}
use Rattle.hex.specs.Hex.{decode_of, is_hex_digit}
use Rattle.hex.proofs.HexLemmas.{decode_of-ok}
use Rattle.trace_words.specs.declared.line.Line.TheVariants.{In}
use Rattle.trace_words.specs.declared.fault.TraceFault.TheVariants.{BadHex}
use Rattle.trace_words.specs.Trace.{hex_of, octets_field, station_field, read_words}
use Rattle.trace_words.proofs.Rewritten.{hex_read}
use Rattle.trace_words.specs.WordLaws.{is_word, word_over}
use Rattle.trace_words.proofs.Words.{split_word}
use Rattle.trace_words.proofs.SplitWords.{first_word}

digit_over : (c : ℕ) → is_hex_digit c ≡ true → 33 ≤ c
digit_over c h = grind (arith, nat_tests)

digits_word : (text : List ℕ) → AllPass is_hex_digit text → is_word text ≡ true
digits_word [] h = refl
digits_word (c ∷ cs) h =
    word_over c cs (digit_over c (All-head (λ d. is_hex_digit d ≡ true) c cs h))
    (digits_word cs (All-tail (λ d. is_hex_digit d ≡ true) c cs h))

-- octets that are read stand in one word
octets_word : (text xs : List ℕ) → octets_field text ≡ Ok xs → is_word text ≡ true
octets_word text xs e = go (length text == 0) e
  where
    dash : (b : Bool) → (b ≡ true → text ≡ codes "-") → cond b (Ok []) (hex_of (decode_of text)) ≡ Ok xs → is_word text ≡ true
    dash true s h = ap is_word (s refl)
    dash false s h = digits_word text (decode_of-ok text xs (hex_read (decode_of text) xs h)).1

    go : (b : Bool) → cond b (Err BadHex) (cond (bytes_eq text (codes "-")) (Ok []) (hex_of (decode_of text))) ≡ Ok xs
        → is_word text ≡ true
    go true h = absurd (cc h)
    go false h = dash (bytes_eq text (codes "-")) (bytes_eq-Decides text (codes "-")).0 h

-- what a line with these two fields says
pub good_in : (line fields octets : List ℕ) (at e : ℕ) → line ≡ codes "in " ++ fields → IsFirstByte (is_byte 32) fields (Some at)
    → station_field (take at fields) ≡ Ok e → octets_field (drop (at + 1) fields) ≡ Ok octets
    → read_words (slice_split (λ c. c == 32) line) ≡ Ok (In e octets)
good_in line fields octets at e is first station sent =
    let last = drop (at + 1) fields in
    let said : read_words (codes "in" ∷ take at fields ∷ last ∷ []) ≡ Ok (In e octets) = rw (station, sent) refl in
    let others = first_word fields at first ∙ ap (λ ws. take at fields ∷ ws) (split_word last (octets_word last octets sent)) in
    ap read_words (ap (slice_split (λ c. c == 32)) is ∙ ap (λ ws. codes "in" ∷ ws) others) ∙ said
