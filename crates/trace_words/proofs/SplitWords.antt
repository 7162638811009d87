-- What the search for a space says of the words of a line.
use Rattle.std.proofs.Common.{◌≡◌, ℕ, ◌+◌, ◌-◌, ◌<◌, ◌==◌, false, List, [], ◌∷◌, ◌++◌, length, take, drop, get_or, All, None, Some, Bor, map, sym, ap, ◌∙◌, arith, append_assoc, length-take, take-append-drop}
use Rattle.std.specs.List.{slice_split}
use Rattle.std.proofs.lemmas.Bool.{false_from_ne_true}
use Rattle.std.proofs.lemmas.List.{drop_more, get_or-take, map-append, take_rest}
use Rattle.std.proofs.lemmas.List.Elements.{All-from_get_or}
use Rattle.std.proofs.lemmas.List.Splits.{slice_split_none, slice_split_at}
use Rattle.memchr.specs.Find.{IsFirstByte, is_byte}

-- a text without a space is one word
last_word : (rest : List ℕ) → IsFirstByte (is_byte 32) rest None → slice_split (λ c. c == 32) rest ≡ rest ∷ []
last_word rest none =
    slice_split_none (λ c. c == 32) rest
    (All-from_get_or (λ c. (c == 32) ≡ false) rest 0 (λ k below. false_from_ne_true _ (none k (omega arith) below)))

spaceless : (rest : List ℕ) (at : ℕ) → IsFirstByte (is_byte 32) rest (Some at) → All (λ c. (c == 32) ≡ false) (take at rest)
spaceless rest at first =
    All-from_get_or (λ c. (c == 32) ≡ false) (take at rest) 0
    (λ k below.
    let low : k < at = omega (arith, length-take at rest) in
    rw (get_or-take at rest k 0 low) (false_from_ne_true _ (first.0.before k (omega arith) low)))

-- the first word of a text stands before its first space, and the others are the words of what stands after it
pub first_word : (rest : List ℕ) (at : ℕ) → IsFirstByte (is_byte 32) rest (Some at)
    → slice_split (λ c. c == 32) rest ≡ take at rest ∷ slice_split (λ c. c == 32) (drop (at + 1) rest)
first_word rest at first =
    ap (slice_split (λ c. c == 32))
    (sym (take-append-drop at rest) ∙ ap (λ v. take at rest ++ v) (drop_more rest at 0 first.0.high))
    ∙ slice_split_at (λ c. c == 32) (take at rest) (get_or rest at 0) (drop (at + 1) rest) (spaceless rest at first) first.1

-- a text with one space is two words
pub two_parts : (line : List ℕ) (at : ℕ) → IsFirstByte (is_byte 32) line (Some at)
    → IsFirstByte (is_byte 32) (take (length line - (at + 1)) (drop (at + 1) line)) None
    → slice_split (λ c. c == 32) line ≡ take at line ∷ take (length line - (at + 1)) (drop (at + 1) line) ∷ []
two_parts line at first none =
    let field : IsFirstByte (is_byte 32) (drop (at + 1) line) None = rw take_rest at none in
    rw take_rest (first_word line at first ∙ ap (λ ws. take at line ∷ ws) (last_word (drop (at + 1) line) field))

-- `parts` are the words that were split off and those of the rest: so they are when the rest's first word is split off too
pub one_more : (rest : List ℕ) (at : ℕ) (words more : List (Bor (List ℕ))) (word : Bor (List ℕ)) (parts : List (List ℕ))
    → IsFirstByte (is_byte 32) rest (Some at)
    → more ≡ words ++ word ∷ [] → word.now ≡ take at rest → map (λ w. w.now) words ++ slice_split (λ c. c == 32) rest ≡ parts
    → map (λ w. w.now) more ++ slice_split (λ c. c == 32) (take (length rest - (at + 1)) (drop (at + 1) rest)) ≡ parts
one_more rest at words more word parts first grown is all =
    rw (grown, take_rest, map-append, append_assoc, is, ← first_word rest at first) all

-- and when the rest's last word is, they are those that were split off
pub with_last : (rest : List ℕ) (words more : List (Bor (List ℕ))) (word : Bor (List ℕ)) (parts : List (List ℕ))
    → IsFirstByte (is_byte 32) rest None
    → more ≡ words ++ word ∷ [] → word.now ≡ rest → map (λ w. w.now) words ++ slice_split (λ c. c == 32) rest ≡ parts
    → map (λ w. w.now) more ≡ parts
with_last rest words more word parts none grown is all = rw (grown, map-append, is, ← last_word rest none) all
