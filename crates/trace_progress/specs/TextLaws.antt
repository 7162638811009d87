-- Texts that go on: their lines, and what is played of them.
use Rattle.std.proofs.Common.{◌≡◌, ℕ, ◌+◌, ◌<◌, ◌≤◌, ◌==◌, Bool, true, false, cond, List, [], ◌∷◌, ◌++◌, length, Option, None, Err, refl, sym, ap, ◌∙◌, append_assoc, append-nil, arith, take, drop, get_or}
use Rattle.std.specs.List.{onto_first}
use Rattle.std.proofs.lemmas.Bool.Decides.{nat_tests}
use Rattle.std.proofs.lemmas.List.{take_more, take-append-drop}
use Rattle.trace_words.specs.declared.fault.TraceFault.{TraceFault}
use Rattle.trace_words.specs.declared.fault.TraceFault.TheVariants.{TooLong}
use Rattle.trace_words.specs.Trace.{line_of}
use Rattle.trace_progress.specs.declared.progress.Progress.{Progress}
use Rattle.trace_progress.specs.Text.{Played, prepended, played_text, play, then_play, line_effect, lines_of, breaks}

-- ---- lists

counts : (b : Bool) (m n : ℕ) → cond b (1 + (m + n)) (m + n) ≡ cond b (1 + m) m + n
counts true m n = omega arith
counts false m n = refl

pub breaks-append : (xs ys : List ℕ) → breaks (xs ++ ys) ≡ breaks xs + breaks ys
breaks-append [] ys = omega arith
breaks-append (x ∷ xs) ys = ap (λ n. cond (x == 10) (1 + n) n) (breaks-append xs ys) ∙ counts (x == 10) (breaks xs) (breaks ys)

counts-le : (b : Bool) (m n : ℕ) → m ≤ n → cond b (1 + m) m ≤ 1 + n
counts-le true m n h = omega arith
counts-le false m n h = omega arith

pub breaks-le : (xs : List ℕ) → breaks xs ≤ length xs
breaks-le [] = omega arith
breaks-le (x ∷ xs) = let h = counts-le (x == 10) (breaks xs) (length xs) (breaks-le xs) in omega (arith, h)

pub split_at : (xs : List ℕ) (i x : ℕ) → i < length xs → x ≡ get_or xs i 0 → xs ≡ (take i xs ++ x ∷ []) ++ drop (i + 1) xs
split_at xs i x h e =
    sym (ap (λ y. (take i xs ++ y ∷ []) ++ drop (i + 1) xs) e ∙ ap (λ v. v ++ drop (i + 1) xs) (sym (take_more xs i 0 h))
    ∙ take-append-drop (i + 1) xs)

pub nil-from_length : (xs : List ℕ) → length xs ≡ 0 → xs ≡ []
nil-from_length [] h = refl
nil-from_length (x ∷ xs) h = absurd (omega arith)

-- ---- lines

pub lines_of-cons : (c : ℕ) (cs : List ℕ) → lines_of (c ∷ cs) ≡ cond (c == 10) ([] ∷ lines_of cs) (onto_first c (lines_of cs))
unfolding lines_of
lines_of-cons c cs = refl

pub lines_of-nil : lines_of [] ≡ []
unfolding lines_of
lines_of-nil = refl

counted : (b : Bool) (n : ℕ) → cond b (1 + n) n ≡ 0 → (b ≡ false) × (n ≡ 0)
counted true n h = absurd (omega arith)
counted false n h = (refl, h)

pub breaks-cons : (c : ℕ) (cs : List ℕ) → breaks (c ∷ cs) ≡ 0 → ((c == 10) ≡ false) × (breaks cs ≡ 0)
breaks-cons c cs h = counted (c == 10) (breaks cs) h

pub lines_of-other : (c : ℕ) (cs : List ℕ) → (c == 10) ≡ false → lines_of (c ∷ cs) ≡ onto_first c (lines_of cs)
lines_of-other c cs h = rw (lines_of-cons, h) refl

-- a line ends at its LF
pub lines_of-at : (front more : List ℕ) → breaks front ≡ 0 → lines_of (front ++ 10 ∷ more) ≡ front ∷ lines_of more
lines_of-at [] more h = lines_of-cons 10 more
lines_of-at (c ∷ cs) more h =
    let two = breaks-cons c cs h in
    lines_of-other c (cs ++ 10 ∷ more) two.0 ∙ ap (onto_first c) (lines_of-at cs more two.1)

onto_first-cons : (c : ℕ) (ls : List (List ℕ))
    → (rest : List ℕ) × (others : List (List ℕ)) × (onto_first c ls ≡ (c ∷ rest) ∷ others)
onto_first-cons c [] = ([], [], refl)
onto_first-cons c (l ∷ ls) = (l, ls, refl)

-- a first line that goes on
pub lines_of-front : (front more : List ℕ) → breaks front ≡ 0 → 0 < length front
    → (rest : List ℕ) × (others : List (List ℕ)) × (lines_of (front ++ more) ≡ (front ++ rest) ∷ others)
lines_of-front [] more h some = absurd (omega arith)
lines_of-front (c ∷ []) more h some =
    let two = breaks-cons c [] h in
    let got = onto_first-cons c (lines_of more) in
    (got.0, got.1, lines_of-other c more two.0 ∙ got.2)
lines_of-front (c ∷ d ∷ ds) more h some =
    let two = breaks-cons c (d ∷ ds) h in
    let ih = lines_of-front (d ∷ ds) more two.1 (omega arith) in
    (ih.0, ih.1, lines_of-other c ((d ∷ ds) ++ more) two.0 ∙ ap (onto_first c) ih.2)

-- the last line may lack its LF
pub lines_of-last : (front : List ℕ) → breaks front ≡ 0 → 0 < length front → lines_of front ≡ lines_of (front ++ 10 ∷ [])
lines_of-last [] h some = absurd (omega arith)
lines_of-last (c ∷ []) h some =
    let two = breaks-cons c [] h in
    lines_of-other c [] two.0 ∙ ap (onto_first c) lines_of-nil
    ∙ sym (lines_of-at (c ∷ []) [] h ∙ ap (λ v. (c ∷ []) ∷ v) lines_of-nil)
lines_of-last (c ∷ d ∷ ds) h some =
    let two = breaks-cons c (d ∷ ds) h in
    lines_of-other c (d ∷ ds) two.0 ∙ ap (onto_first c) (lines_of-last (d ∷ ds) two.1 (omega arith))
    ∙ sym (lines_of-other c ((d ∷ ds) ++ 10 ∷ []) two.0)

pub line_of-long : (text : List ℕ) → 40000 < length text → line_of text ≡ Err TooLong
unfolding line_of
line_of-long text h = grind (arith, nat_tests)

-- ---- lines that are played

pub play-cons : (progress : Progress) (line : ℕ) (text : List ℕ) (texts : List (List ℕ))
    → play progress line (text ∷ texts) ≡ then_play line (line_effect progress text) (λ new. play new (line + 1) texts)
unfolding play
play-cons progress line text texts = refl

pub play-nil : (progress : Progress) (line : ℕ) → play progress line [] ≡ played_text [] None
unfolding play
play-nil progress line = refl

pub prepended-then : (a b : List ℕ) (p : Played) → prepended a (prepended b p) ≡ prepended (a ++ b) p
prepended-then a b p =
    ap (λ (v : List ℕ). let r : Played = record { text = v; fault = p.fault } in r) (sym (append_assoc a b p.text))

pub prepended-ends : (a : List ℕ) (fault : Option (ℕ × TraceFault)) → prepended a (played_text [] fault) ≡ played_text a fault
prepended-ends a fault = ap (λ (v : List ℕ). let r : Played = record { text = v; fault = fault } in r) (append-nil a)
