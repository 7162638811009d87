-- What the search for a LF says of the lines of a text, and how the lines of a text are taken one after another.
use Rattle.std.proofs.Common.{◌≡◌, ◌⊎◌, inl, inr, ℕ, ◌+◌, ◌-◌, ◌<◌, ◌==◌, suc, false, List, [], ◌∷◌, ◌++◌, length, take, drop, get_or, All, None, Some, Result, Ok, Err, refl, sym, subst, ap, ◌∙◌, arith, append-nil, append_assoc, length-append, length-take, take-append-drop}
use Rattle.std.specs.Prelude.{IsOk}
use Rattle.std.specs.List.{slice_split}
use Rattle.std.proofs.lemmas.Bool.{false_from_ne_true}
use Rattle.std.proofs.lemmas.List.{drop_more, get_or-take, take_at, take_rest}
use Rattle.std.proofs.lemmas.List.Elements.{All-from_get_or}
use Rattle.std.proofs.lemmas.List.Splits.{slice_split_none, slice_split_at}
use Rattle.memchr.specs.Find.{IsFirstByte, is_byte}
use Rattle.c_session.specs.declared.lines.LinesFault.{LinesFault}
use Rattle.c_session.specs.declared.refusal.Refusal.{Refusal}
use Rattle.c_session.specs.declared.refusal.Refusal.TheVariants as refusals
use Rattle.c_session.specs.declared.session.Session.{Session}
use Rattle.c_session.specs.Lines.{IsOfMemory, IsShortAt, IsShortOf, all_lines, at_line, made_of, provisioned_after, provisioned_from, provisioned_of, then_lines}
use Rattle.c_session.specs.Sessions.{nothing, started}

-- a text without a LF is one line
last_line : (rest : List ℕ) → IsFirstByte (is_byte 10) rest None → all_lines rest ≡ rest ∷ []
last_line rest none =
    slice_split_none (λ c. c == 10) rest
    (All-from_get_or (λ c. (c == 10) ≡ false) rest 0 (λ k below. false_from_ne_true _ (none k (omega arith) below)))

unbroken : (rest : List ℕ) (at : ℕ) → IsFirstByte (is_byte 10) rest (Some at) → All (λ c. (c == 10) ≡ false) (take at rest)
unbroken rest at first =
    All-from_get_or (λ c. (c == 10) ≡ false) (take at rest) 0
    (λ k below.
    let low : k < at = omega (arith, length-take at rest) in
    rw (get_or-take at rest k 0 low) (false_from_ne_true _ (first.0.before k (omega arith) low)))

-- the first line of a text stands before its first LF, and the others are the lines of what stands after it
first_line : (rest : List ℕ) (at : ℕ) → IsFirstByte (is_byte 10) rest (Some at)
    → all_lines rest ≡ take at rest ∷ all_lines (drop (at + 1) rest)
first_line rest at first =
    ap (slice_split (λ c. c == 10))
    (sym (take-append-drop at rest) ∙ ap (λ v. take at rest ++ v) (drop_more rest at 0 first.0.high))
    ∙ slice_split_at (λ c. c == 10) (take at rest) (get_or rest at 0) (drop (at + 1) rest) (unbroken rest at first) first.1

-- ---- one line after another

provisioned_after-nil : (n : ℕ) (s : Session) → provisioned_after n s [] ≡ Ok s
unfolding provisioned_after
provisioned_after-nil n s = refl

provisioned_after-cons : (n : ℕ) (s : Session) (text : List ℕ) (texts : List (List ℕ))
    → provisioned_after n s (text ∷ texts)
    ≡ then_lines (at_line (n + 1) (provisioned_from s text)) (λ after. provisioned_after (n + 1) after texts)
unfolding provisioned_after
provisioned_after-cons n s text texts = refl

-- a line is taken, and then those after it
first_taken : (n : ℕ) (after : Session) (xs ys : List (List ℕ)) (made : Result Session LinesFault)
    → ((v : Session) → provisioned_after (n + 1) v xs ≡ Ok after
    → provisioned_after (n + 1) v (xs ++ ys) ≡ provisioned_after ((n + 1) + length xs) after ys)
    → then_lines made (λ v. provisioned_after (n + 1) v xs) ≡ Ok after
    → then_lines made (λ v. provisioned_after (n + 1) v (xs ++ ys)) ≡ provisioned_after (n + suc (length xs)) after ys
first_taken n after xs ys (Ok v) others h =
    others v h ∙ ap (λ m. provisioned_after m after ys) (let e : (n + 1) + length xs ≡ n + suc (length xs) = omega arith in e)
first_taken n after xs ys (Err fault) others h = absurd (cc h)

-- where some lines are taken, those after them are taken by what they left
taken_on : (n : ℕ) (s after : Session) (xs ys : List (List ℕ)) → provisioned_after n s xs ≡ Ok after
    → provisioned_after n s (xs ++ ys) ≡ provisioned_after (n + length xs) after ys
taken_on n s after [] ys h =
    let t : Ok s ≡ Ok after = sym (provisioned_after-nil n s) ∙ h in
    let e : s ≡ after = cc t in
    ap (λ v. provisioned_after n v ys) e ∙ ap (λ m. provisioned_after m after ys) (let z : n ≡ n + 0 = omega arith in z)
taken_on n s after (x ∷ xs) ys h =
    provisioned_after-cons n s x (xs ++ ys)
    ∙ first_taken n after xs ys (at_line (n + 1) (provisioned_from s x)) (λ v g. taken_on (n + 1) v after xs ys g) (sym (provisioned_after-cons n s x xs) ∙ h)

-- the first lines, so many of them, were taken and left this session; the others are still to come
pub record HasProvisioned (lines : List (List ℕ)) (number : ℕ) (s : Session) (others : List (List ℕ)) : Type 0 where
  pub before : List (List ℕ)
  pub parts : lines ≡ before ++ others
  pub count : length before ≡ number
  pub taken : provisioned_of before ≡ Ok s

pub none_taken : (lines : List (List ℕ)) → HasProvisioned lines 0 nothing lines
none_taken lines = record { before = []; parts = refl; count = refl; taken = provisioned_after-nil 0 nothing }

one_taken : (n : ℕ) (s after : Session) (line : List ℕ) → provisioned_from s line ≡ Ok after
    → provisioned_after n s (line ∷ []) ≡ Ok after
one_taken n s after line ok =
    provisioned_after-cons n s line []
    ∙ ap (λ made. then_lines (at_line (n + 1) made) (λ v. provisioned_after (n + 1) v [])) ok
    ∙ provisioned_after-nil (n + 1) after

-- a line more is taken
more_taken : (lines : List (List ℕ)) (n : ℕ) (s after : Session) (line : List ℕ) (others : List (List ℕ))
    → HasProvisioned lines n s (line ∷ others) → provisioned_from s line ≡ Ok after → HasProvisioned lines (n + 1) after others
more_taken lines n s after line others t ok =
    let one : length (line ∷ []) ≡ 1 = refl in
    let longer : length (t.before ++ line ∷ []) ≡ n + 1 = omega (arith, length-append t.before (line ∷ []), t.count, one) in
    record {
      before = t.before ++ line ∷ [];
      parts = t.parts ∙ sym (append_assoc t.before (line ∷ []) others);
      count = longer;
      taken = taken_on 0 nothing s t.before (line ∷ []) t.taken ∙ one_taken (0 + length t.before) s after line ok;
    }

-- a line that is refused is the first that isn't taken, or memory was refused at it
stops_at : (lines : List (List ℕ)) (n : ℕ) (s left : Session) (fault : LinesFault) (line : List ℕ) (others : List (List ℕ))
    → HasProvisioned lines n s (line ∷ others) → fault.line ≡ n + 1 → left ≡ s
    → (fault.refusal ≡ refusals.NoMemory) ⊎ (provisioned_from s line ≡ Err fault.refusal)
    → IsShortAt lines fault left ⊎ (provisioned_of lines ≡ Err fault)
stops_at lines n s left fault line others t at same (inl memory) =
    let place : length t.before ≡ fault.line - 1 = omega (arith, t.count, at) in
    let long : length lines ≡ length t.before + length (line ∷ others) = ap length t.parts ∙ length-append t.before (line ∷ others) in
    let more : length (line ∷ others) ≡ suc (length others) = refl in
    let front : take (fault.line - 1) lines ≡ t.before =
    ap (take (fault.line - 1)) t.parts ∙ take_at t.before (line ∷ others) (fault.line - 1) place in
    inl (record {
      memory = memory;
      first = omega (arith, at);
      last = omega (arith, at, t.count, long, more);
      before = ap provisioned_of front ∙ t.taken ∙ ap Ok (sym same);
    })
stops_at lines n s left fault line others t at same (inr refused) =
    let m : ℕ = 0 + length t.before in
    let number : m + 1 ≡ fault.line = omega (arith, at, t.count) in
    let others_after : Session → Result Session LinesFault = λ v. provisioned_after (m + 1) v others in
    inr (ap provisioned_of t.parts ∙ taken_on 0 nothing s t.before (line ∷ others) t.taken
    ∙ provisioned_after-cons m s line others
    ∙ ap (λ made. then_lines (at_line (m + 1) made) others_after) refused
    ∙ ap (λ k. Err (record { line = k; refusal = fault.refusal })) number)

-- ---- the lines of a text, of which the rest is still to be taken

-- a line that ends with a LF is taken
pub line_taken : (text : List ℕ) (n : ℕ) (s after : Session) (rest : List ℕ) (at : ℕ)
    → IsFirstByte (is_byte 10) rest (Some at) → HasProvisioned (all_lines text) n s (all_lines rest)
    → provisioned_from s (take at rest) ≡ Ok after
    → HasProvisioned (all_lines text) (n + 1) after (all_lines (take (length rest - (at + 1)) (drop (at + 1) rest)))
line_taken text n s after rest at first t ok =
    let P : List (List ℕ) → Type 0 = λ others. HasProvisioned (all_lines text) n s others in
    let Q : List ℕ → Type 0 = λ others. HasProvisioned (all_lines text) (n + 1) after (all_lines others) in
    subst Q (sym (take_rest rest (at + 1)))
    (more_taken (all_lines text) n s after (take at rest) (all_lines (drop (at + 1) rest)) (subst P (first_line rest at first) t) ok)

-- the last line is taken: all are
last_taken : (text : List ℕ) (n : ℕ) (s after : Session) (rest : List ℕ) → IsFirstByte (is_byte 10) rest None
    → HasProvisioned (all_lines text) n s (all_lines rest) → provisioned_from s rest ≡ Ok after
    → HasProvisioned (all_lines text) (n + 1) after []
last_taken text n s after rest none t ok =
    let P : List (List ℕ) → Type 0 = λ others. HasProvisioned (all_lines text) n s others in
    more_taken (all_lines text) n s after rest [] (subst P (last_line rest none) t) ok

pub all_taken : (text : List ℕ) (n : ℕ) (s after : Session) (rest : List ℕ) → IsFirstByte (is_byte 10) rest None
    → HasProvisioned (all_lines text) n s (all_lines rest) → provisioned_from s rest ≡ Ok after
    → provisioned_of (all_lines text) ≡ Ok after
all_taken text n s after rest none t ok =
    let whole : HasProvisioned (all_lines text) (n + 1) after [] = last_taken text n s after rest none t ok in
    ap provisioned_of (whole.parts ∙ append-nil whole.before) ∙ whole.taken

pub all_counted : (text : List ℕ) (n : ℕ) (s after : Session) (rest : List ℕ) → IsFirstByte (is_byte 10) rest None
    → HasProvisioned (all_lines text) n s (all_lines rest) → provisioned_from s rest ≡ Ok after
    → n + 1 ≡ length (all_lines text)
all_counted text n s after rest none t ok =
    let whole : HasProvisioned (all_lines text) (n + 1) after [] = last_taken text n s after rest none t ok in
    sym whole.count ∙ ap length (sym (whole.parts ∙ append-nil whole.before))

-- a line that ends with a LF is refused
pub line_refused : (text : List ℕ) (n : ℕ) (s left : Session) (fault : LinesFault) (rest : List ℕ) (at : ℕ)
    → IsFirstByte (is_byte 10) rest (Some at) → HasProvisioned (all_lines text) n s (all_lines rest)
    → fault.line ≡ n + 1 → left ≡ s
    → (fault.refusal ≡ refusals.NoMemory) ⊎ (provisioned_from s (take at rest) ≡ Err fault.refusal)
    → IsShortAt (all_lines text) fault left ⊎ (provisioned_of (all_lines text) ≡ Err fault)
line_refused text n s left fault rest at first t number same why =
    let P : List (List ℕ) → Type 0 = λ others. HasProvisioned (all_lines text) n s others in
    stops_at (all_lines text) n s left fault (take at rest) (all_lines (drop (at + 1) rest)) (subst P (first_line rest at first) t) number same why

-- the last line is refused
pub last_refused : (text : List ℕ) (n : ℕ) (s left : Session) (fault : LinesFault) (rest : List ℕ)
    → IsFirstByte (is_byte 10) rest None → HasProvisioned (all_lines text) n s (all_lines rest)
    → fault.line ≡ n + 1 → left ≡ s
    → (fault.refusal ≡ refusals.NoMemory) ⊎ (provisioned_from s rest ≡ Err fault.refusal)
    → IsShortAt (all_lines text) fault left ⊎ (provisioned_of (all_lines text) ≡ Err fault)
last_refused text n s left fault rest none t number same why =
    let P : List (List ℕ) → Type 0 = λ others. HasProvisioned (all_lines text) n s others in
    stops_at (all_lines text) n s left fault rest [] (subst P (last_line rest none) t) number same why

-- ---- a whole text

-- all lines are taken: what is left is the start
made_where : (text : List ℕ) (s : Session) (made : Result Session Refusal) → provisioned_of (all_lines text) ≡ Ok s
    → started s ≡ made → made_of text ≡ at_line (length (all_lines text)) made
made_where text s made taken is =
    ap (λ v. then_lines v (λ w. at_line (length (all_lines text)) (started w))) taken
    ∙ ap (at_line (length (all_lines text))) is

pub made_by : (text : List ℕ) (s after : Session) → provisioned_of (all_lines text) ≡ Ok s → started s ≡ Ok after
    → made_of text ≡ Ok after
made_by text s after taken ok = made_where text s (Ok after) taken ok

-- it stops at a line
pub line_stops : (text : List ℕ) (fault : LinesFault) (left : Session)
    → IsShortAt (all_lines text) fault left ⊎ (provisioned_of (all_lines text) ≡ Err fault)
    → IsOfMemory text fault left ⊎ (made_of text ≡ Err fault)
line_stops text fault left (inl short) = inl (inl short)
line_stops text fault left (inr refused) =
    inr (ap (λ made. then_lines made (λ v. at_line (length (all_lines text)) (started v))) refused)

-- it stops at the start
is_made : (text : List ℕ) (made : Result Session Refusal) → IsOk made → made_of text ≡ at_line (length (all_lines text)) made
    → IsOk (made_of text)
is_made text (Ok after) h e = let P : Result Session LinesFault → Type 0 = λ v. IsOk v in subst P (sym e) refl
is_made text (Err refusal) h e = absurd (cc h)

pub start_stops : (text : List ℕ) (n : ℕ) (s left : Session) (fault : LinesFault) → provisioned_of (all_lines text) ≡ Ok s
    → n ≡ length (all_lines text) → fault.line ≡ n
    → ((fault.refusal ≡ refusals.Lost) × IsOk (started s)) ⊎ (started s ≡ Err fault.refusal)
    → IsOfMemory text fault left ⊎ (made_of text ≡ Err fault)
start_stops text n s left fault taken count number (inl lost) =
    inl (inr (record {
      lost = lost.0;
      line = number ∙ count;
      made = is_made text (started s) lost.1 (made_where text s (started s) taken refl);
    }))
start_stops text n s left fault taken count number (inr refused) =
    inr (made_where text s (Err fault.refusal) taken refused
    ∙ ap (λ k. Err (record { line = k; refusal = fault.refusal })) (sym (number ∙ count)))

-- whatever is left of the session
pub whole_stops : (text : List ℕ) (fault : LinesFault) (left : Session)
    → IsOfMemory text fault left ⊎ (made_of text ≡ Err fault) → IsShortOf text fault ⊎ (made_of text ≡ Err fault)
whole_stops text fault left (inl memory) = inl (left, memory)
whole_stops text fault left (inr refused) = inr refused
