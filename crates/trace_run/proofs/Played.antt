-- The lines of a trace, played one after another.
use Rattle.std.proofs.Common.{◌≡◌, ℕ, ◌+◌, ◌<◌, Bool, List, [], ◌∷◌, ◌++◌, length, Some, None, Result, Ok, Err, IfErr, inl, inr, refl, sym, ap, subst, ◌∙◌, append-nil, arith}
use Rattle.trace_words.specs.declared.fault.TraceFault.{TraceFault}
use Rattle.trace_words.specs.declared.fault.TraceFault.TheVariants as fault
use Rattle.trace_words.specs.declared.fault.TraceFault.TheVariants.{UnknownWord, FieldCount, BadNumber, BadHex, TooLong, Order, Provision}
use Rattle.trace_progress.specs.declared.fault.PlayFault.{PlayFault}
use Rattle.trace_progress.specs.declared.fault.PlayFault.TheVariants.{Trace, Read, Write, NoMemory}
use Rattle.trace_progress.specs.declared.progress.Progress.{Progress}
use Rattle.trace_progress.specs.declared.progress.Progress.TheVariants.{Nothing}
use Rattle.trace_progress.specs.Effects.{Effect}
use Rattle.trace_progress.specs.Faults.{in_line}
use Rattle.trace_progress.specs.Text.{Played, prepended, played_text, play, then_play, line_effect, lines_of, played_of}
use Rattle.trace_progress.specs.Acts.{IsPrefix, Acts, effect_text}
use Rattle.trace_progress.specs.FrontLaws.{IsPrefix-nil, IsPrefix-of, IsPrefix-after, IsPrefix-more}
use Rattle.trace_run.specs.Watching.{failed_after_play}
use Rattle.trace_progress.specs.TextLaws.{line_of-long, play-cons, play-nil, prepended-then, prepended-ends}
use Rattle.trace_run.specs.OneLine.{IsOfLine}
use Rattle.trace_run.specs.Lines.{PlaysAll, IsCutShort, StopsAt, StopsIn, PlaysEach}
use Rattle.trace_run.specs.declared.player.Player.{Player}
use Rattle.trace_run.specs.Play.{LeftByText, WritesFor}

-- what the trace's player makes of a line
abbrev pub acts_on : Player → ℕ → List ℕ → Result (Unit {0}) PlayFault → Player → List ℕ → Type 0
acts_on old number text result new written =
    Acts number (line_effect old.progress text) result new.progress written
    × IfErr result (λ fault. LeftByText old.progress text fault new.progress)

-- ---- where a line's fault is

pub in_line-place : (number : ℕ) (fault : TraceFault) → IsOfLine number (Err (in_line number fault))
in_line-place number fault.NoMemory = tt
in_line-place number UnknownWord = refl
in_line-place number FieldCount = refl
in_line-place number BadNumber = refl
in_line-place number BadHex = refl
in_line-place number TooLong = refl
in_line-place number Order = refl
in_line-place number Provision = refl

-- what has a fault that was read isn't written
pub in_line-unwritten : (failed : Bool) (number : ℕ) (fault : TraceFault)
    → failed ≡ failed_after_play {A = Unit {0}} failed (Err (in_line number fault))
in_line-unwritten failed number fault.NoMemory = refl
in_line-unwritten failed number UnknownWord = refl
in_line-unwritten failed number FieldCount = refl
in_line-unwritten failed number BadNumber = refl
in_line-unwritten failed number BadHex = refl
in_line-unwritten failed number TooLong = refl
in_line-unwritten failed number Order = refl
in_line-unwritten failed number Provision = refl

pub Acts-place : (number : ℕ) (effect : Effect) (result : Result (Unit {0}) PlayFault) (new : Progress) (written : List ℕ)
    → Acts number effect result new written → IsOfLine number result
Acts-place number effect (Ok _) new written h = tt
Acts-place number effect (Err (Trace line fault)) new written h = h.1
Acts-place number effect (Err NoMemory) new written h = tt
Acts-place number effect (Err Write) new written h = tt
Acts-place number effect (Err Read) new written h = h

-- ---- lines

effect_then : (line : ℕ) (effect same : Effect) (rest : Progress → Played) → effect ≡ same
    → then_play line effect rest ≡ then_play line same rest
effect_then line effect same rest e = ap (λ v. then_play line v rest) e

-- lines that are played, before others
played_all : (texts rest : List (List ℕ)) (old new : Player) (number next : ℕ) (written : List ℕ) → next ≡ number + length texts
    → PlaysAll acts_on old number texts new written
    → play old.progress number (texts ++ rest) ≡ prepended written (play new.progress next rest)
played_all [] rest old new number next written e h =
    let same : number ≡ next = omega (arith, e) in
    ap (λ n. play old.progress n rest) same ∙ ap (λ (v : Player). play v.progress next rest) (sym h.0)
    ∙ ap (λ v. prepended v (play new.progress next rest)) (sym h.1)
played_all (text ∷ texts) rest old new number next written e h =
    let others : Progress → Played = λ w. play w (number + 1) (texts ++ rest) in
    let last = play new.progress next rest in
    play-cons old.progress number text (texts ++ rest)
    ∙ effect_then number (line_effect old.progress text) (Ok (h.0.progress, h.1)) others h.3.0
    ∙ ap (prepended h.1) (played_all texts rest h.0 new (number + 1) next h.2 (omega (arith, e)) h.4)
    ∙ prepended-then h.1 h.2 last ∙ ap (λ v. prepended v last) (sym h.5)

too_long : (progress : Progress) (text : List ℕ) → 40000 < length text → line_effect progress text ≡ Err TooLong
too_long progress text h = rw (line_of-long text h) refl

-- a first line with this effect
first_line : (progress : Progress) (number : ℕ) (lines others : List (List ℕ)) (text : List ℕ) (effect : Effect) → lines ≡ text ∷ others
    → line_effect progress text ≡ effect
    → play progress number lines ≡ then_play number effect (λ new. play new (number + 1) others)
first_line progress number lines others text effect e h =
    ap (play progress number) e ∙ play-cons progress number text others
    ∙ effect_then number (line_effect progress text) effect (λ new. play new (number + 1) others) h

ends_at : (line number : ℕ) (written : List ℕ) (fault : TraceFault) → number ≡ line → written ≡ []
    → played_text [] (Some (line, fault)) ≡ played_text written (Some (number, fault))
ends_at line number written fault n w =
    sym (ap (λ m. played_text written (Some (m, fault))) n ∙ ap (λ v. played_text v (Some (line, fault))) w)

-- a line that has a fault, or is too long
stopped : (old new : Player) (number : ℕ) (lines : List (List ℕ)) (line : ℕ) (fault : TraceFault) (written : List ℕ)
    → StopsAt acts_on old number lines (Trace line fault) new written
    → play old.progress number lines ≡ played_text written (Some (line, fault))
stopped old new number lines line fault written h = elim h.1 [
  | inl own ↦
      first_line old.progress number lines own.1 own.0 (Err fault) own.2 own.3.0.0
      ∙ ends_at number line written fault h.0 own.3.0.2
  | inr long ↦
      first_line old.progress number lines long.1.1 long.1.0 (Err TooLong) long.1.2 (too_long old.progress long.1.0 long.1.3)
      ∙ ap (λ (f : TraceFault). played_text [] (Some (number, f))) (sym long.0)
      ∙ ends_at number line written fault h.0 long.2.1
]

-- ---- what is written where it stops

effect-prefix : (line : ℕ) (effect : Effect) (rest : Progress → Played) (written : List ℕ) → IsPrefix written (effect_text effect)
    → IsPrefix written ((then_play line effect rest).text)
effect-prefix line (Ok done) rest written p = IsPrefix-more written done.1 ((rest done.0).text) p
effect-prefix line (Err fault) rest written p = p

none-prefix : (written text : List ℕ) → written ≡ [] → IsPrefix written text
none-prefix written text e = subst (λ (v : List ℕ). IsPrefix v text) (sym e) (IsPrefix-nil text)

acts-prefix : (number : ℕ) (effect : Effect) (fault : PlayFault) (new : Progress) (written : List ℕ)
    → Acts number effect (Err fault) new written → IsPrefix written (effect_text effect)
acts-prefix number effect (Trace line fault) new written h = none-prefix written (effect_text effect) h.2
acts-prefix number effect NoMemory new written h = h
acts-prefix number effect Write new written h = h
acts-prefix number effect Read new written h = absurd h

cut-prefix : (old new : Player) (number : ℕ) (lines : List (List ℕ)) (written : List ℕ)
    → IsCutShort acts_on old number lines new written → IsPrefix written ((play old.progress number lines).text)
cut-prefix old new number lines written h = elim h [
  | inl none ↦ none-prefix written ((play old.progress number lines).text) none.1
  | inr own ↦
      let line = own.1 in
      let effect = line_effect old.progress line.0 in
      let rest : Progress → Played = λ w. play w (number + 1) line.1 in
      IsPrefix-of written ((then_play number effect rest).text) ((play old.progress number lines).text)
      (sym (ap (λ v. v.text) (first_line old.progress number lines line.1 line.0 effect line.2 refl)))
      (effect-prefix number effect rest written (acts-prefix number effect own.0 new.progress written line.3.0))
]

-- ---- a whole trace

module _ (first new : Player) (read written : List ℕ) (start : first.progress ≡ Nothing) where
  begins : played_of read ≡ play first.progress 1 (lines_of read)
  begins = ap (λ w. play w 1 (lines_of read)) (sym start)

  -- the lines before the one at which it stops
  before_stop : (fault : PlayFault) (h : StopsIn acts_on first 1 (lines_of read) fault new written)
      → played_of read ≡ prepended h.before (play h.mid.progress (1 + length h.texts) h.rest)
  before_stop fault h =
      begins ∙ ap (play first.progress 1) h.parted ∙ played_all h.texts h.rest first h.mid 1 (1 + length h.texts) h.before refl h.played

  front_written : (fault : PlayFault) (h : StopsIn acts_on first 1 (lines_of read) fault new written)
      → IsCutShort acts_on h.mid (1 + length h.texts) h.rest new h.after → IsPrefix written ((played_of read).text)
  front_written fault h cut =
      let rest = play h.mid.progress (1 + length h.texts) h.rest in
      let front = IsPrefix-after h.before h.after (rest.text) (cut-prefix h.mid new (1 + length h.texts) h.rest h.after cut) in
      subst (λ (v : List ℕ). IsPrefix v ((played_of read).text)) (sym h.joined)
      (IsPrefix-of (h.before ++ h.after) (h.before ++ rest.text) ((played_of read).text) (sym (ap (λ v. v.text) (before_stop fault h))) front)

  pub WritesFor-each : (result : Result (Unit {0}) PlayFault) → PlaysEach acts_on first 1 (lines_of read) result new written
      → WritesFor read written result
  WritesFor-each (Ok _) h =
      let count = 1 + length (lines_of read) in
      let whole : List (List ℕ) = lines_of read in
      begins ∙ ap (play first.progress 1) (sym (append-nil whole))
      ∙ played_all whole [] first new 1 count written refl h
      ∙ ap (prepended written) (play-nil new.progress count) ∙ prepended-ends written None
  WritesFor-each (Err (Trace line fault)) h =
      before_stop (Trace line fault) h
      ∙ ap (prepended h.before) (stopped h.mid new (1 + length h.texts) h.rest line fault h.after h.stops)
      ∙ ap (λ v. played_text v (Some (line, fault))) (sym h.joined)
  WritesFor-each (Err NoMemory) h =
      front_written NoMemory h (elim h.stops [ inl none ↦ inl none | inr own ↦ inr (NoMemory, own) ])
  WritesFor-each (Err Write) h = front_written Write h h.stops
  WritesFor-each (Err Read) h = front_written Read h (inl h.stops)
