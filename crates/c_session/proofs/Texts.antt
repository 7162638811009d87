-- Lines that are played, one after another.
use Rattle.std.proofs.Common.{◌≡◌, ◌⊎◌, inl, inr, ℕ, zero, suc, ◌+◌, ◌-◌, ◌<◌, ◌≤◌, ◌==◌, Bool, true, false, List, [], ◌∷◌, ◌++◌, length, take, drop, get_or, None, Some, Result, Ok, Err, Bor, refl, sym, subst, ap, ◌∙◌, arith, append-nil, append_assoc, length-append}
use Rattle.std.specs.Prelude.{IfErr, OnErr}
use Rattle.std.proofs.lemmas.Bool.Decides.{nat_tests}
use Rattle.std.proofs.lemmas.List.{take_all, take_rest}
use Rattle.memchr.specs.Find.{IsFirstByte, is_byte}
use Rattle.mme_core.specs.World.{World, happens}
use Rattle.mme_core.specs.declared.event.Event.TheVariants as event
use Rattle.emm_machine.specs.declared.subscriber.States.{States}
use Rattle.trace_words.specs.Trace.{◌>>=◌, line_of}
use Rattle.trace_words.specs.declared.fault.TraceFault.{TraceFault}
use Rattle.trace_words.specs.declared.fault.TraceFault.TheVariants as faults
use Rattle.trace_words.specs.declared.line.Line.{Line}
use Rattle.trace_words.specs.declared.line.Line.TheVariants.{In, Show}
use Rattle.trace_answers.specs.Words.{states_text}
use Rattle.trace_progress.specs.declared.fault.PlayFault.{PlayFault}
use Rattle.trace_progress.specs.declared.fault.PlayFault.TheVariants as play_fault
use Rattle.trace_progress.specs.declared.progress.Progress.{Progress}
use Rattle.trace_progress.specs.declared.progress.Progress.TheVariants.{Running}
use Rattle.trace_progress.specs.Acts.{Acts}
use Rattle.trace_progress.specs.Effects.{Effect, effect_of, happened, in_event, left, running, shown, states_of_imsi, states_shown}
use Rattle.trace_progress.specs.Text.{Played, breaks, line_effect, lines_of, play, prepended, then_play}
use Rattle.trace_progress.specs.TextLaws.{breaks-append, lines_of-at, play-cons, prepended-then, split_at}
use Rattle.c_session.specs.declared.refusal.Refusal.{Refusal}
use Rattle.c_session.specs.declared.refusal.Refusal.TheVariants as refusals
use Rattle.c_session.specs.declared.said.LineStop.{LineStop}
use Rattle.c_session.specs.declared.session.Session.{Session}
use Rattle.c_session.specs.Kept.{Reply}
use Rattle.c_session.specs.Refusals.{of_field, of_line, told}
use Rattle.c_session.specs.Refusals as c_refusals
use Rattle.c_session.specs.Sessions.{Starts, started, with_world}
use Rattle.c_session.specs.Texts.{Adds, ArePlayed, IsFor, IsPassed, PlaysText, Says, StopsAt, WorldSays, events_in, events_of, first_events, first_of_text, lines_effect, once, silent, undone, whole_lines, with_front}
use Rattle.c_session.proofs.Saying.{Adds-none, Adds-then}

-- ---- the whole lines of a text

is_false : (b : Bool) → ¬ (b ≡ true) → b ≡ false
is_false true h = absurd (h refl)
is_false false h = refl

is_lf : (octet : ℕ) → (octet == 10) ≡ true → octet ≡ 10
is_lf octet h = grind (arith, nat_tests)

unbroken : (xs : List ℕ) (n : ℕ) → n ≤ length xs → ((k : ℕ) → 0 ≤ k → k < n → ¬ ((get_or xs k 0 == 10) ≡ true))
    → breaks (take n xs) ≡ 0
unbroken xs zero h none = refl
unbroken [] (suc n) h none = absurd (omega arith)
unbroken (x ∷ xs) (suc n) h none =
    rw (is_false (x == 10) (none 0 (omega arith) (omega arith)))
    (unbroken xs n (omega arith) (λ k low high. none (suc k) (omega arith) (omega arith)))

-- the first whole line stands before the first LF, and the others are those of what stands after it
pub first_whole : (rest : List ℕ) (at : ℕ) → IsFirstByte (is_byte 10) rest (Some at)
    → whole_lines rest ≡ take at rest ∷ whole_lines (drop (at + 1) rest)
first_whole rest at first =
    let high = first.0.high in
    let front : List ℕ = take at rest in
    let more : List ℕ = drop (at + 1) rest in
    let none : breaks front ≡ 0 = unbroken rest at (omega (arith, high)) first.0.before in
    let parts : rest ≡ front ++ 10 ∷ more =
    split_at rest at 10 high (sym (is_lf (get_or rest at 0) first.1)) ∙ append_assoc front (10 ∷ []) more in
    let lines : lines_of rest ≡ front ∷ lines_of more = ap lines_of parts ∙ lines_of-at front more none in
    let after : breaks (10 ∷ more) ≡ 1 + breaks more = refl in
    let count : breaks rest ≡ suc (breaks more) =
    omega (arith, ap breaks parts, breaks-append front (10 ∷ more), none, after) in
    ap (λ n. take n (lines_of rest)) count ∙ ap (take (suc (breaks more))) lines

-- a text without a LF has none
pub no_whole : (rest : List ℕ) → IsFirstByte (is_byte 10) rest None → whole_lines rest ≡ []
no_whole rest none =
    let count : breaks rest ≡ 0 =
    ap breaks (sym (take_all (length rest) rest (omega arith))) ∙ unbroken rest (length rest) (omega arith) none in
    ap (λ n. take n (lines_of rest)) count

-- ---- lines that are played

lines_effect-nil : (p : Progress) → lines_effect p [] ≡ Ok (p, [])
unfolding lines_effect
lines_effect-nil p = refl

lines_effect-cons : (p : Progress) (text : List ℕ) (texts : List (List ℕ))
    → lines_effect p (text ∷ texts) ≡ line_effect p text >>= (λ done. with_front done.1 (lines_effect done.0 texts))
unfolding lines_effect
lines_effect-cons p text texts = refl

abbrev of_pair : Progress → List ℕ → Effect
of_pair p v = Ok (p, v)

-- what comes before is written before
fronts : (s t : List ℕ) (e : Effect) → with_front s (with_front t e) ≡ with_front (s ++ t) e
fronts s t (Ok done) = ap (of_pair done.0) (sym (append_assoc s t done.1))
fronts s t (Err fault) = refl

one_effect : (p new : Progress) (x t : List ℕ) → line_effect p x ≡ Ok (new, t) → lines_effect p (x ∷ []) ≡ Ok (new, t)
one_effect p new x t e =
    let k : Progress × List ℕ → Effect = λ done. with_front done.1 (lines_effect done.0 []) in
    lines_effect-cons p x [] ∙ ap (λ v. v >>= k) e ∙ ap (with_front t) (lines_effect-nil new) ∙ ap (of_pair new) (append-nil t)

plain_front : (e : Effect) → e ≡ with_front [] e
plain_front (Ok done) = refl
plain_front (Err fault) = refl

-- some lines and then others
abbrev GoesOn : List (List ℕ) → List (List ℕ) → Type 0
GoesOn xs ys = (p q : Progress) (v : List ℕ) → lines_effect p xs ≡ Ok (q, v)
    → lines_effect p (xs ++ ys) ≡ with_front v (lines_effect q ys)

goes_on_after : (xs ys : List (List ℕ)) → GoesOn xs ys → (mid : Progress) (s : List ℕ) (p : Progress) (t : List ℕ) (e : Effect)
    → lines_effect p xs ≡ e
    → with_front t e ≡ Ok (mid, s)
    → with_front t (lines_effect p (xs ++ ys)) ≡ with_front s (lines_effect mid ys)
goes_on_after xs ys later mid s p t (Ok done) is k =
    let pair : (done.0, t ++ done.1) ≡ (mid, s) = cc k in
    let m : done.0 ≡ mid = ap (λ (v : Progress × List ℕ). v.0) pair in
    let w : t ++ done.1 ≡ s = ap (λ (v : Progress × List ℕ). v.1) pair in
    ap (with_front t) (later p done.0 done.1 is) ∙ fronts t done.1 (lines_effect done.0 ys)
    ∙ ap (λ v. with_front v (lines_effect done.0 ys)) w ∙ ap (λ q. with_front s (lines_effect q ys)) m
goes_on_after xs ys later mid s p t (Err fault) is k = absurd (cc k)

goes_on_then : (xs ys : List (List ℕ)) → GoesOn xs ys → (mid : Progress) (s : List ℕ) (e : Effect)
    → e >>= (λ done. with_front done.1 (lines_effect done.0 xs)) ≡ Ok (mid, s)
    → e >>= (λ done. with_front done.1 (lines_effect done.0 (xs ++ ys))) ≡ with_front s (lines_effect mid ys)
goes_on_then xs ys later mid s (Ok first) k = goes_on_after xs ys later mid s first.0 first.1 (lines_effect first.0 xs) refl k
goes_on_then xs ys later mid s (Err fault) k = absurd (cc k)

more_effect : (xs ys : List (List ℕ)) (old mid : Progress) (s : List ℕ) → lines_effect old xs ≡ Ok (mid, s)
    → lines_effect old (xs ++ ys) ≡ with_front s (lines_effect mid ys)
more_effect [] ys old mid s h =
    let e : of_pair old [] ≡ of_pair mid s = sym (lines_effect-nil old) ∙ h in
    let pair : (old, []) ≡ (mid, s) = cc e in
    let same : old ≡ mid = ap (λ (v : Progress × List ℕ). v.0) pair in
    let none : [] ≡ s = ap (λ (v : Progress × List ℕ). v.1) pair in
    ap (λ p. lines_effect p ys) same ∙ plain_front (lines_effect mid ys) ∙ ap (λ v. with_front v (lines_effect mid ys)) none
more_effect (x ∷ xs) ys old mid s h =
    lines_effect-cons old x (xs ++ ys)
    ∙ goes_on_then xs ys (λ p q v g. more_effect xs ys p q v g) mid s (line_effect old x) (sym (lines_effect-cons old x xs) ∙ h)

pub none_played : (p : Progress) → ArePlayed p [] p []
none_played p = record {
  leave = lines_effect-nil p;
  print = λ number others. let n : number ≡ number + 0 = omega arith in ap (λ m. play p m others) n;
}

-- a line more
pub more_played : (old mid new : Progress) (xs : List (List ℕ)) (x s t : List ℕ) → ArePlayed old xs mid s
    → line_effect mid x ≡ Ok (new, t) → ArePlayed old (xs ++ x ∷ []) new (s ++ t)
more_played old mid new xs x s t before e =
    let one : length (x ∷ []) ≡ 1 = refl in
    record {
      leave = more_effect xs (x ∷ []) old mid s before.leave ∙ ap (with_front s) (one_effect mid new x t e);
      print = λ number others.
          let next : ℕ = number + length xs in
          let last : next + 1 ≡ number + length (xs ++ x ∷ []) = omega (arith, length-append xs (x ∷ []), one) in
          let rest : Progress → Played = λ p. play p (next + 1) others in
          ap (play old number) (append_assoc xs (x ∷ []) others) ∙ before.print number (x ∷ others)
          ∙ ap (prepended s) (play-cons mid next x others ∙ ap (λ v. then_play next v rest) e)
          ∙ prepended-then s t (play new (next + 1) others) ∙ ap (λ n. prepended (s ++ t) (play new n others)) last;
    }

-- ---- the lines of a text, of which the rest is still to be played

-- the first lines, so many, were played and left this session; the others are still to come
pub record HasPlayed (lines : List (List ℕ)) (old : Session) (room : ℕ) (said : List ℕ) (number : ℕ) (s : Session) (said' : List ℕ)
    (others : List (List ℕ)) : Type 0 where
  pub before : List (List ℕ)
  pub written : List ℕ
  pub parts : lines ≡ before ++ others
  pub count : length before ≡ number
  pub played : ArePlayed old.progress before s.progress written
  pub added : Adds room said written said'

pub start_playing : (lines : List (List ℕ)) (old : Session) (room : ℕ) (said : List ℕ)
    → HasPlayed lines old room said 0 old said lines
start_playing lines old room said = record {
  before = [];
  written = [];
  parts = refl;
  count = refl;
  played = none_played old.progress;
  added = Adds-none room said said refl;
}

-- a line that ends with a LF is played
pub line_played : (text : List ℕ) (old s new : Session) (room n at : ℕ) (said mid after rest : List ℕ)
    → IsFirstByte (is_byte 10) rest (Some at) → HasPlayed (whole_lines text) old room said n s mid (whole_lines rest)
    → Says (line_effect s.progress (take at rest)) (first_of_text s.progress (take at rest)) (events_of (line_of (take at rest))) s room mid (Ok tt) new after
    → HasPlayed (whole_lines text) old room said (n + 1) new after
    (whole_lines (take (length rest - (at + 1)) (drop (at + 1) rest)))
line_played text old s new room n at said mid after rest first t says =
    let line : List ℕ = take at rest in
    let one : length (line ∷ []) ≡ 1 = refl in
    let others : List (List ℕ) = whole_lines (drop (at + 1) rest) in
    let H : List ℕ → Type 0 = λ v. HasPlayed (whole_lines text) old room said (n + 1) new after (whole_lines v) in
    subst H (sym (take_rest rest (at + 1)))
    (record {
      before = t.before ++ line ∷ [];
      written = t.written ++ says.0;
      parts = t.parts ∙ ap (λ v. t.before ++ v) (first_whole rest at first) ∙ sym (append_assoc t.before (line ∷ []) others);
      count = omega (arith, length-append t.before (line ∷ []), t.count, one);
      played = more_played old.progress s.progress new.progress t.before line t.written says.0 t.played says.1;
      added = Adds-then room said mid after t.written says.0 t.added says.2;
    })

-- a line stops
pub line_stops_text : (text : List ℕ) (old s new : Session) (room n at : ℕ) (said mid after rest : List ℕ) (stop : LineStop)
    → IsFirstByte (is_byte 10) rest (Some at) → HasPlayed (whole_lines text) old room said n s mid (whole_lines rest)
    → Says (line_effect s.progress (take at rest)) (first_of_text s.progress (take at rest)) (events_of (line_of (take at rest))) s room mid (Err stop) new after
    → PlaysText text old room said
    (Err (record { lines = n; taken = stop.taken; unsaid = stop.unsaid; refusal = stop.refusal })) new after
line_stops_text text old s new room n at said mid after rest stop first t says = (
  t.written ++ says.0,
  record {
    before = t.before;
    line = take at rest;
    others = whole_lines (drop (at + 1) rest);
    parted = t.parts ∙ ap (λ v. t.before ++ v) (first_whole rest at first);
    count = t.count;
    mid = s;
    first = t.written;
    second = says.0;
    played = t.played;
    stops = says.1;
    joined = refl;
  },
  Adds-then room said mid after t.written says.0 t.added says.2,
)

-- all lines are played
pub all_played : (text : List ℕ) (old s : Session) (room n : ℕ) (said after rest : List ℕ) → IsFirstByte (is_byte 10) rest None
    → HasPlayed (whole_lines text) old room said n s after (whole_lines rest) → PlaysText text old room said (Ok n) s after
all_played text old s room n said after rest none t =
    let whole : whole_lines text ≡ t.before =
    t.parts ∙ ap (λ v. t.before ++ v) (no_whole rest none) ∙ append-nil t.before in (
      t.written,
      subst (λ (v : List (List ℕ)). ArePlayed old.progress v s.progress t.written) (sym whole) t.played,
      sym t.count ∙ ap length (sym whole),
      t.added,
    )

-- ---- one line

-- a line that is read
pub says_read : (p : Progress) (text : List ℕ) (line : Line) (s new : Session) (room : ℕ) (said said' : List ℕ)
    (result : Result (Unit {0}) LineStop) → (Ok line ≡ Err faults.NoMemory) ⊎ (Ok line ≡ line_of text)
    → Says (effect_of p line) (first_events p line) (events_in line) s room said result new said'
    → Says (line_effect p text) (first_of_text p text) (events_of (line_of text)) s room said result new said'
says_read p text line s new room said said' result (inl never) h = absurd (cc never)
says_read p text line s new room said said' result (inr is) h =
    subst (λ (v : Result Line TraceFault). Says (v >>= effect_of p) (λ n. v >>= (λ l. first_events p l n)) (events_of v) s room said result new said')
    is h

-- a line that isn't
pub says_unread : (p : Progress) (text : List ℕ) (fault : TraceFault) (s : Session) (room : ℕ) (said : List ℕ)
    → ◌≡◌ {A = Result Line TraceFault} (Err fault) (Err faults.NoMemory) ⊎ (Err fault ≡ line_of text)
    → Says (line_effect p text) (first_of_text p text) (events_of (line_of text)) s room said (Err (undone (of_line fault))) s said
says_unread p text fault s room said (inl memory) =
    let m : fault ≡ faults.NoMemory = cc memory in
    ([], inr (inl (record { why = ap of_line m; undone = (refl, refl, refl); same = refl })), Adds-none room said said refl)
says_unread p text fault s room said (inr is) = (
  [],
  inl (record {
    fault = fault;
    why = refl;
    owed = ap (λ v. v >>= effect_of p) (sym is);
    undone = (refl, refl, refl);
    leaves = inl refl;
  }),
  Adds-none room said said refl,
)

-- a step of provisioning, of which nothing is written
pub says_silent : (s new : Session) (effect : Effect) (first : ℕ → Effect) (most : ℕ) (answer : Result (Unit {0}) PlayFault) (room : ℕ)
    (said : List ℕ) → Acts 0 effect answer new.progress [] → IfErr effect (λ fault. answer ≡ Err (play_fault.Trace 0 fault))
    → OnErr answer (new.progress ≡ s.progress) → Says effect first most s room said (silent (told answer)) new said
says_silent s new effect first most (Ok _) room said a h e = ([], a, Adds-none room said said refl)
says_silent s new (Ok done) first most (Err (play_fault.Trace number fault)) room said a h e = absurd (let never = a.0 in cc never)
says_silent s new (Err other) first most (Err (play_fault.Trace number fault)) room said a h e = (
  [],
  inl (record { fault = fault; why = refl; owed = a.0; undone = (refl, refl, refl); leaves = inl e }),
  Adds-none room said said refl,
)
says_silent s new (Ok done) first most (Err play_fault.NoMemory) room said a h e =
    ([], inr (inl (record { why = refl; undone = (refl, refl, refl); same = e })), Adds-none room said said refl)
says_silent s new (Err fault) first most (Err play_fault.NoMemory) room said a h e = absurd (cc h)
says_silent s new (Ok done) first most (Err play_fault.Write) room said a h e =
    ([], inr (inl (record { why = refl; undone = (refl, refl, refl); same = e })), Adds-none room said said refl)
says_silent s new (Err fault) first most (Err play_fault.Write) room said a h e = absurd (cc h)
says_silent s new effect first most (Err play_fault.Read) room said a h e = absurd a

-- ---- the MME that a line speaks to

-- it runs
runs_from : (r : Result World TraceFault) (s mid : Session) (w : World)
    → Starts (c_refusals.◌>>=◌ (of_field r) (λ world. Ok (with_world s world))) s (Ok tt) mid → mid.progress ≡ Running w → r ≡ Ok w
runs_from (Ok v) s mid w h is =
    let e : Running v ≡ Running w = sym (ap (λ (m : Session). m.progress) h) ∙ is in
    let same : v ≡ w = cc e in ap Ok same
runs_from (Err fault) s mid w h is = absurd h

-- it doesn't
pub says_unstarted : (s new : Session) (refusal : Refusal) (k : World → Effect) (first : ℕ → Effect) (most room : ℕ) (said : List ℕ)
    → Starts (started s) s (Err refusal) new → Says (running s.progress >>= k) first most s room said (Err (undone refusal)) new said
says_unstarted s new refusal k first most room said h = by (running s.progress) h
  where
    by : (r : Result World TraceFault)
        → Starts (c_refusals.◌>>=◌ (of_field r) (λ world. Ok (with_world s world))) s (Err refusal) new
        → Says (r >>= k) first most s room said (Err (undone refusal)) new said
    by (Ok v) g = (
      [],
      inr (inr (inl (record {
        why = g.0;
        undone = (refl, refl, refl);
        idle = g.1.0;
        nothing = ap (λ (m : Session). m.progress) g.1.1;
      }))),
      Adds-none room said said refl,
    )
    by (Err fault) g = (
      [],
      inl (record {
        fault = fault;
        why = g.0;
        owed = refl;
        undone = (refl, refl, refl);
        leaves = inl (ap (λ (m : Session). m.progress) g.1);
      }),
      Adds-none room said said refl,
    )

-- a session that was started runs
pub runs_started : (s mid : Session) → Starts (started s) s (Ok tt) mid → (w : World) × (mid.progress ≡ Running w)
runs_started s mid h = by (running s.progress) h
  where
    by : (r : Result World TraceFault)
        → Starts (c_refusals.◌>>=◌ (of_field r) (λ world. Ok (with_world s world))) s (Ok tt) mid
        → (w : World) × (mid.progress ≡ Running w)
    by (Ok v) g = (v, ap (λ (m : Session). m.progress) g)
    by (Err fault) g = absurd g

lifted : (unsaid : Bool) (before next_one after : World) (next : List ℕ) (replies : List Reply) (new : Progress) → new ≡ Running after
    → IsPassed unsaid before next_one after next replies → IsPassed unsaid (Running before) (Running next_one) new next replies
lifted false before next_one after next replies new ran h = ran ∙ ap Running h
lifted true before next_one after next replies new ran h = (ran ∙ ap Running h.0, h.1)

-- what the MME does that runs, the line does
pub says_started : (s mid new : Session) (w after : World) (all : World → World × List ℕ) (first : World → ℕ → World × List ℕ)
    (most room : ℕ) (said said' : List ℕ) (result : Result (Unit {0}) LineStop) → Starts (started s) s (Ok tt) mid
    → mid.progress ≡ Running w → new.progress ≡ Running after
    → WorldSays (all w) (first w) most room said result after new.replies said'
    → Says (running s.progress >>= (λ v. left (all v))) (λ n. running s.progress >>= (λ v. left (first v n))) most s room said
    result new said'
says_started s mid new w after all first most room said said' result starts is ran says =
    subst (λ (r : Result World TraceFault). Says (r >>= (λ v. left (all v))) (λ n. r >>= (λ v. left (first v n))) most s room said result new said')
    (sym (runs_from (running s.progress) s mid w starts is)) (by result says)
  where
    onto : List ℕ → Progress → Effect
    onto v p = Ok (p, v)

    by : (result : Result (Unit {0}) LineStop) → WorldSays (all w) (first w) most room said result after new.replies said'
        → Says (left (all w)) (λ n. left (first w n)) most s room said result new said'
    by (Ok _) h = (h.0, ap left h.1 ∙ ap (onto h.0) (sym ran), h.2)
    by (Err stop) h = (
      h.0,
      inr (inr (inr (record {
        before = Running h.1.before;
        after = Running h.1.after;
        next = h.1.next;
        within = h.1.within;
        passed = ap left h.1.passed;
        coming = ap left h.1.coming;
        why = h.1.why;
        leaves = lifted stop.unsaid h.1.before h.1.after after h.1.next new.replies new.progress ran h.1.leaves;
      }))),
      h.2,
    )

-- and nobody knows
pub says_unknown : (s mid : Session) (w : World) (imsi : List ℕ) (room : ℕ) (said : List ℕ) → Starts (started s) s (Ok tt) mid
    → mid.progress ≡ Running w → states_of_imsi imsi w ≡ None
    → Says (shown s.progress imsi) (first_events s.progress (Show imsi)) 1 s room said (Err (undone refusals.Provision)) mid said
says_unknown s mid w imsi room said starts is e =
    let runs = runs_from (running s.progress) s mid w starts is in
    let onto : Progress → Effect = λ p. Ok (p, []) in
    let alone : World → Effect = λ v. left (v, []) in
    let ask : World → Effect = λ v. states_shown imsi v (states_of_imsi imsi v) in (
      [],
      inl (record {
        fault = faults.Provision;
        why = refl;
        owed = ap (λ r. r >>= ask) runs ∙ ap (states_shown imsi w) e;
        undone = (refl, refl, refl);
        leaves = inr (ap (λ r. r >>= alone) runs ∙ ap onto (sym is));
      }),
      Adds-none room said said refl,
    )

-- somebody does
pub says_states : (s mid : Session) (w : World) (imsi : List ℕ) (states : States) (room : ℕ) (said said' : List ℕ)
    → Starts (started s) s (Ok tt) mid → mid.progress ≡ Running w → states_of_imsi imsi w ≡ Some states
    → Adds room said (states_text imsi states) said'
    → Says (shown s.progress imsi) (first_events s.progress (Show imsi)) 1 s room said (Ok tt) mid said'
says_states s mid w imsi states room said said' starts is e added =
    let onto : Progress → Effect = λ p. Ok (p, states_text imsi states) in
    let ask : World → Effect = λ v. states_shown imsi v (states_of_imsi imsi v) in (
      states_text imsi states,
      ap (λ r. r >>= ask) (runs_from (running s.progress) s mid w starts is) ∙ ap (states_shown imsi w) e ∙ ap onto (sym is),
      added,
    )

-- and there is no room for it
pub says_no_room : (s mid : Session) (w : World) (imsi : List ℕ) (states : States) (room : ℕ) (said said' : List ℕ)
    (refusal : Refusal) → Starts (started s) s (Ok tt) mid → mid.progress ≡ Running w → states_of_imsi imsi w ≡ Some states
    → IsFor refusal room said (states_text imsi states) → said' ≡ said
    → Says (shown s.progress imsi) (first_events s.progress (Show imsi)) 1 s room said (Err (undone refusal)) mid said'
says_no_room s mid w imsi states room said said' refusal starts is e why same =
    let runs = runs_from (running s.progress) s mid w starts is in
    let alone : World → Effect = λ v. left (v, []) in
    let ask : World → Effect = λ v. states_shown imsi v (states_of_imsi imsi v) in (
      [],
      inr (inr (inr (record {
        before = Running w;
        after = Running w;
        next = states_text imsi states;
        within = omega arith;
        passed = ap (λ r. r >>= alone) runs;
        coming = ap (λ r. r >>= ask) runs ∙ ap (states_shown imsi w) e;
        why = subst (λ (v : List ℕ). IsFor refusal room v (states_text imsi states)) (sym same) why;
        leaves = is;
      }))),
      Adds-none room said said' same,
    )

-- ---- the octets that a station sends

-- the same in other words
says_same : (effect effect' : Effect) (first first' : ℕ → Effect) (most : ℕ) (s new : Session) (room : ℕ) (said said' : List ℕ)
    (result : Result (Unit {0}) LineStop) → effect ≡ effect' → ((n : ℕ) → first n ≡ first' n)
    → Says effect first most s room said result new said' → Says effect' first' most s room said result new said'
says_same effect effect' first first' most s new room said said' (Ok _) e f h = (h.0, sym e ∙ h.1, h.2)
says_same effect effect' first first' most s new room said said' (Err stop) e f h = (h.0, by h.1, h.2)
  where
    started' : (new.progress ≡ s.progress) ⊎ (first 0 ≡ Ok (new.progress, []))
        → (new.progress ≡ s.progress) ⊎ (first' 0 ≡ Ok (new.progress, []))
    started' (inl same) = inl same
    started' (inr runs) = inr (sym (f 0) ∙ runs)

    by : StopsAt effect first most s stop room said' new h.0 → StopsAt effect' first' most s stop room said' new h.0
    by (inl own) = inl (record {
      fault = own.fault;
      why = own.why;
      owed = sym e ∙ own.owed;
      undone = own.undone;
      leaves = started' own.leaves;
    })
    by (inr (inl untaken)) = inr (inl untaken)
    by (inr (inr (inl lost))) = inr (inr (inl lost))
    by (inr (inr (inr cut))) = inr (inr (inr (record {
      before = cut.before;
      after = cut.after;
      next = cut.next;
      within = cut.within;
      passed = sym (f stop.taken) ∙ cut.passed;
      coming = sym (f (stop.taken + 1)) ∙ cut.coming;
      why = cut.why;
      leaves = cut.leaves;
    })))

-- where octets lie in memory is nothing to the MME
once_octets : (w : World) (e : ℕ) (slice : Bor (List ℕ)) (n : ℕ)
    → once w (event.In e slice) n ≡ once w (in_event e slice.now) n
unfolding happens
once_octets w e slice zero = refl
once_octets w e slice (suc n) = refl

first_octets : (p : Progress) (e : ℕ) (slice : Bor (List ℕ)) (octets : List ℕ) → slice.now ≡ octets → (n : ℕ)
    → running p >>= (λ w. left (once w (event.In e slice) n)) ≡ first_events p (In e octets) n
first_octets p e slice octets same n =
    by (running p) ∙ ap (λ v. running p >>= (λ w. left (once w (in_event e v) n))) same
  where
    by : (r : Result World TraceFault)
        → r >>= (λ w. left (once w (event.In e slice) n)) ≡ r >>= (λ w. left (once w (in_event e slice.now) n))
    by (Ok w) = ap left (once_octets w e slice n)
    by (Err fault) = refl

effect_of-in : (p : Progress) (e : ℕ) (slice : Bor (List ℕ)) (octets : List ℕ) → slice.now ≡ octets
    → happened p (event.In e slice) ≡ effect_of p (In e octets)
unfolding effect_of
effect_of-in p e slice octets same = first_octets p e slice octets same 1

pub says_octets : (p : Progress) (e : ℕ) (slice : Bor (List ℕ)) (octets : List ℕ) (line : Line) (s new : Session) (room : ℕ)
    (said said' : List ℕ) (result : Result (Unit {0}) LineStop) → slice.now ≡ octets → line ≡ In e octets
    → Says (happened p (event.In e slice)) (λ n. running p >>= (λ w. left (once w (event.In e slice) n))) 1 s room said result new said'
    → Says (effect_of p line) (first_events p line) (events_in line) s room said result new said'
says_octets p e slice octets line s new room said said' result same is h =
    subst (λ (l : Line). Says (effect_of p l) (first_events p l) (events_in l) s room said result new said') (sym is)
    (says_same (happened p (event.In e slice)) (effect_of p (In e octets)) (λ n. running p >>= (λ w. left (once w (event.In e slice) n)))
    (first_events p (In e octets)) 1 s new room said said' result (effect_of-in p e slice octets same)
    (first_octets p e slice octets same) h)
