-- The lines of a script, played one after another.
use Rattle.std.proofs.Common.{◌≡◌, ℕ, ◌+◌, ◌-◌, ◌<◌, nat_lt, ◌||◌, Bool, true, false, List, [], ◌∷◌, ◌++◌, length, take, Option, Some, None, Result, Ok, Err, OnOk, inl, inr, refl, sym, ap, subst, ◌∙◌, append-nil, append_assoc, length-append, arith}
use Rattle.std.specs.Prelude.{slice_get}
use Rattle.std.proofs.lemmas.Bool.{cases_eq}
use Rattle.std.proofs.lemmas.Bool.Decides.{nat_tests}
use Rattle.std.proofs.lemmas.List.{take_all, take-append-le}
use Rattle.std.proofs.lemmas.List.Folds.{list_any-append}
use Rattle.trace_words.specs.declared.line.Line.{Line}
use Rattle.trace_words.specs.declared.fault.TraceFault.{TraceFault}
use Rattle.trace_words.specs.declared.fault.TraceFault.TheVariants.{TooLong}
use Rattle.trace_words.specs.Kept.{kept_in}
use Rattle.trace_words.specs.Script.{script_line_of}
use Rattle.trace_progress.specs.declared.fault.PlayFault.{PlayFault}
use Rattle.trace_progress.specs.declared.fault.PlayFault.TheVariants.{Trace, Read, Write, NoMemory}
use Rattle.trace_progress.specs.declared.progress.Progress.{Progress}
use Rattle.trace_progress.specs.declared.progress.Progress.TheVariants.{Nothing}
use Rattle.trace_progress.specs.Text.{prepended, play, played_text, lines_of, played_of, breaks}
use Rattle.trace_progress.specs.TextLaws.{lines_of-nil, play-nil, prepended-ends}
use Rattle.trace_run.specs.Watching.{failed_after_play}
use Rattle.trace_run.specs.OneLine.{IsOfLine}
use Rattle.trace_run.specs.Lines.{PlaysAll, StopsAt, PlaysEach}
use Rattle.sim_lines.specs.sim_printing.Printed.{answers_in, Speaks, Prints, PrintsScriptLine}
use Rattle.sim_lines.specs.sim_printing.PrintLaws.{kept_in-append, Speaks-nil, Speaks-then}
use Rattle.sim_run.specs.declared.player.ScriptPlayer.{ScriptPlayer}
use Rattle.sim_lines.specs.Faults.{AnswersFault, ends_provisioning, script_fault}
use Rattle.sim_run.specs.Simulated.{HaveNoFault, Meets, SimTells, WritesLine, acted_in}

-- what the script's player makes of a line
abbrev pub writes : ScriptPlayer → ℕ → List ℕ → Result (Unit {0}) PlayFault → ScriptPlayer → List ℕ → Type 0
writes old number text result new written =
    WritesLine (kept_in (text ∷ [])) old.script.progress result new.script.progress written
    × AnswersFault (script_fault old.script.acted old.script.progress text) result
    × OnOk result (new.script.acted ≡ (ends_provisioning text || old.script.acted))

kept_none : kept_in (lines_of []) ≡ []
kept_none = ap kept_in lines_of-nil

-- ---- a line

-- what was printed onto nothing
pub WritesLine-printed : (kept : List (Result Line TraceFault)) (old new : Progress) (before after : List ℕ) → before ≡ []
    → Prints old before new after kept → WritesLine kept old (Ok tt) new after
WritesLine-printed kept old new before after e prints =
    let whole : prints.0 ≡ after = sym (prints.1 ∙ ap (λ v. v ++ prints.0) e) in
    subst (λ (v : List ℕ). WritesLine kept old (Ok tt) new v) whole (prints.2, prints.3)

-- a fault, at which nothing is written
pub WritesLine-fault : (number : ℕ) (kept : List (Result Line TraceFault)) (old new : Progress) (before after : List ℕ) (fault : PlayFault)
    → PrintsScriptLine number kept old before (Err fault) new after → WritesLine kept old (Err fault) new []
WritesLine-fault number kept old new before after (Trace line fault) h = refl
WritesLine-fault number kept old new before after NoMemory h = refl
WritesLine-fault number kept old new before after Write h = absurd h
WritesLine-fault number kept old new before after Read h = absurd h

-- no script line's fault is that of a write
pub failed-script_line : (failed : Bool) (number : ℕ) (kept : List (Result Line TraceFault)) (old new : Progress)
    (before after : List ℕ) (fault : PlayFault)
    → PrintsScriptLine number kept old before (Err fault) new after → failed ≡ failed_after_play {A = Unit {0}} failed (Err fault)
failed-script_line failed number kept old new before after (Trace line fault) h = refl
failed-script_line failed number kept old new before after NoMemory h = refl
failed-script_line failed number kept old new before after Write h = absurd h
failed-script_line failed number kept old new before after Read h = absurd h

pub PrintsScriptLine-place : (number : ℕ) (kept : List (Result Line TraceFault)) (old new : Progress) (before after : List ℕ)
    (fault : PlayFault) → PrintsScriptLine number kept old before (Err fault) new after → IsOfLine number (Err fault)
PrintsScriptLine-place number kept old new before after (Trace line fault) h = h.0
PrintsScriptLine-place number kept old new before after NoMemory h = tt
PrintsScriptLine-place number kept old new before after Write h = tt
PrintsScriptLine-place number kept old new before after Read h = h

-- ---- lists of lines

at_end : {X : Type 0} (xs : List X) (x : X) (ys : List X) → slice_get (xs ++ x ∷ ys) (length xs) ≡ Some x
at_end [] x ys = refl
at_end (a ∷ xs) x ys = at_end xs x ys

front_of : (lines passed rest : List (List ℕ)) → lines ≡ passed ++ rest → take (length passed) lines ≡ passed
front_of lines passed rest e =
    ap (take (length passed)) e ∙ take-append-le (length passed) passed rest (omega arith)
    ∙ take_all (length passed) passed (omega arith)

-- ---- where the player of a script stands

-- after these lines, with this written
record Stands (passed : List (List ℕ)) (said : List ℕ) (player : ScriptPlayer) : Type 0 where
  pub speaks : Speaks Nothing said player.script.progress
  pub kept : kept_in (lines_of said) ≡ kept_in passed
  pub acted : player.script.acted ≡ acted_in passed

starts : (player : ScriptPlayer) → player.script.progress ≡ Nothing → player.script.acted ≡ false → Stands [] [] player
starts player start none = record {
  speaks = subst (λ (v : Progress). Speaks Nothing [] v) (sym start) (Speaks-nil Nothing);
  kept = kept_none;
  acted = none;
}

turned : (a b : Bool) → (a || b) ≡ (b || (a || false))
turned true true = refl
turned true false = refl
turned false true = refl
turned false false = refl

goes_on : (passed : List (List ℕ)) (text said first : List ℕ) (old mid : ScriptPlayer) (number : ℕ) → Stands passed said old
    → writes old number text (Ok tt) mid first → Stands (passed ++ text ∷ []) (said ++ first) mid
goes_on passed text said first old mid number h w = record {
  speaks = Speaks-then Nothing old.script.progress mid.script.progress said first h.speaks w.0.0;
  kept =
      ap kept_in (h.speaks.whole first) ∙ kept_in-append (lines_of said) (lines_of first)
      ∙ ap (λ v. v ++ kept_in (lines_of first)) h.kept ∙ ap (λ v. kept_in passed ++ v) w.0.1
      ∙ sym (kept_in-append passed (text ∷ []));
  acted =
      w.2 ∙ turned (ends_provisioning text) old.script.acted ∙ ap (λ b. b || (ends_provisioning text || false)) h.acted
      ∙ sym (list_any-append ends_provisioning passed (text ∷ []));
}

-- ---- a line as it is met

met : (lines passed others : List (List ℕ)) (text said : List ℕ) (player : ScriptPlayer) (fault : Option TraceFault)
    → lines ≡ passed ++ text ∷ others → Stands passed said player
    → script_fault player.script.acted player.script.progress text ≡ fault
    → Meets lines (length passed) said fault
met lines passed others text said player fault e h is =
    let front = front_of lines passed (text ∷ others) e in
    let progress = player.script.progress in
    record {
      text = text;
      progress = progress;
      there = ap (λ ls. slice_get ls (length passed)) e ∙ at_end passed text others;
      speaks = h.speaks;
      kept = h.kept ∙ ap kept_in (sym front);
      has = ap (λ ls. script_fault (acted_in ls) progress text) front ∙ ap (λ b. script_fault b progress text) (sym h.acted) ∙ is;
    }

too_long : (acted : Bool) (progress : Progress) (text : List ℕ) → 40000 < length text
    → script_fault acted progress text ≡ Some TooLong
unfolding script_line_of
too_long acted progress text h = let long : nat_lt 40000 (length text) ≡ true = grind (arith, nat_tests) in rw long refl

-- one line more has none
none_more : (lines passed : List (List ℕ)) (text said first : List ℕ) → HaveNoFault lines (length passed) said
    → Meets lines (length passed) said None → HaveNoFault lines (length (passed ++ text ∷ [])) (said ++ first)
none_more lines passed text said first h m place low = elim (cases_eq place (length passed)) [
  | inl is ↦ (said, first, refl, subst (λ (p : ℕ). Meets lines p said None) (sym is) m)
  | inr other ↦
      let before : place < length passed = omega (arith, low, other, length-append passed (text ∷ [])) in
      let q = h place before in
      (q.0, q.1 ++ first, ap (λ v. v ++ first) q.2 ∙ append_assoc q.0 q.1 first, q.3)
]

-- ---- lines

abbrev Passes : List (List ℕ) → List (List ℕ) → List ℕ → ScriptPlayer → Type 0
Passes lines passed said player = Stands passed said player × HaveNoFault lines (length passed) said

begins : (lines : List (List ℕ)) (player : ScriptPlayer) → player.script.progress ≡ Nothing → player.script.acted ≡ false
    → Passes lines [] [] player
begins lines player start none = (starts player start none, λ place low. absurd (omega (arith, low)))

-- all lines that are played
pass_all : (lines passed texts rest : List (List ℕ)) (said : List ℕ) (old new : ScriptPlayer) (number : ℕ) (written : List ℕ)
    → lines ≡ passed ++ (texts ++ rest) → Passes lines passed said old → PlaysAll writes old number texts new written
    → Passes lines (passed ++ texts) (said ++ written) new
pass_all lines passed [] rest said old new number written e h all =
    let out : said ++ written ≡ said = ap (λ v. said ++ v) all.1 ∙ append-nil said in
    subst (λ (ls : List (List ℕ)). Passes lines ls (said ++ written) new) (sym (append-nil passed))
    (subst (λ (s : List ℕ). Passes lines passed s new) (sym out)
    (subst (λ (v : ScriptPlayer). Passes lines passed said v) (sym all.0) h))
pass_all lines passed (text ∷ texts) rest said old new number written e h all =
    let first = all.1 in
    let others = all.2 in
    let m = met lines passed (texts ++ rest) text said old None e h.0 all.3.1 in
    let next : Passes lines (passed ++ text ∷ []) (said ++ first) all.0 = (
      goes_on passed text said first old all.0 number h.0 all.3,
      none_more lines passed text said first h.1 m,
    ) in
    let done =
    pass_all lines (passed ++ text ∷ []) texts rest (said ++ first) all.0 new (number + 1) others
    (e ∙ sym (append_assoc passed (text ∷ []) (texts ++ rest))) next all.4 in
    let out : (said ++ first) ++ others ≡ said ++ written = append_assoc said first others ∙ ap (λ v. said ++ v) (sym all.5) in
    subst (λ (ls : List (List ℕ)). Passes lines ls (said ++ written) new) (append_assoc passed (text ∷ []) texts)
    (subst (λ (s : List ℕ). Passes lines ((passed ++ text ∷ []) ++ texts) s new) out done)

-- whole lines that lead a trace on from its start, as a trace
told_by : (text : List ℕ) (new : Progress) → Speaks Nothing text new
    → played_of text ≡ played_text (answers_in (lines_of text)) None
told_by text new speaks =
    let said = answers_in (lines_of text) in
    ap played_of (sym (append-nil text)) ∙ speaks.plays 1 []
    ∙ ap (λ ls. prepended said (play new (1 + breaks text) ls)) lines_of-nil
    ∙ ap (prepended said) (play-nil new (1 + breaks text)) ∙ prepended-ends said None

-- nothing is written of a line that has a fault or is too long
stopped : (old new : ScriptPlayer) (number : ℕ) (lines : List (List ℕ)) (line : ℕ) (fault : TraceFault) (written : List ℕ)
    → StopsAt writes old number lines (Trace line fault) new written → written ≡ []
stopped old new number lines line fault written h = elim h.1 [ inl own ↦ own.3.0 | inr long ↦ long.2.1 ]

-- the line that stops a script has its fault
stopped_by : (lines passed rest : List (List ℕ)) (said : List ℕ) (player new : ScriptPlayer) (line : ℕ) (fault : TraceFault)
    (written : List ℕ) → lines ≡ passed ++ rest → Stands passed said player
    → StopsAt writes player (1 + length passed) rest (Trace line fault) new written → Meets lines (length passed) said (Some fault)
stopped_by lines passed rest said player new line fault written e h stops = elim stops.1 [
  | inl own ↦ met lines passed own.1 own.0 said player (Some fault) (e ∙ ap (λ ls. passed ++ ls) own.2) h own.3.1
  | inr long ↦
      let front = long.1 in
      let is = too_long player.script.acted player.script.progress front.0 front.3 ∙ ap Some (sym long.0) in
      met lines passed front.1 front.0 said player (Some fault) (e ∙ ap (λ ls. passed ++ ls) front.2) h is
]

-- ---- a whole script

-- what `SimTells` says of a fault, of the lines before it
abbrev ToldUpTo : List ℕ → TraceFault → ℕ → List ℕ → Type 0
ToldUpTo read fault count written =
    (played_of written ≡ played_text (answers_in (lines_of written)) None)
    × (kept_in (lines_of written) ≡ kept_in (take count (lines_of read)))
    × HaveNoFault (lines_of read) count written
    × Meets (lines_of read) count written (Some fault)

pub SimTells-each : (first new : ScriptPlayer) (read written : List ℕ) → first.script.progress ≡ Nothing → first.script.acted ≡ false
    → (result : Result (Unit {0}) PlayFault) → PlaysEach writes first 1 (lines_of read) result new written
    → SimTells read written result
SimTells-each first new read written start none (Ok _) h =
    let lines = lines_of read in
    let begun = begins lines first start none in
    let all = pass_all lines [] lines [] [] first new 1 written (sym (append-nil lines)) begun h in
    (told_by written new.script.progress all.0.speaks, all.0.kept, all.1)
SimTells-each first new read written start none (Err (Trace line fault)) h =
    let lines = lines_of read in
    let begun = begins lines first start none in
    let all = pass_all lines [] h.texts h.rest [] first h.mid 1 h.before h.parted begun h.played in
    let nothing = stopped h.mid new (1 + length h.texts) h.rest line fault h.after h.stops in
    let same : h.before ≡ written = sym (h.joined ∙ ap (λ v. h.before ++ v) nothing ∙ append-nil h.before) in
    let number = h.stops.0 in
    let count : length h.texts ≡ line - 1 = omega (arith, number) in
    let has = stopped_by lines h.texts h.rest h.before h.mid new line fault h.after h.parted all.0 h.stops in
    let kept = all.0.kept ∙ ap kept_in (sym (front_of lines h.texts h.rest h.parted)) in
    let told : ToldUpTo read fault (length h.texts) h.before =
    (told_by h.before h.mid.script.progress all.0.speaks, kept, all.1, has) in
    subst (λ (v : List ℕ). ToldUpTo read fault (line - 1) v) same (subst (λ (n : ℕ). ToldUpTo read fault n h.before) count told)
SimTells-each first new read written start none (Err NoMemory) h = tt
SimTells-each first new read written start none (Err Write) h = tt
SimTells-each first new read written start none (Err Read) h = tt
