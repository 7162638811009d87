-- Lines that are written: decimal digits have no LF, a comment says nothing.
use Rattle.std.proofs.Common.{◌≡◌, ◌≢◌, ℕ, ◌+◌, ◌%◌, ◌^◌, ◌<◌, ◌≤◌, ◌==◌, nat_lt, Bool, true, false, cond, List, [], ◌∷◌, ◌++◌, length, Option, Some, None, Result, Ok, Err, refl, sym, ap, ◌∙◌, append_assoc, arith}
use Rattle.std.specs.Prelude.{is_some, if◌then◌else◌}
use Rattle.std.specs.Result.{result_err}
use Rattle.std.specs.Fmt.{decimal}
use Rattle.std.specs.List.{slice_split}
use Rattle.std.proofs.lemmas.Fmt.{decimal_by_steps}
use Rattle.std.proofs.lemmas.Bool.Decides.{nat_tests}
use Rattle.emm_machine.specs.declared.subscriber.States.{States}
use Rattle.mme_core.specs.World.{World}
use Rattle.trace_words.specs.declared.line.Line.{Line}
use Rattle.trace_words.specs.declared.line.Line.TheVariants.{Skip}
use Rattle.trace_words.specs.declared.fault.TraceFault.{TraceFault}
use Rattle.trace_words.specs.declared.fault.TraceFault.TheVariants.{Provision, TooLong}
use Rattle.trace_words.specs.Trace.{line_of, is_skipped, read_words, ◌>>=◌}
use Rattle.trace_progress.specs.declared.progress.Progress.{Progress}
use Rattle.trace_progress.specs.Effects.{effect_of, states_of_imsi, states_shown}
use Rattle.trace_progress.specs.Text.{line_effect, lines_of, breaks}
use Rattle.trace_progress.specs.TextLaws.{breaks-append, lines_of-at, lines_of-nil}

-- ---- LFs

pub unbroken_then : (xs ys : List ℕ) → breaks xs ≡ 0 → breaks ys ≡ 0 → breaks (xs ++ ys) ≡ 0
unbroken_then xs ys h k = omega (arith, breaks-append xs ys)

digit_breaks : (d : ℕ) → d < 10 → breaks ((48 + d) ∷ []) ≡ 0
digit_breaks d h = let other : (48 + d == 10) ≡ false = grind (arith, nat_tests) in rw other refl

pub decimal_breaks : (n : ℕ) → n < 2 ^ 64 → breaks (decimal n) ≡ 0
decimal_breaks n h =
    decimal_by_steps (λ n ds. breaks ds ≡ 0) digit_breaks
    (λ n ds big before. unbroken_then ds ((48 + n % 10) ∷ []) before (digit_breaks (n % 10) (omega arith))) n h

-- ---- lines

pub first_line : (l more : List ℕ) → breaks l ≡ 0 → lines_of ((l ++ 10 ∷ []) ++ more) ≡ l ∷ lines_of more
first_line l more h = ap lines_of (append_assoc l (10 ∷ []) more) ∙ lines_of-at l more h

pub one_line : (l : List ℕ) → breaks l ≡ 0 → lines_of (l ++ 10 ∷ []) ≡ l ∷ []
one_line l h = lines_of-at l [] h ∙ ap (λ v. l ∷ v) lines_of-nil

pub one_break : (l : List ℕ) → breaks l ≡ 0 → breaks (l ++ 10 ∷ []) ≡ 1
one_break l h = omega (arith, breaks-append l (10 ∷ []), h)

-- ---- lines that are played

pub skip_effect : (progress : Progress) (l : List ℕ) → line_of l ≡ Ok Skip → line_effect progress l ≡ Ok (progress, [])
unfolding effect_of
skip_effect progress l e = ap (λ (r : Result Line TraceFault). r >>= effect_of progress) e

-- ---- what begins with `#`

pub hash_skip : (rest : List ℕ) → length rest ≤ 39999 → line_of (35 ∷ rest) ≡ Ok Skip
unfolding line_of
hash_skip rest h =
    let fits : nat_lt 40000 (length (35 ∷ rest)) ≡ false = grind (arith, nat_tests) in
    rw fits refl

tested : (P : Type 0) (b : Bool) (first second : Result Line TraceFault) (line : Line) → cond b first second ≡ Ok line
    → (b ≡ true → first ≡ Ok line → P) → (b ≡ false → second ≡ Ok line → P) → P
tested P true first second line e f g = f refl e
tested P false first second line e f g = g refl e

-- a line that says something is no comment
pub not_skipped : (text : List ℕ) (line : Line) → line_of text ≡ Ok line → line ≢ Skip → is_skipped text ≡ false
unfolding line_of
not_skipped text line e other =
    let P : Type 0 = is_skipped text ≡ false in
    tested P (nat_lt 40000 (length text)) (Err TooLong)
    (cond (is_skipped text) (Ok Skip) (read_words (slice_split (λ c. c == 32) text))) line e
    (λ _ e1. absurd (cc e1))
    (λ _ e1. tested P (is_skipped text) (Ok Skip) (read_words (slice_split (λ c. c == 32) text)) line e1
    (λ b h. absurd (other (let s : Skip ≡ line = cc h in sym s)))
    (λ b h. b))

-- ---- questions

asked_of : (world : World) (imsi : List ℕ) (states : Option States) (known : Bool) → known ≡ is_some states
    → result_err (states_shown imsi world states) ≡ (if known then None else Some Provision)
asked_of world imsi None known e = sym (ap (λ b. if b then None else Some Provision) e)
asked_of world imsi (Some states) known e = sym (ap (λ b. if b then None else Some Provision) e)

-- the fault is that nobody is provisioned with the IMSI
pub asked : (world : World) (imsi : List ℕ) (known : Bool) → known ≡ is_some (states_of_imsi imsi world)
    → result_err (states_shown imsi world (states_of_imsi imsi world)) ≡ (if known then None else Some Provision)
asked world imsi known e = asked_of world imsi (states_of_imsi imsi world) known e
