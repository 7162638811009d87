-- Lines and comments that are printed, one after another.
use Rattle.std.proofs.Common.{◌≡◌, ◌≢◌, ℕ, ◌+◌, ◌≤◌, ◌==◌, Bool, true, false, cond, List, [], ◌∷◌, ◌++◌, length, Result, Ok, refl, sym, ap, subst, ◌∙◌, append_assoc, append-nil, arith}
use Rattle.trace_words.specs.declared.line.Line.{Line}
use Rattle.trace_words.specs.declared.line.Line.TheVariants.{Skip}
use Rattle.trace_words.specs.declared.fault.TraceFault.{TraceFault}
use Rattle.trace_words.specs.Lines.{is_unbroken}
use Rattle.trace_answers.specs.Lines.{IsLineWithin}
use Rattle.trace_words.specs.Trace.{line_of, is_skipped, ◌>>=◌}
use Rattle.trace_words.specs.Kept.{kept_in, kept_line, is_kept_text}
use Rattle.trace_words.specs.Script.{CommentsAreNotKept, FirstWordTells}
use Rattle.trace_progress.specs.declared.progress.Progress.{Progress}
use Rattle.trace_progress.specs.Effects.{effect_of}
use Rattle.trace_progress.specs.Text.{prepended, play, then_play, line_effect, lines_of, breaks}
use Rattle.sim_printing.specs.Printed.{answer_in, answers_in, AreComments, AddsComments, Speaks, Prints, ReadsAs}
use Rattle.trace_progress.specs.TextLaws.{breaks-append, lines_of-nil, play-cons, prepended-then}
use Rattle.sim_printing.specs.LineLaws.{first_line, one_line, one_break, skip_effect, hash_skip, not_skipped}

pub kept_nil : (xs : List (Result Line TraceFault)) → xs ++ [] ≡ xs
kept_nil xs = append-nil xs

cond_append : (b : Bool) (x : Result Line TraceFault) (xs ys : List (Result Line TraceFault))
    → cond b (x ∷ (xs ++ ys)) (xs ++ ys) ≡ cond b (x ∷ xs) xs ++ ys
cond_append true x xs ys = refl
cond_append false x xs ys = refl

pub kept_in-append : (xs ys : List (List ℕ)) → kept_in (xs ++ ys) ≡ kept_in xs ++ kept_in ys
kept_in-append [] ys = refl
kept_in-append (x ∷ xs) ys =
    ap (λ v. cond (is_kept_text x) (line_of x ∷ v) v) (kept_in-append xs ys)
    ∙ cond_append (is_kept_text x) (line_of x) (kept_in xs) (kept_in ys)

answers_in-append : (xs ys : List (List ℕ)) → answers_in (xs ++ ys) ≡ answers_in xs ++ answers_in ys
answers_in-append [] ys = refl
answers_in-append (x ∷ xs) ys =
    ap (λ v. answer_in x ++ v) (answers_in-append xs ys) ∙ sym (append_assoc (answer_in x) (answers_in xs) (answers_in ys))

lines_assoc : (a b c : List (List ℕ)) → (a ++ b) ++ c ≡ a ++ (b ++ c)
lines_assoc a b c = append_assoc a b c

-- ---- comments

pub AreComments-nil : AreComments [] []
AreComments-nil = record {
  whole = λ more. ap (λ ls. ls ++ lines_of more) (sym lines_of-nil);
  silent = λ progress n more. ap (λ m. play progress m (lines_of more)) (let e : n ≡ n + 0 = omega arith in e);
  said_so = ap answers_in lines_of-nil;
  none_kept = ap kept_in lines_of-nil;
}

AreComments-line : (l said : List ℕ) → breaks l ≡ 0 → line_of l ≡ Ok Skip → is_kept_text l ≡ false → answer_in l ≡ said
    → AreComments (l ++ 10 ∷ []) said
AreComments-line l said h skip other e = record {
  whole = λ more. first_line l more h ∙ ap (λ ls. ls ++ lines_of more) (sym (one_line l h));
  silent = λ progress n more.
      ap (play progress n) (first_line l more h) ∙ play-cons progress n l (lines_of more)
      ∙ ap (λ f. then_play n f (λ w. play w (n + 1) (lines_of more))) (skip_effect progress l skip)
      ∙ ap (λ m. play progress m (lines_of more)) (let s : n + 1 ≡ n + breaks (l ++ 10 ∷ []) = omega (arith, one_break l h) in s);
  said_so = ap answers_in (one_line l h) ∙ append-nil (answer_in l) ∙ e;
  none_kept = ap kept_in (one_line l h) ∙ ap (λ b. cond b (line_of l ∷ []) []) other;
}

pub AreComments-append : (a b x y : List ℕ) → AreComments a x → AreComments b y → AreComments (a ++ b) (x ++ y)
AreComments-append a b x y p q =
    let both : lines_of (a ++ b) ≡ lines_of a ++ lines_of b = p.whole b in
    record {
      whole = λ more.
          ap lines_of (append_assoc a b more) ∙ p.whole (b ++ more) ∙ ap (λ ls. lines_of a ++ ls) (q.whole more)
          ∙ sym (lines_assoc (lines_of a) (lines_of b) (lines_of more)) ∙ ap (λ ls. ls ++ lines_of more) (sym both);
      silent = λ progress n more.
          ap (λ t. play progress n (lines_of t)) (append_assoc a b more) ∙ p.silent progress n (b ++ more)
          ∙ q.silent progress (n + breaks a) more
          ∙ ap (λ m. play progress m (lines_of more))
          (let s : n + breaks a + breaks b ≡ n + breaks (a ++ b) = omega (arith, breaks-append a b) in s);
      said_so = ap answers_in both ∙ answers_in-append (lines_of a) (lines_of b) ∙ ap (λ v. v ++ answers_in (lines_of b)) p.said_so
          ∙ ap (λ v. x ++ v) q.said_so;
      none_kept = ap kept_in both ∙ kept_in-append (lines_of a) (lines_of b) ∙ ap (λ v. v ++ kept_in (lines_of b)) p.none_kept
          ∙ q.none_kept;
    }

unbroken_by : (b : Bool) (cs : List ℕ) → (is_unbroken cs ≡ true → breaks cs ≡ 0) → cond b false (is_unbroken cs) ≡ true
    → cond b (1 + breaks cs) (breaks cs) ≡ 0
unbroken_by true cs ih h = absurd (cc h)
unbroken_by false cs ih h = ih h

pub unbroken_breaks : (text : List ℕ) → is_unbroken text ≡ true → breaks text ≡ 0
unbroken_breaks [] h = refl
unbroken_breaks (c ∷ cs) h = unbroken_by (c == 10) cs (unbroken_breaks cs) h

-- a text that was written of a line
pub ReadsAs-text : (line : Line) (text same : List ℕ) → same ≡ text → line_of text ≡ Ok line → is_unbroken text ≡ true
    → ReadsAs line same
ReadsAs-text line text same e read unbroken = subst (λ (v : List ℕ). ReadsAs line v) (sym e) (unbroken_breaks text unbroken, read)

-- an answer line after `# `
AreComments-body : CommentsAreNotKept → (body : List ℕ) → breaks body ≡ 0 → length body ≤ 39998
    → AreComments (35 ∷ 32 ∷ (body ++ 10 ∷ [])) (body ++ 10 ∷ [])
AreComments-body law body h short =
    AreComments-line (35 ∷ 32 ∷ body) (body ++ 10 ∷ []) h (hash_skip (32 ∷ body) (omega arith)) (law (32 ∷ body)) refl

pub AreComments-answer : CommentsAreNotKept → (most : ℕ) (text : List ℕ) → most ≤ 39998 → IsLineWithin most text
    → AreComments (35 ∷ 32 ∷ text) text
AreComments-answer law most text h line =
    subst (λ (v : List ℕ). AreComments (35 ∷ 32 ∷ v) v) (sym line.ends)
    (AreComments-body law line.body (unbroken_breaks line.body line.unbroken) (let s = line.short in omega (arith, s, h)))

-- a remark: a line that begins with `##`
pub AreComments-remark : CommentsAreNotKept → (body : List ℕ) → breaks body ≡ 0 → length body ≤ 39998
    → AreComments (35 ∷ 35 ∷ (body ++ 10 ∷ [])) []
AreComments-remark law body h short =
    AreComments-line (35 ∷ 35 ∷ body) [] h (hash_skip (35 ∷ body) (omega arith)) (law (35 ∷ body)) refl

pub AddsComments-none : (out : List ℕ) → AddsComments out out []
AddsComments-none out = ([], sym (append-nil out), AreComments-nil)

pub AddsComments-then : (a b c x y : List ℕ) → AddsComments a b x → AddsComments b c y → AddsComments a c (x ++ y)
AddsComments-then a b c x y p q =
    (p.0 ++ q.0, q.1 ∙ ap (λ v. v ++ q.0) p.1 ∙ append_assoc a p.0 q.0, AreComments-append p.0 q.0 x y p.2 q.2)

pub AddsComments-said : (before after said same : List ℕ) → said ≡ same → AddsComments before after said
    → AddsComments before after same
AddsComments-said before after said same e h = subst (λ (v : List ℕ). AddsComments before after v) e h

-- ---- lines that are played

pub Speaks-nil : (progress : Progress) → Speaks progress [] progress
Speaks-nil progress = record {
  whole = λ more. ap (λ ls. ls ++ lines_of more) (sym lines_of-nil);
  plays = λ n more.
      ap (λ m. play progress m (lines_of more)) (let e : n ≡ n + 0 = omega arith in e)
      ∙ ap (λ ls. prepended (answers_in ls) (play progress (n + 0) (lines_of more))) (sym lines_of-nil);
}

Speaks-comments : (progress : Progress) (text : List ℕ) → AreComments text [] → Speaks progress text progress
Speaks-comments progress text c = record {
  whole = c.whole;
  plays = λ n more. c.silent progress n more
      ∙ ap (λ v. prepended v (play progress (n + breaks text) (lines_of more))) (sym c.said_so);
}

pub Speaks-then : (a b c : Progress) (s t : List ℕ) → Speaks a s b → Speaks b t c → Speaks a (s ++ t) c
Speaks-then a b c s t p q =
    let both : lines_of (s ++ t) ≡ lines_of s ++ lines_of t = p.whole t in
    record {
      whole = λ more.
          ap lines_of (append_assoc s t more) ∙ p.whole (t ++ more) ∙ ap (λ ls. lines_of s ++ ls) (q.whole more)
          ∙ sym (lines_assoc (lines_of s) (lines_of t) (lines_of more)) ∙ ap (λ ls. ls ++ lines_of more) (sym both);
      plays = λ n more.
          ap (λ v. play a n (lines_of v)) (append_assoc s t more) ∙ p.plays n (t ++ more)
          ∙ ap (prepended (answers_in (lines_of s))) (q.plays (n + breaks s) more)
          ∙ prepended-then (answers_in (lines_of s)) (answers_in (lines_of t)) (play c (n + breaks s + breaks t) (lines_of more))
          ∙ ap (λ v. prepended v (play c (n + breaks s + breaks t) (lines_of more)))
          (sym (ap answers_in both ∙ answers_in-append (lines_of s) (lines_of t)))
          ∙ ap (λ m. prepended (answers_in (lines_of (s ++ t))) (play c m (lines_of more)))
          (let e : n + breaks s + breaks t ≡ n + breaks (s ++ t) = omega (arith, breaks-append s t) in e);
    }

no_answer : (l : List ℕ) → is_skipped l ≡ false → answer_in l ≡ []
no_answer [] h = refl
no_answer (a ∷ []) h = refl
no_answer (a ∷ b ∷ rest) h = rw h refl

-- a line and its answers
Speaks-line : (old new : Progress) (l said c : List ℕ) (line : Line) → ReadsAs line l → line ≢ Skip
    → effect_of old line ≡ Ok (new, said) → AreComments c said → Speaks old ((l ++ 10 ∷ []) ++ c) new
Speaks-line old new l said c line reads some effect comments =
    let h = reads.0 in
    let none = no_answer l (not_skipped l line reads.1 some) in
    let all : lines_of ((l ++ 10 ∷ []) ++ c) ≡ l ∷ lines_of c = first_line l c h in
    let said_all : answers_in (lines_of ((l ++ 10 ∷ []) ++ c)) ≡ said =
    ap answers_in all ∙ ap (λ v. v ++ answers_in (lines_of c)) none ∙ comments.said_so in
    let rest = λ (more : List ℕ). ap lines_of (append_assoc (l ++ 10 ∷ []) c more) ∙ first_line l (c ++ more) h in
    let done : line_effect old l ≡ Ok (new, said) = ap (λ (r : Result Line TraceFault). r >>= effect_of old) reads.1 ∙ effect in
    record {
      whole = λ more. rest more ∙ ap (λ ls. l ∷ ls) (comments.whole more) ∙ ap (λ ls. ls ++ lines_of more) (sym all);
      plays = λ n more.
          ap (play old n) (rest more) ∙ play-cons old n l (lines_of (c ++ more))
          ∙ ap (λ f. then_play n f (λ w. play w (n + 1) (lines_of (c ++ more)))) done
          ∙ ap (prepended said) (comments.silent new (n + 1) more)
          ∙ ap (λ m. prepended said (play new m (lines_of more)))
          (let e : n + 1 + breaks c ≡ n + breaks ((l ++ 10 ∷ []) ++ c) =
          omega (arith, one_break l h, breaks-append (l ++ 10 ∷ []) c) in e)
          ∙ ap (λ v. prepended v (play new (n + breaks ((l ++ 10 ∷ []) ++ c)) (lines_of more))) (sym said_all);
    }

-- ---- what a call prints

pub Prints-none : (progress : Progress) (out : List ℕ) → Prints progress out progress out []
Prints-none progress out = ([], sym (append-nil out), Speaks-nil progress, ap kept_in lines_of-nil)

pub Prints-then : (a b c : Progress) (s t u : List ℕ) (kept : List (Result Line TraceFault)) → Prints a s b t kept
    → Prints b t c u [] → Prints a s c u kept
Prints-then a b c s t u kept p q = (
  p.0 ++ q.0,
  q.1 ∙ ap (λ v. v ++ q.0) p.1 ∙ append_assoc s p.0 q.0,
  Speaks-then a b c p.0 q.0 p.2 q.2,
  ap kept_in (p.2.whole q.0) ∙ kept_in-append (lines_of p.0) (lines_of q.0) ∙ ap (λ v. v ++ kept_in (lines_of q.0)) p.3
      ∙ ap (λ v. kept ++ v) q.3 ∙ kept_nil kept,
)

-- comments that answer nothing leave the trace where it is
pub Prints-comments : (progress : Progress) (before after : List ℕ) → AddsComments before after []
    → Prints progress before progress after []
Prints-comments progress before after h = (h.0, h.1, Speaks-comments progress h.0 h.2, h.2.none_kept)

pub kept_in-read : FirstWordTells → (text : List ℕ) (line : Line) → line_of text ≡ Ok line → kept_in (text ∷ []) ≡ kept_line line
kept_in-read law text line e = rw (law text line e, e) refl

-- a line and its answers
pub Prints-line : FirstWordTells → (old new : Progress) (before mid after l said : List ℕ) (line : Line) → ReadsAs line l
    → line ≢ Skip
    → effect_of old line ≡ Ok (new, said) → mid ≡ before ++ (l ++ 10 ∷ []) → AddsComments mid after said
    → Prints old before new after (kept_line line)
Prints-line law old new before mid after l said line reads some effect m adds =
    let c = adds.0 in (
      (l ++ 10 ∷ []) ++ c,
      adds.1 ∙ ap (λ v. v ++ c) m ∙ append_assoc before (l ++ 10 ∷ []) c,
      Speaks-line old new l said c line reads some effect adds.2,
      ap kept_in (first_line l c reads.0) ∙ kept_in-append (l ∷ []) (lines_of c) ∙ ap (λ v. kept_in (l ∷ []) ++ v) adds.2.none_kept
          ∙ kept_nil (kept_in (l ∷ [])) ∙ kept_in-read law l line reads.1,
    )
