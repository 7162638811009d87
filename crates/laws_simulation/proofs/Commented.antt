-- The lines that begin with `# `: those for an owner are, without these octets, the lines for it in the text of all of them.
use Rattle.std.proofs.Common.{◌≡◌, ℕ, ◌+◌, ◌==◌, ◌&&◌, Bool, true, false, cond, eqb, List, [], ◌∷◌, ◌++◌, filter, map, Result, Ok, Err, inl, inr, refl, sym, ap, subst, ◌∙◌}
use Rattle.std.specs.List.{onto_first}
use Rattle.std.proofs.lemmas.Bool.{and_left, and_right, cases_eq, ne_eqb}
use Rattle.mme_answering.specs.declared.out.Owner.TheVariants.{Station, Stranger, Subscriber}
use Rattle.identity_slots.specs.Ids.{stranger_id}
use Rattle.trace_answers.specs.Words.{owner_text}
use Rattle.trace_progress.specs.declared.fault.PlayFault.{PlayFault}
use Rattle.trace_progress.specs.declared.fault.PlayFault.TheVariants.{Trace, Read, Write, NoMemory}
use Rattle.trace_progress.specs.Text.{Played, breaks, lines_of, played_of}
use Rattle.trace_progress.specs.TextLaws.{breaks-cons, lines_of-nil}
use Rattle.sim_run.specs.sim_printing.LineLaws.{first_line}
use Rattle.sim_run.specs.sim_printing.Printed.{answer_in, answers_in}
use Rattle.sim_run.specs.Simulated.{SimTells}
use Rattle.laws_simulation.specs.Comments.{CommentsArePlayed, IsToEnd, NobodyIsSimulated, NothingIsSimulated, SlotIsSimulated, StationIsSimulated, StrangerIsSimulated, commented}
use Rattle.laws_simulation.specs.OwnLines.{NobodyIsPrinted, NothingIsPrinted, SlotIsPrinted, StationIsPrinted, StrangerIsPrinted}
use Rattle.laws_simulation.specs.Printed.{begins_with, lines_for}

-- ---- lines have no LF

abbrev AreLines : List (List ℕ) → Type 0
AreLines [] = Unit {0}
AreLines (l ∷ ls) = (breaks l ≡ 0) × AreLines ls

lines_next : (b : Bool) (c : ℕ) (ls : List (List ℕ)) → (c == 10) ≡ b → AreLines ls → AreLines (cond b ([] ∷ ls) (onto_first c ls))
lines_next true c ls e h = (refl, h)
lines_next false c [] e h = (ap (λ b. cond b 1 0) e, tt)
lines_next false c (l ∷ ls) e h = (ap (λ b. cond b (1 + breaks l) (breaks l)) e ∙ h.0, h.1)

are_lines : (text : List ℕ) → AreLines (lines_of text)
unfolding lines_of
are_lines [] = tt
are_lines (c ∷ cs) = lines_next (c == 10) c (lines_of cs) refl (are_lines cs)

-- ---- one line

-- the comments of a name are the lines of that name among the answers
abbrev Agrees : List ℕ → List (List ℕ) → Type 0
Agrees name ls =
    filter (begins_with (commented name)) ls ≡ map commented (filter (begins_with name) (lines_of (answers_in ls)))

-- a line that says nothing and has another beginning
passed_over : (name l : List ℕ) (ls : List (List ℕ)) → begins_with (commented name) l ≡ false → answer_in l ≡ [] → Agrees name ls
    → Agrees name (l ∷ ls)
passed_over name l ls other nothing h =
    ap (λ b. cond b (l ∷ filter (begins_with (commented name)) ls) (filter (begins_with (commented name)) ls)) other ∙ h
    ∙ ap (λ answer. map commented (filter (begins_with name) (lines_of (answer ++ answers_in ls)))) (sym nothing)

kept_both : (b : Bool) (l : List ℕ) (xs ys : List (List ℕ)) → xs ≡ map commented ys
    → cond b (commented l ∷ xs) xs ≡ map commented (cond b (l ∷ ys) ys)
kept_both true l xs ys h = ap (λ zs. commented l ∷ zs) h
kept_both false l xs ys h = h

taken : (name rest : List ℕ) (ls : List (List ℕ)) → breaks rest ≡ 0 → Agrees name ls → Agrees name (commented rest ∷ ls)
taken name rest ls h agrees =
    kept_both (begins_with name rest) rest (filter (begins_with (commented name)) ls)
    (filter (begins_with name) (lines_of (answers_in ls))) agrees
    ∙ ap (λ lines. map commented (filter (begins_with name) lines)) (sym (first_line rest (answers_in ls) h))

hash_then : (name : List ℕ) (b : ℕ) (rest : List ℕ) (ls : List (List ℕ)) → breaks rest ≡ 0 → Agrees name ls
    → Agrees name ((35 ∷ b ∷ rest) ∷ ls)
hash_then name b rest ls h agrees = elim (cases_eq b 32) [
  | inl is ↦ subst (λ (x : ℕ). Agrees name ((35 ∷ x ∷ rest) ∷ ls)) (sym is) (taken name rest ls h agrees)
  | inr other ↦
      let begins = and_left (eqb 32 b) (begins_with name rest) (ne_eqb 32 b (λ e. other (sym e))) in
      let nothing : answer_in (35 ∷ b ∷ rest) ≡ [] = ap (λ t. cond t (rest ++ 10 ∷ []) []) (ne_eqb b 32 other) in
      passed_over name (35 ∷ b ∷ rest) ls begins nothing agrees
]

two_then : (name : List ℕ) (a b : ℕ) (rest : List ℕ) (ls : List (List ℕ)) → breaks rest ≡ 0 → Agrees name ls
    → Agrees name ((a ∷ b ∷ rest) ∷ ls)
two_then name a b rest ls h agrees = elim (cases_eq a 35) [
  | inl is ↦ subst (λ (x : ℕ). Agrees name ((x ∷ b ∷ rest) ∷ ls)) (sym is) (hash_then name b rest ls h agrees)
  | inr other ↦
      let begins = and_left (eqb 35 a) (eqb 32 b && begins_with name rest) (ne_eqb 35 a (λ e. other (sym e))) in
      let nothing : answer_in (a ∷ b ∷ rest) ≡ [] =
      ap (λ t. cond t (cond (eqb b 32) (rest ++ 10 ∷ []) []) []) (ne_eqb a 35 other) in
      passed_over name (a ∷ b ∷ rest) ls begins nothing agrees
]

agrees_all : (name : List ℕ) (ls : List (List ℕ)) → AreLines ls → Agrees name ls
agrees_all name [] h = ap (λ lines. map commented (filter (begins_with name) lines)) (sym lines_of-nil)
agrees_all name ([] ∷ ls) h = passed_over name [] ls refl refl (agrees_all name ls h.1)
agrees_all name ((a ∷ []) ∷ ls) h =
    passed_over name (a ∷ []) ls (and_right (eqb 35 a) false refl) refl (agrees_all name ls h.1)
agrees_all name ((a ∷ b ∷ rest) ∷ ls) h =
    let one = breaks-cons a (b ∷ rest) h.0 in
    let two = breaks-cons b rest one.1 in
    two_then name a b rest ls two.1 (agrees_all name ls h.1)

-- ---- what a simulation wrote

told_text : (read written : List ℕ) (result : Result (Unit {0}) PlayFault) → SimTells read written result → IsToEnd result
    → (played_of written).text ≡ answers_in (lines_of written)
told_text read written (Ok u) h end = ap (λ (p : Played). p.text) h.0
told_text read written (Err (Trace line fault)) h end = ap (λ (p : Played). p.text) h.0
told_text read written (Err Read) h end = absurd end
told_text read written (Err Write) h end = absurd end
told_text read written (Err NoMemory) h end = absurd end

pub comments_are_played : CommentsArePlayed
comments_are_played written owner h =
    agrees_all (owner_text owner) (lines_of written) (are_lines written)
    ∙ ap (λ text. map commented (lines_for owner text)) (sym (told_text h.0 written h.1 h.2 h.3))

pub nothing_is_simulated : NothingIsPrinted → NothingIsSimulated
nothing_is_simulated nothing written h none = sym (told_text h.0 written h.1 h.2 h.3) ∙ nothing written none

pub slot_is_simulated : SlotIsPrinted → SlotIsSimulated
slot_is_simulated printed written run slot x h is there =
    comments_are_played written (Subscriber slot) h ∙ ap (map commented) (printed written run slot x is there)

pub nobody_is_simulated : NobodyIsPrinted → NobodyIsSimulated
nobody_is_simulated printed written run slot h is gone low =
    comments_are_played written (Subscriber slot) h ∙ ap (map commented) (printed written run slot is gone low)

pub station_is_simulated : StationIsPrinted → StationIsSimulated
station_is_simulated printed written run e h is small =
    comments_are_played written (Station e) h ∙ ap (map commented) (printed written run e is small)

pub stranger_is_simulated : StrangerIsPrinted → StrangerIsSimulated
stranger_is_simulated printed written run e enb_ue_id h is small low =
    comments_are_played written (Stranger (stranger_id e enb_ue_id)) h
    ∙ ap (map commented) (printed written run e enb_ue_id is small low)
