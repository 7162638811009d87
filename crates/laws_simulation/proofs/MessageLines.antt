-- The lines of messages: those of an owner are those of what it is told.
use Rattle.std.proofs.Common.{◌≡◌, ℕ, Bool, true, false, cond, List, [], ◌∷◌, ◌++◌, codes, map, filter, Result, Ok, Err, refl, ap, ◌∙◌, append_assoc}
use Rattle.std.specs.Fmt.{decimal}
use Rattle.emm_machine.specs.declared.subscriber.States.{States}
use Rattle.mme_answering.specs.declared.out.Out.{Out}
use Rattle.mme_answering.specs.declared.out.Owner.{Owner}
use Rattle.mme_answering.specs.declared.out.Owner.TheVariants.{Station, Stranger, Subscriber}
use Rattle.mme_core.specs.declared.event.StepFault.{StepFault}
use Rattle.mme_core.specs.Projection.{Told, owned_by, told_in, told_of}
use Rattle.trace_words.specs.Trace.{octets_text}
use Rattle.trace_answers.specs.Words.{answers_of, out_text, owner_text, refused_text, states_text}
use Rattle.trace_progress.specs.Replies.{refusal_number, reply_text}
use Rattle.laws_simulation.specs.Printed.{begins_with, lines_for, told_line}
use Rattle.laws_simulation.proofs.Lines.{IsWhole, lines_for-append, lines_for-line, lines_for-nil, refused_line, refused_unbroken, sent_line, state_line, states_line, states_unbroken, told_unbroken, whole_both, whole_line, whole_nil}
use Rattle.laws_simulation.proofs.Names.{Agree, is_of, same_owner}

whole_is : (text body : List ℕ) → text ≡ body → IsWhole body → IsWhole text
whole_is text body is h = rw is h

-- ---- one message

told_begins : (o p : Owner) (m : Told) → Agree o p → begins_with (owner_text o) (told_line p m) ≡ is_of o p
told_begins o p m h =
    ap (begins_with (owner_text o)) (append_assoc (owner_text p) (decimal m.station ++ codes " ") (octets_text m.octets))
    ∙ h ((decimal m.station ++ codes " ") ++ octets_text m.octets)

named : (o : Owner) (x : Out) (b : Bool) → (b ≡ true → x.owner ≡ o)
    → cond b (told_line x.owner (told_of x) ∷ []) [] ≡ map (told_line o) (map told_of (cond b (x ∷ []) []))
named o x true same = ap (λ (p : Owner). told_line p (told_of x) ∷ []) (same refl)
named o x false same = refl

message_for : (o : Owner) (x : Out) → Agree o x.owner
    → lines_for o (out_text x) ≡ map (told_line o) (owned_by (is_of o) (x ∷ []))
message_for o x h =
    let body = told_line x.owner (told_of x) in
    ap (lines_for o) (sent_line x.owner (told_of x)) ∙ lines_for-line o body (told_unbroken x.owner (told_of x))
    ∙ ap (λ (b : Bool). cond b (body ∷ []) []) (told_begins o x.owner (told_of x) h)
    ∙ named o x (is_of o x.owner) (same_owner o x.owner)

message_whole : (x : Out) → IsWhole (out_text x)
message_whole x =
    whole_is (out_text x) _ (sent_line x.owner (told_of x)) (whole_line (told_line x.owner (told_of x)) (told_unbroken x.owner (told_of x)))

-- ---- the messages of an event

abbrev pub AllAgree : Owner → List Out → Type 0
AllAgree o [] = Unit {0}
AllAgree o (x ∷ xs) = Agree o x.owner × AllAgree o xs

pub all_agree : (o : Owner) (xs ys : List Out) → AllAgree o xs → AllAgree o ys → AllAgree o (xs ++ ys)
all_agree o [] ys h k = k
all_agree o (x ∷ xs) ys h k = (h.0, all_agree o xs ys h.1 k)

owned-cons : (line : Told → List ℕ) (x : Out) (xs : List Out) (b : Bool)
    → map line (map told_of (cond b (x ∷ []) [])) ++ map line (map told_of xs) ≡ map line (map told_of (cond b (x ∷ xs) xs))
owned-cons line x xs true = refl
owned-cons line x xs false = refl

pub answers_for : (o : Owner) (outs : List Out) → AllAgree o outs
    → lines_for o (answers_of outs) ≡ map (told_line o) (owned_by (is_of o) outs)
answers_for o [] h = lines_for-nil o
answers_for o (x ∷ xs) h =
    lines_for-append o (out_text x) (answers_of xs) (message_whole x)
    ∙ ap (λ ls. ls ++ lines_for o (answers_of xs)) (message_for o x h.0)
    ∙ ap (λ ls. map (told_line o) (owned_by (is_of o) (x ∷ [])) ++ ls) (answers_for o xs h.1)
    ∙ owned-cons (told_line o) x (filter (λ (y : Out). is_of o y.owner) xs) (is_of o x.owner)

answers_whole : (outs : List Out) → IsWhole (answers_of outs)
answers_whole [] = whole_nil
answers_whole (x ∷ xs) = whole_both (out_text x) (answers_of xs) (message_whole x) (answers_whole xs)

-- ---- a reply

abbrev pub ReplyAgrees : Owner → Result (List Out) StepFault → Type 0
ReplyAgrees o (Ok outs) = AllAgree o outs
ReplyAgrees o (Err fault) = Unit {0}

-- no owner's name begins a refusal
refused_named : (o : Owner) (k : ℕ) → begins_with (owner_text o) (codes "refused " ++ decimal k) ≡ false
refused_named (Station e) k = refl
refused_named (Stranger id) k = refl
refused_named (Subscriber slot) k = refl

refused_for : (o : Owner) (k : ℕ) → lines_for o (refused_text k) ≡ []
refused_for o k =
    ap (lines_for o) (refused_line k) ∙ lines_for-line o (codes "refused " ++ decimal k) (refused_unbroken k)
    ∙ ap (λ (b : Bool). cond b ((codes "refused " ++ decimal k) ∷ []) []) (refused_named o k)

pub reply_for : (o : Owner) (r : Result (List Out) StepFault) → ReplyAgrees o r
    → lines_for o (reply_text r) ≡ map (told_line o) (told_in (is_of o) r)
reply_for o (Ok outs) h = answers_for o outs h
reply_for o (Err fault) h = refused_for o (refusal_number fault)

pub reply_whole : (r : Result (List Out) StepFault) → IsWhole (reply_text r)
reply_whole (Ok outs) = answers_whole outs
reply_whole (Err fault) =
    whole_is (refused_text (refusal_number fault)) _ (refused_line (refusal_number fault))
    (whole_line (codes "refused " ++ decimal (refusal_number fault)) (refused_unbroken (refusal_number fault)))

-- ---- states

states_named : (o : Owner) (imsi : List ℕ) (s : States) → begins_with (owner_text o) (state_line imsi s) ≡ false
states_named (Station e) imsi s = refl
states_named (Stranger id) imsi s = refl
states_named (Subscriber slot) imsi s = refl

pub states_for : (o : Owner) (imsi : List ℕ) (s : States) → lines_for o (states_text imsi s) ≡ []
states_for o imsi s =
    ap (lines_for o) (states_line imsi s) ∙ lines_for-line o (state_line imsi s) (states_unbroken imsi s)
    ∙ ap (λ (b : Bool). cond b (state_line imsi s ∷ []) []) (states_named o imsi s)

pub states_whole : (imsi : List ℕ) (s : States) → IsWhole (states_text imsi s)
states_whole imsi s =
    whole_is (states_text imsi s) _ (states_line imsi s) (whole_line (state_line imsi s) (states_unbroken imsi s))
