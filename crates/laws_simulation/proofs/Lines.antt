-- Texts of whole lines: their lines stand before those of what follows.
use Rattle.std.proofs.Common.{◌≡◌, ℕ, zero, suc, ◌+◌, ◌/◌, ◌%◌, ◌≤◌, ◌==◌, nat_lt, Bool, true, false, cond, List, [], ◌∷◌, ◌++◌, map, codes, filter, refl, sym, ap, ◌∙◌, append_assoc, arith}
use Rattle.std.specs.Fmt.{decimal, digits, digits_onto, digit_glyph}
use Rattle.std.proofs.lemmas.List.Elements.{filter-append}
use Rattle.nas_elements.specs.Digits.{digits_of, imsi_text}
use Rattle.esm_machine.specs.declared.bearer.BearerState.{BearerState}
use Rattle.esm_machine.specs.declared.bearer.BearerState.TheVariants.{Inactive, ActivePending, Active}
use Rattle.emm_machine.specs.declared.subscriber.EmmState.{EmmState}
use Rattle.emm_machine.specs.declared.subscriber.EmmState.TheVariants.{Deregistered, CommonProcedureInitiated, Registered, DeregisteredInitiated}
use Rattle.emm_machine.specs.declared.subscriber.EcmState.{EcmState}
use Rattle.emm_machine.specs.declared.subscriber.EcmState.TheVariants.{Idle, Connected}
use Rattle.emm_machine.specs.declared.subscriber.States.{States}
use Rattle.mme_answering.specs.declared.out.Owner.{Owner}
use Rattle.mme_answering.specs.declared.out.Owner.TheVariants.{Station, Stranger, Subscriber}
use Rattle.mme_core.specs.Projection.{Told}
use Rattle.identity_slots.specs.Ids.{number_in, station_in}
use Rattle.trace_words.specs.Lines.{is_unbroken}
use Rattle.trace_words.specs.Trace.{◌␣◌, octets_text}
use Rattle.trace_words.specs.WordLaws.{is_word, word_over, word_unbroken, shown_word, unbroken_append}
use Rattle.trace_answers.specs.Words.{ecm_word, emm_word, esm_word, owner_text, refused_text, sent_text, states_text}
use Rattle.trace_progress.specs.Text.{breaks, lines_of}
use Rattle.trace_progress.specs.TextLaws.{lines_of-at, lines_of-nil}
use Rattle.laws_simulation.specs.Printed.{begins_with, lines_for, told_line}

-- ---- whole lines

abbrev pub IsWhole : List ℕ → Type 0
IsWhole text = (more : List ℕ) → lines_of (text ++ more) ≡ lines_of text ++ lines_of more

pub whole_nil : IsWhole []
whole_nil more = sym (ap (λ ls. ls ++ lines_of more) lines_of-nil)

pub whole_both : (a b : List ℕ) → IsWhole a → IsWhole b → IsWhole (a ++ b)
whole_both a b h k more =
    ap lines_of (append_assoc a b more) ∙ h (b ++ more) ∙ ap (λ ls. lines_of a ++ ls) (k more)
    ∙ sym (append_assoc (lines_of a) (lines_of b) (lines_of more)) ∙ ap (λ ls. ls ++ lines_of more) (sym (h b))

no_breaks : (b w : Bool) (n : ℕ) → cond b false w ≡ true → (w ≡ true → n ≡ 0) → cond b (1 + n) n ≡ 0
no_breaks true w n h k = absurd (cc h)
no_breaks false w n h k = k h

unbroken_breaks : (body : List ℕ) → is_unbroken body ≡ true → breaks body ≡ 0
unbroken_breaks [] h = refl
unbroken_breaks (c ∷ cs) h = no_breaks (c == 10) (is_unbroken cs) (breaks cs) h (unbroken_breaks cs)

-- a line and its LF
pub one_line : (body : List ℕ) → is_unbroken body ≡ true → lines_of (body ++ 10 ∷ []) ≡ body ∷ []
one_line body h = lines_of-at body [] (unbroken_breaks body h) ∙ ap (λ ls. body ∷ ls) lines_of-nil

pub whole_line : (body : List ℕ) → is_unbroken body ≡ true → IsWhole (body ++ 10 ∷ [])
whole_line body h more =
    ap lines_of (append_assoc body (10 ∷ []) more) ∙ lines_of-at body more (unbroken_breaks body h)
    ∙ sym (ap (λ ls. ls ++ lines_of more) (one_line body h))

-- ---- those of an owner

pub lines_for-nil : (o : Owner) → lines_for o [] ≡ []
lines_for-nil o = ap (filter (begins_with (owner_text o))) lines_of-nil

pub lines_for-append : (o : Owner) (a b : List ℕ) → IsWhole a → lines_for o (a ++ b) ≡ lines_for o a ++ lines_for o b
lines_for-append o a b h =
    ap (filter (begins_with (owner_text o))) (h b) ∙ filter-append (begins_with (owner_text o)) (lines_of a) (lines_of b)

pub lines_for-line : (o : Owner) (body : List ℕ) → is_unbroken body ≡ true
    → lines_for o (body ++ 10 ∷ []) ≡ cond (begins_with (owner_text o) body) (body ∷ []) []
lines_for-line o body h = ap (filter (begins_with (owner_text o))) (one_line body h)

-- ---- numbers are digits

-- each is 0 or above it in ASCII: neither space, LF nor full stop
abbrev pub AreDigits : List ℕ → Type 0
AreDigits [] = Unit {0}
AreDigits (c ∷ cs) = (48 ≤ c) × AreDigits cs

glyph_over : (d : ℕ) → 48 ≤ digit_glyph false d
glyph_over d = go (nat_lt d 10)
  where
    go : (b : Bool) → 48 ≤ cond b (48 + d) (87 + d)
    go true = omega arith
    go false = omega arith

digits_either : (b : Bool) (xs ys : List ℕ) → AreDigits xs → AreDigits ys → AreDigits (cond b xs ys)
digits_either true xs ys h k = h
digits_either false xs ys h k = k

digits_before : (k n : ℕ) (acc : List ℕ) → AreDigits acc → AreDigits (digits_onto k 10 false n acc)
digits_before zero n acc h = h
digits_before (suc k) n acc h =
    let more : AreDigits (digit_glyph false (n % 10) ∷ acc) = (glyph_over (n % 10), h) in
    digits_either (n / 10 == 0) _ _ more (digits_before k (n / 10) (digit_glyph false (n % 10) ∷ acc) more)

pub decimal_digits : (n : ℕ) → AreDigits (decimal n)
unfolding digits
decimal_digits n = digits_before 64 n [] tt

digits_word : (ds : List ℕ) → AreDigits ds → is_word ds ≡ true
digits_word [] h = refl
digits_word (d ∷ ds) h = let over = h.0 in word_over d ds (omega (arith, over)) (digits_word ds h.1)

digits_unbroken : (n : ℕ) → is_unbroken (decimal n) ≡ true
digits_unbroken n = word_unbroken (decimal n) (digits_word (decimal n) (decimal_digits n))

-- ---- a message

owner_unbroken : (o : Owner) → is_unbroken (owner_text o) ≡ true
owner_unbroken (Station e) =
    unbroken_append (codes "out e" ++ decimal e) (codes " ")
    (unbroken_append (codes "out e") (decimal e) refl (digits_unbroken e)) refl
owner_unbroken (Stranger id) =
    unbroken_append (codes "out x" ++ decimal (station_in id) ++ codes "." ++ decimal (number_in id)) (codes " ")
    (unbroken_append (codes "out x" ++ decimal (station_in id) ++ codes ".") (decimal (number_in id))
    (unbroken_append (codes "out x" ++ decimal (station_in id)) (codes ".")
    (unbroken_append (codes "out x") (decimal (station_in id)) refl (digits_unbroken (station_in id))) refl)
    (digits_unbroken (number_in id))) refl
owner_unbroken (Subscriber slot) =
    unbroken_append (codes "out s" ++ decimal slot) (codes " ")
    (unbroken_append (codes "out s") (decimal slot) refl (digits_unbroken slot)) refl

pub told_unbroken : (o : Owner) (m : Told) → is_unbroken (told_line o m) ≡ true
told_unbroken o m =
    unbroken_append (owner_text o ++ (decimal m.station ++ codes " ")) (octets_text m.octets)
    (unbroken_append (owner_text o) (decimal m.station ++ codes " ") (owner_unbroken o) (unbroken_append (decimal m.station) (codes " ") (digits_unbroken m.station) refl))
    (word_unbroken (octets_text m.octets) (shown_word m.octets))

-- the line of a message, and its LF
pub sent_line : (o : Owner) (m : Told) → sent_text o m.station m.octets ≡ told_line o m ++ 10 ∷ []
unfolding sent_text
sent_line o m = refl

-- ---- refusals

pub refused_line : (k : ℕ) → refused_text k ≡ (codes "refused " ++ decimal k) ++ 10 ∷ []
unfolding refused_text
refused_line k = refl

pub refused_unbroken : (k : ℕ) → is_unbroken (codes "refused " ++ decimal k) ≡ true
refused_unbroken k = unbroken_append (codes "refused ") (decimal k) refl (digits_unbroken k)

-- ---- states

shown_digits : (ds : List ℕ) → is_word (map (λ d. 48 + d) ds) ≡ true
shown_digits [] = refl
shown_digits (d ∷ ds) = word_over (48 + d) (map (λ x. 48 + x) ds) (omega arith) (shown_digits ds)

imsi_unbroken : (imsi : List ℕ) → is_unbroken (imsi_text imsi) ≡ true
unfolding imsi_text
imsi_unbroken imsi = word_unbroken (map (λ d. 48 + d) (digits_of imsi)) (shown_digits (digits_of imsi))

emm_unbroken : (w : EmmState) → is_unbroken (emm_word w) ≡ true
emm_unbroken Deregistered = refl
emm_unbroken CommonProcedureInitiated = refl
emm_unbroken Registered = refl
emm_unbroken DeregisteredInitiated = refl

ecm_unbroken : (w : EcmState) → is_unbroken (ecm_word w) ≡ true
ecm_unbroken Idle = refl
ecm_unbroken Connected = refl

esm_unbroken : (w : BearerState) → is_unbroken (esm_word w) ≡ true
esm_unbroken Inactive = refl
esm_unbroken ActivePending = refl
esm_unbroken Active = refl

spaced : (t f : List ℕ) → is_unbroken t ≡ true → is_unbroken f ≡ true → is_unbroken (t ␣ f) ≡ true
spaced t f h k = unbroken_append t (32 ∷ f) h k

abbrev pub state_line : List ℕ → States → List ℕ
state_line imsi s = codes "state" ␣ imsi_text imsi ␣ emm_word s.emm ␣ ecm_word s.ecm ␣ esm_word s.esm

pub states_line : (imsi : List ℕ) (s : States) → states_text imsi s ≡ state_line imsi s ++ 10 ∷ []
unfolding states_text
states_line imsi s = refl

pub states_unbroken : (imsi : List ℕ) (s : States) → is_unbroken (state_line imsi s) ≡ true
states_unbroken imsi s =
    spaced (codes "state" ␣ imsi_text imsi ␣ emm_word s.emm ␣ ecm_word s.ecm) (esm_word s.esm)
    (spaced (codes "state" ␣ imsi_text imsi ␣ emm_word s.emm) (ecm_word s.ecm)
    (spaced (codes "state" ␣ imsi_text imsi) (emm_word s.emm)
    (spaced (codes "state") (imsi_text imsi) refl (imsi_unbroken imsi))
    (emm_unbroken s.emm))
    (ecm_unbroken s.ecm))
    (esm_unbroken s.esm)
