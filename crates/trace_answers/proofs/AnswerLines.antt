-- Each answer is one line.
use Rattle.std.proofs.Common.{◌≡◌, ℕ, ◌+◌, ◌*◌, ◌^◌, ◌<◌, ◌≤◌, ◌==◌, ◌&&◌, ◌||◌, nat_lt, Bool, true, false, cond, List, [], ◌∷◌, ◌++◌, length, map, take, slice_index, codes, refl, arith, length-append, length-take-le}
use Rattle.std.specs.Fmt.{decimal}
use Rattle.std.proofs.lemmas.Fmt.{length-decimal-le}
use Rattle.std.proofs.lemmas.List.{length-map}
use Rattle.std.proofs.lemmas.Bool.{and_parts, eqb-true}
use Rattle.hex.specs.Hex.{lower_digits}
use Rattle.hex.proofs.HexLemmas.{length-encode_with}
use Rattle.nas_elements.specs.Digits.{is_imsi, are_digits, digits_of, imsi_text}
use Rattle.identity_slots.specs.Ids.{number_in, station_in}
use Rattle.esm_machine.specs.declared.bearer.BearerState.{BearerState}
use Rattle.esm_machine.specs.declared.bearer.BearerState.TheVariants.{Inactive, ActivePending, Active}
use Rattle.emm_machine.specs.declared.subscriber.EmmState.{EmmState}
use Rattle.emm_machine.specs.declared.subscriber.EmmState.TheVariants.{Deregistered, CommonProcedureInitiated, Registered, DeregisteredInitiated}
use Rattle.emm_machine.specs.declared.subscriber.EcmState.{EcmState}
use Rattle.emm_machine.specs.declared.subscriber.EcmState.TheVariants.{Idle, Connected}
use Rattle.emm_machine.specs.declared.subscriber.States.{States}
use Rattle.mme_answering.specs.declared.out.Owner.{Owner}
use Rattle.mme_answering.specs.declared.out.Owner.TheVariants.{Station, Stranger, Subscriber}
use Rattle.trace_words.specs.Trace.{◌␣◌, octets_text}
use Rattle.trace_words.specs.Lines.{is_unbroken}
use Rattle.trace_words.specs.WordLaws.{is_word, word_over, decimal_word, shown_word, word_unbroken, unbroken_append}
use Rattle.trace_answers.specs.declared.answer.Answer.TheVariants.{Sent, Refused, State}
use Rattle.trace_answers.specs.Words.{owner_text, emm_word, ecm_word, esm_word, sent_text, refused_text, states_text}
use Rattle.trace_answers.specs.Lines.{IsPartWithin, IsLineWithin, FitsOwner, AnswersAreLines}

joined : (m n : ℕ) (s t : List ℕ) → IsPartWithin m s → IsPartWithin n t → IsPartWithin (m + n) (s ++ t)
joined m n s t a b =
    record { unbroken = unbroken_append s t a.unbroken b.unbroken; short = omega (arith, length-append s t, a.short, b.short) }

within : (m n : ℕ) (t : List ℕ) → m ≤ n → IsPartWithin m t → IsPartWithin n t
within m n t h a = record { unbroken = a.unbroken; short = omega (arith, a.short) }

word_part : (m : ℕ) (w : List ℕ) → is_word w ≡ true → length w ≤ m → IsPartWithin m w
word_part m w h k = record { unbroken = word_unbroken w h; short = k }

spaced_part : (m n : ℕ) (t f : List ℕ) → IsPartWithin m t → IsPartWithin n f → IsPartWithin (m + (n + 1)) (t ␣ f)
spaced_part m n t f a b = joined m (n + 1) t (32 ∷ f) a (record { unbroken = b.unbroken; short = omega (arith, b.short) })

byte_part : (n : ℕ) → n < 2 ^ 8 → IsPartWithin 3 (decimal n)
byte_part n h =
    word_part 3 (decimal n) (decimal_word n (omega arith)) (length-decimal-le 3 n (omega arith) (omega arith) (omega arith))

number_part : (n : ℕ) → n < 2 ^ 32 → IsPartWithin 10 (decimal n)
number_part n h =
    word_part 10 (decimal n) (decimal_word n (omega arith)) (length-decimal-le 10 n (omega arith) (omega arith) (omega arith))

literal : (m : ℕ) (t : List ℕ) → is_unbroken t ≡ true → length t ≤ m → IsPartWithin m t
literal m t h k = record { unbroken = h; short = k }

-- ---- what is sent

pub station_part : (e : ℕ) → e < 2 ^ 8 → IsPartWithin 20 (owner_text (Station e))
station_part e h =
    within 9 20 (codes "out e" ++ decimal e ++ codes " ") (omega arith)
    (joined 8 1 (codes "out e" ++ decimal e) (codes " ") (joined 5 3 (codes "out e") (decimal e) (literal 5 (codes "out e") refl (omega arith)) (byte_part e h)) (literal 1 (codes " ") refl (omega arith)))

pub stranger_part : (id : ℕ) → station_in id < 2 ^ 8 → number_in id < 2 ^ 32 → IsPartWithin 20 (owner_text (Stranger id))
stranger_part id h k =
    let e = station_in id in
    let b = number_in id in
    joined 19 1 (codes "out x" ++ decimal e ++ codes "." ++ decimal b) (codes " ")
    (joined 9 10 (codes "out x" ++ decimal e ++ codes ".") (decimal b)
    (joined 8 1 (codes "out x" ++ decimal e) (codes ".") (joined 5 3 (codes "out x") (decimal e) (literal 5 (codes "out x") refl (omega arith)) (byte_part e h)) (literal 1 (codes ".") refl (omega arith)))
    (number_part b k))
    (literal 1 (codes " ") refl (omega arith))

pub subscriber_part : (slot : ℕ) → slot < 2 ^ 32 → IsPartWithin 20 (owner_text (Subscriber slot))
subscriber_part slot h =
    within 16 20 (codes "out s" ++ decimal slot ++ codes " ") (omega arith)
    (joined 15 1 (codes "out s" ++ decimal slot) (codes " ") (joined 5 10 (codes "out s") (decimal slot) (literal 5 (codes "out s") refl (omega arith)) (number_part slot h)) (literal 1 (codes " ") refl (omega arith)))

station_small : (id : ℕ) → id < 2 ^ 32 → station_in id < 2 ^ 8
station_small id h = omega arith

number_small : (id : ℕ) → number_in id < 2 ^ 32
number_small id = omega arith

owner_part : (owner : Owner) → FitsOwner owner → IsPartWithin 20 (owner_text owner)
owner_part (Station e) h = station_part e h
owner_part (Stranger id) h = stranger_part id (station_small id h) (number_small id)
owner_part (Subscriber slot) h = subscriber_part slot h

octets_short : (octets : List ℕ) → length (octets_text octets) ≤ 1 + 2 * length octets
octets_short [] = omega arith
octets_short (b ∷ bs) = omega (arith, length-encode_with lower_digits (b ∷ bs))

sent_part : (owner : Owner) (e : ℕ) (octets : List ℕ) → IsPartWithin 20 (owner_text owner) → e < 2 ^ 8
    → IsPartWithin (80 + 2 * length octets) (owner_text owner ++ (decimal e ++ codes " ") ++ octets_text octets)
sent_part owner e octets h k =
    within (24 + (1 + 2 * length octets)) (80 + 2 * length octets)
    (owner_text owner ++ (decimal e ++ codes " ") ++ octets_text octets) (omega arith)
    (joined 24 (1 + 2 * length octets) (owner_text owner ++ (decimal e ++ codes " ")) (octets_text octets)
    (joined 20 4 (owner_text owner) (decimal e ++ codes " ") h (joined 3 1 (decimal e) (codes " ") (byte_part e k) (literal 1 (codes " ") refl (omega arith))))
    (word_part (1 + 2 * length octets) (octets_text octets) (shown_word octets) (octets_short octets)))

pub sent_line : (owner : Owner) (e : ℕ) (octets : List ℕ) → IsPartWithin 20 (owner_text owner) → e < 2 ^ 8
    → IsLineWithin (80 + 2 * length octets) (sent_text owner e octets)
unfolding sent_text
sent_line owner e octets h k =
    let p = sent_part owner e octets h k in
    record { body = owner_text owner ++ (decimal e ++ codes " ") ++ octets_text octets; ends = refl; unbroken = p.unbroken; short = p.short }

-- ---- states

digits_mapped : (ds : List ℕ) → is_word (map (λ d. 48 + d) ds) ≡ true
digits_mapped [] = refl
digits_mapped (d ∷ ds) = word_over (48 + d) (map (λ x. 48 + x) ds) (omega arith) (digits_mapped ds)

imsi_length : (ds : List ℕ) → is_imsi ds ≡ true → length ds ≡ 15
unfolding is_imsi
imsi_length ds h =
    eqb-true (length ds) 15
    (and_parts (length ds == 15) (are_digits (take 14 ds) && (nat_lt (slice_index ds 14) 10 || slice_index ds 14 == 15)) h).0

digits_length : (ds : List ℕ) → length ds ≡ 15 → length (digits_of ds) ≤ 15
digits_length ds h = go (slice_index ds 14 == 15)
  where
    go : (b : Bool) → length (cond b (take 14 ds) ds) ≤ 15
    go true = omega (arith, length-take-le 14 ds (omega arith))
    go false = omega arith

imsi_short : (ds : List ℕ) → is_imsi ds ≡ true → length (imsi_text ds) ≤ 15
unfolding imsi_text
imsi_short ds h = let long = digits_length ds (imsi_length ds h) in omega (arith, long, length-map (digits_of ds) (λ d. 48 + d))

imsi_part : (ds : List ℕ) → length (imsi_text ds) ≤ 15 → IsPartWithin 15 (imsi_text ds)
unfolding imsi_text
imsi_part ds h = word_part 15 (map (λ d. 48 + d) (digits_of ds)) (digits_mapped (digits_of ds)) h

emm_part : (w : EmmState) → IsPartWithin 26 (emm_word w)
emm_part Deregistered = literal 26 (codes "DEREGISTERED") refl (omega arith)
emm_part CommonProcedureInitiated = literal 26 (codes "COMMON-PROCEDURE-INITIATED") refl (omega arith)
emm_part Registered = literal 26 (codes "REGISTERED") refl (omega arith)
emm_part DeregisteredInitiated = literal 26 (codes "DEREGISTERED-INITIATED") refl (omega arith)

ecm_part : (w : EcmState) → IsPartWithin 9 (ecm_word w)
ecm_part Idle = literal 9 (codes "IDLE") refl (omega arith)
ecm_part Connected = literal 9 (codes "CONNECTED") refl (omega arith)

esm_part : (w : BearerState) → IsPartWithin 14 (esm_word w)
esm_part Inactive = literal 14 (codes "INACTIVE") refl (omega arith)
esm_part ActivePending = literal 14 (codes "ACTIVE-PENDING") refl (omega arith)
esm_part Active = literal 14 (codes "ACTIVE") refl (omega arith)

state_part : (imsi : List ℕ) (s : States) → length (imsi_text imsi) ≤ 15
    → IsPartWithin 80 (codes "state" ␣ imsi_text imsi ␣ emm_word s.emm ␣ ecm_word s.ecm ␣ esm_word s.esm)
state_part imsi s h =
    within 73 80 (codes "state" ␣ imsi_text imsi ␣ emm_word s.emm ␣ ecm_word s.ecm ␣ esm_word s.esm) (omega arith)
    (spaced_part 58 14 (codes "state" ␣ imsi_text imsi ␣ emm_word s.emm ␣ ecm_word s.ecm) (esm_word s.esm)
    (spaced_part 48 9 (codes "state" ␣ imsi_text imsi ␣ emm_word s.emm) (ecm_word s.ecm)
    (spaced_part 21 26 (codes "state" ␣ imsi_text imsi) (emm_word s.emm)
    (spaced_part 5 15 (codes "state") (imsi_text imsi) (literal 5 (codes "state") refl (omega arith)) (imsi_part imsi h))
    (emm_part s.emm))
    (ecm_part s.ecm))
    (esm_part s.esm))

pub state_line : (imsi : List ℕ) (s : States) → length (imsi_text imsi) ≤ 15 → IsLineWithin 80 (states_text imsi s)
unfolding states_text
state_line imsi s h =
    let p = state_part imsi s h in
    record { body = codes "state" ␣ imsi_text imsi ␣ emm_word s.emm ␣ ecm_word s.ecm ␣ esm_word s.esm; ends = refl; unbroken = p.unbroken; short = p.short }

-- ---- refusals

refused_part : (k : ℕ) → k < 2 ^ 8 → IsPartWithin 80 (codes "refused " ++ decimal k)
refused_part k h =
    within 11 80 (codes "refused " ++ decimal k) (omega arith)
    (joined 8 3 (codes "refused ") (decimal k) (literal 8 (codes "refused ") refl (omega arith)) (byte_part k h))

pub refused_line : (k : ℕ) → k < 2 ^ 8 → IsLineWithin 80 (refused_text k)
unfolding refused_text
refused_line k h =
    let p = refused_part k h in record { body = codes "refused " ++ decimal k; ends = refl; unbroken = p.unbroken; short = p.short }

pub answers_are_lines : AnswersAreLines
answers_are_lines (Sent owner e octets) h = sent_line owner e octets.now (owner_part owner h.0) h.1
answers_are_lines (Refused k) h = refused_line k h
answers_are_lines (State imsi states) h = state_line imsi states (imsi_short imsi h)
