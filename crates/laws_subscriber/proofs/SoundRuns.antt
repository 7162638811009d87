-- Runs of steps: states stay sound, and all that is sent is under its mark; and each radio key goes to the proved.
use Rattle.std.proofs.Common.{◌≡◌, ℕ, true, List, [], ◌∷◌, All, flat_map, Some, Result, Ok, Err, sym, subst, ap, ◌∙◌, ◌++◌, Option, None, option_to_list}
use Rattle.std.specs.List.{AllZip}
use Rattle.std.proofs.lemmas.List.Elements.{All-append, All-head, All-nil, All-tail, All-weaker}
use Rattle.identity_slots.specs.declared.profile.Vector.{Vector}
use Rattle.s1ap_pdus.specs.declared.pdu.Pdu.{Pdu}
use Rattle.s1ap_pdus.specs.Pdus.{decoded, encoded}
use Rattle.emm_state.specs.declared.setting.Setting.{Setting}
use Rattle.mme_types.specs.declared.octets.Mark.{Mark}
use Rattle.mme_types.specs.Events.{Item}
use Rattle.mme_types.specs.declared.octets.Answer.{Answer}
use Rattle.emm_state.specs.declared.solo.Solo.{Solo}
use Rattle.emm_machine.specs.Freshness.{marks_of, sent_marks}
use Rattle.emm_machine.specs.Steps.{solo_answers, solo_step}
use Rattle.laws_subscriber.specs.Keys.{GoesToTheProved, KeysToTheProved, has_radio_key}
use Rattle.laws_subscriber.specs.Marked.{AreFormsUnder, IsFormUnder, IsMarked, SendsInOrder, SendsMarked, protected_among, protected_in, protected_within}
use Rattle.laws_subscriber.specs.Sound.{IsSound, StaysSound}
use Rattle.laws_subscriber.proofs.Saying.{IsSaid, Proved}
use Rattle.laws_subscriber.proofs.SoundRows.{WholeIsFresh, done_step}

pub stays_sound : WholeIsFresh → StaysSound
stays_sound whole s solo [] h = h
stays_sound whole s solo (item ∷ items) h =
    stays_sound whole s (solo_step s solo item).solo items (done_step whole s solo item h).sound

-- what s1ap_pdus' law says of what is written
abbrev pub WhatIsEncoded : Type 0
WhatIsEncoded = (m : Pdu (List ℕ)) (os : List ℕ) → encoded m ≡ Some os → decoded os ≡ Ok m

step_marked : WholeIsFresh → WhatIsEncoded → (s : Setting) (solo : Solo) (item : Item) → IsSound s solo
    → All (IsMarked s.vectors) (solo_step s solo item).sent
step_marked whole what s solo item h =
    let d = solo_step s solo item in
    All-weaker (IsSaid s.vectors (Proved d.solo)) (IsMarked s.vectors)
    (λ a i. (i.message, what i.message a.octets i.written, i.under)) d.sent (done_step whole s solo item h).said

pub sends_marked : WholeIsFresh → WhatIsEncoded → SendsMarked
sends_marked whole what s solo [] h = All-nil (IsMarked s.vectors)
sends_marked whole what s solo (item ∷ items) h =
    let d = solo_step s solo item in
    All-append (IsMarked s.vectors) d.sent (flat_map (λ (sent : List Answer). sent) (solo_answers s d.solo items))
    (step_marked whole what s solo item h)
    (sends_marked whole what s d.solo items (done_step whole s solo item h).sound)

-- ---- in order

zip_append : {A B : Type 0} (R : A → B → Type 0) (xs us : List A) (ys vs : List B) → AllZip R xs ys → AllZip R us vs
    → AllZip R (xs ++ us) (ys ++ vs)
zip_append R [] us [] vs h g = g
zip_append R [] us (y ∷ ys) vs h g = absurd h
zip_append R (x ∷ xs) us [] vs h g = absurd h
zip_append R (x ∷ xs) us (y ∷ ys) vs h g = (h.0, zip_append R xs us ys vs h.1 g)

zip_under : (vectors : List Vector) (o : Option Mark) (forms : List (List ℕ)) → AreFormsUnder vectors o forms
    → AllZip (IsFormUnder vectors) (option_to_list o) forms
zip_under vectors None forms h = subst (AllZip (IsFormUnder vectors) []) (sym h) tt
zip_under vectors (Some mark) forms h = subst (AllZip (IsFormUnder vectors) (mark ∷ [])) (sym h.1) (h.2, tt)

zip_marked : (vectors : List Vector) (a : Answer) → IsMarked vectors a
    → AllZip (IsFormUnder vectors) (option_to_list a.under) (protected_in (decoded a.octets))
zip_marked vectors a h =
    subst (AllZip (IsFormUnder vectors) (option_to_list a.under)) (sym (ap protected_in h.1))
    (zip_under vectors a.under (protected_within h.0) h.2)

zip_answers : (vectors : List Vector) (answers : List Answer) → All (IsMarked vectors) answers
    → AllZip (IsFormUnder vectors) (marks_of answers) (protected_among answers)
zip_answers vectors [] h = tt
zip_answers vectors (a ∷ answers) h =
    zip_append (IsFormUnder vectors) (option_to_list a.under) (marks_of answers) (protected_in (decoded a.octets))
    (protected_among answers)
    (zip_marked vectors a (All-head (IsMarked vectors) a answers h)) (zip_answers vectors answers (All-tail (IsMarked vectors) a answers h))

pub sends_in_order : WholeIsFresh → WhatIsEncoded → SendsInOrder
sends_in_order whole what s solo [] h = tt
sends_in_order whole what s solo (item ∷ items) h =
    let d = solo_step s solo item in
    zip_append (IsFormUnder s.vectors) (marks_of d.sent) (sent_marks s d.solo items) (protected_among d.sent)
    (flat_map protected_among (solo_answers s d.solo items))
    (zip_answers s.vectors d.sent (step_marked whole what s solo item h)) (sends_in_order whole what s d.solo items (done_step whole s solo item h).sound)

-- ---- radio keys

value_or : {A E : Type 0} → A → Result A E → A
value_or x (Ok y) = y
value_or x (Err e) = x

same_ok : {A E : Type 0} (x y : A) → ◌≡◌ {A = Result A E} (Ok x) (Ok y) → x ≡ y
unfolding value_or
same_ok x y e = ap (value_or x) e

goes : (what : WhatIsEncoded) (vectors : List Vector) (solo : Solo) (a : Answer) → IsSaid vectors (Proved solo) a
    → (m : Pdu (List ℕ)) → decoded a.octets ≡ Ok m
    → has_radio_key m ≡ true → GoesToTheProved solo a m
goes what vectors solo a i m is key =
    let same = same_ok m i.message (sym is ∙ what i.message a.octets i.written) in
    subst (GoesToTheProved solo a) (sym same) (i.key (subst (λ (n : Pdu (List ℕ)). has_radio_key n ≡ true) same key))

pub keys_go_to_the_proved : WholeIsFresh → WhatIsEncoded → KeysToTheProved
keys_go_to_the_proved whole what s solo item h =
    let d = solo_step s solo item in
    let f = done_step whole s solo item h in
    All-weaker (IsSaid s.vectors (Proved d.solo))
    (λ a. (m : Pdu (List ℕ)) → decoded a.octets ≡ Ok m → has_radio_key m ≡ true → GoesToTheProved d.solo a m)
    (λ a i. goes what s.vectors d.solo a i) d.sent f.said
