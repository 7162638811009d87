-- KeNB is of the message that is answered.
use Rattle.std.proofs.Common.{◌≡◌, ◌⊎◌, ℕ, false, List, [], ◌∷◌, All, Option, Some, None, Ok, refl, sym, ◌∙◌, ap, subst, le_refl}
use Rattle.std.proofs.lemmas.List.Elements.{All-append, All-cons, All-nil, All-weaker}
use Rattle.std.proofs.lemmas.Result.{IfOk-at_ok}
use Rattle.s1ap_pdus.specs.declared.pdu.Pdu.{Pdu}
use Rattle.s1ap_pdus.specs.declared.pdu.Pdu.TheVariants as pdu
use Rattle.s1ap_pdus.specs.Pdus.{decoded, encoded}
use Rattle.mme_types.specs.declared.octets.Answer.{Answer}
use Rattle.mme_types.specs.Answers.{answer_of}
use Rattle.mme_types.specs.Events.{Item}
use Rattle.emm_state.specs.declared.draft.Draft.{Draft}
use Rattle.emm_state.specs.declared.setting.Setting.{Setting}
use Rattle.emm_state.specs.declared.solo.Solo.{Solo}
use Rattle.emm_machine.specs.Steps.{solo_after, solo_step}
use Rattle.emm_machine.specs.Words.{fresh_solo}
use Rattle.laws_subscriber.specs.Keys.{has_radio_key}
use Rattle.laws_mme.specs.Handed.{RadioKey}
use Rattle.laws_mme.specs.KeysOfMessage.{IsKept, IsOfAccepted, KenbsAreOfTheirMessages, kenb_in}
use Rattle.laws_mme.proofs.KeyOrder.{after, first_of, place_up}
use Rattle.laws_mme.proofs.Holding.{IsHeld}
use Rattle.laws_mme.proofs.KeyActions.{Gives, IsDone, IsGiven, IsKeyless, Silent}
use Rattle.laws_mme.proofs.KeyRows.{ShortIsFresh, WholeIsFresh, done_step}
use Rattle.laws_mme.proofs.KeyRuns.{WhatIsEncoded}

keyless_kenb : (m : Pdu (List ℕ)) (key : List ℕ) → has_radio_key m ≡ false → kenb_in m ≡ Some key → ⊥
keyless_kenb (pdu.InitialContextSetupRequest m) key keyless is = cc keyless
keyless_kenb _ key keyless is = cc is

module _ (what : WhatIsEncoded) (s : Setting) (b : Solo) where
  abbrev pub IsOfMessage : Draft → Answer → Type 0
  IsOfMessage d a =
      (m : Pdu (List ℕ)) (key : List ℕ) → decoded a.octets ≡ Ok m → kenb_in m ≡ Some key
      → IsOfAccepted s.vectors d.accepted key ⊎ IsKept b key

  same_message : (m n : Pdu (List ℕ)) (os : List ℕ) → encoded m ≡ Some os → decoded os ≡ Ok n → m ≡ n
  same_message m n os is reads = IfOk-at_ok (λ (x : Pdu (List ℕ)). m ≡ x) (sym (what m os is) ∙ reads) refl

  keyless_of : (d : Draft) (a : Answer) → IsKeyless a → IsOfMessage d a
  keyless_of d a h m key reads is =
      absurd (keyless_kenb h.message key h.keyless (ap kenb_in (same_message h.message m a.octets h.written reads) ∙ is))

  last_of : {k : RadioKey} (d : Draft) (g : IsGiven s b k d) (o : Option (List ℕ)) → encoded g.message ≡ o
      → All (IsOfMessage d) (answer_of g.connection.station g.under o)
  last_of d g None is = All-nil (IsOfMessage d)
  last_of d g (Some octets) is =
      All-cons (IsOfMessage d) _ []
      (λ m key reads has. g.source key (ap kenb_in (same_message g.message m octets is reads) ∙ has))
      (All-nil (IsOfMessage d))

  sent_of : {f : RadioKey} (d : Draft) → IsDone s f b d → All (IsOfMessage d) d.sent
  sent_of d (Silent q) = All-weaker IsKeyless (IsOfMessage d) (keyless_of d) d.sent q.keyless
  sent_of d (Gives k up g) =
      subst (All (IsOfMessage d)) (sym g.sent)
      (All-append (IsOfMessage d) g.earlier (answer_of g.connection.station g.under (encoded g.message))
      (All-weaker IsKeyless (IsOfMessage d) (keyless_of d) g.earlier g.keyless)
      (last_of d g (encoded g.message) refl))

-- what is held of a state after a step, and after a list of items
held_by : {s : Setting} {f : RadioKey} {b : Solo} (d : Draft) → IsDone s f b d → (g : RadioKey) × IsHeld s g d.solo
held_by {f = f} d (Silent q) = (f, record { vector = q.vector; held = q.held })
held_by d (Gives k up g) = (after k, g.state)

held_after : WholeIsFresh → ShortIsFresh → (s : Setting) (f : RadioKey) (solo : Solo) (items : List Item) → IsHeld s f solo
    → (g : RadioKey) × IsHeld s g (solo_after s solo items)
held_after whole short s f solo [] h = (f, h)
held_after whole short s f solo (item ∷ items) h =
    let next = held_by (solo_step s solo item) (done_step whole short solo item h) in
    held_after whole short s next.0 (solo_step s solo item).solo items next.1

pub kenbs_are_of_their_messages : WholeIsFresh → ShortIsFresh → WhatIsEncoded → KenbsAreOfTheirMessages
kenbs_are_of_their_messages whole short what s items item =
    let solo = solo_after s fresh_solo items in
    let held = held_after whole short s (first_of 0) fresh_solo items (record { vector = tt; held = place_up 0 0 (le_refl 0) }) in
    sent_of what s solo (solo_step s solo item) (done_step whole short solo item held.1)
