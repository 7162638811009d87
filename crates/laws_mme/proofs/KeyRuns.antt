-- Over a run the keys that are handed out rise.
use Rattle.std.proofs.Common.{◌≡◌, ℕ, Bool, true, false, cond, List, [], ◌∷◌, ◌++◌, All, Option, Some, None, Ok, refl, sym, ◌∙◌, ap, subst, le_refl}
use Rattle.std.specs.List.{AllZip}
use Rattle.std.proofs.lemmas.Grind.{flat_map-append}
use Rattle.std.proofs.lemmas.List.Elements.{All-head, All-tail}
use Rattle.s1ap_pdus.specs.declared.pdu.Pdu.{Pdu}
use Rattle.s1ap_pdus.specs.Pdus.{decoded, encoded}
use Rattle.mme_types.specs.declared.connection.Connection.{Connection}
use Rattle.mme_types.specs.declared.octets.Answer.{Answer}
use Rattle.mme_types.specs.Answers.{answer_of}
use Rattle.mme_types.specs.Events.{Item}
use Rattle.emm_state.specs.declared.draft.Draft.{Draft}
use Rattle.emm_state.specs.declared.setting.Setting.{Setting}
use Rattle.emm_state.specs.declared.solo.Solo.{Solo}
use Rattle.emm_machine.specs.Steps.{solo_step}
use Rattle.emm_machine.specs.Words.{fresh_solo}
use Rattle.laws_subscriber.specs.Keys.{has_radio_key}
use Rattle.laws_mme.specs.Handed.{Handing, IsHandedAs, KeysAreFresh, RadioKey, handed_along, handed_by, handed_in, handed_of}
use Rattle.laws_mme.proofs.KeyOrder.{IsRow, IsUpTo, after, first_of, later, place_up, row_lower, row_rises, up_to_trans}
use Rattle.laws_mme.proofs.Holding.{IsHeld}
use Rattle.laws_mme.proofs.KeyActions.{Gives, IsDone, IsGiven, IsKeyless, Silent}
use Rattle.laws_mme.proofs.KeyRows.{ShortIsFresh, WholeIsFresh, done_step}

-- what s1ap_pdus' law says of what is written
abbrev pub WhatIsEncoded : Type 0
WhatIsEncoded = (m : Pdu (List ℕ)) (os : List ℕ) → encoded m ≡ Some os → decoded os ≡ Ok m

-- messages with radio keys have keys that rise, none earlier than the first
pub record AreInRow (s : Setting) (f : RadioKey) (handed : List Handing) : Type 0 where
  pub keys : List RadioKey
  pub each : AllZip (IsHandedAs s.vectors) keys handed
  pub row : IsRow f keys

taken : {A : Type 0} (b : Bool) (xs : List A) → b ≡ true → cond b xs [] ≡ xs
taken true xs is = refl
taken false xs is = absurd (cc is)

left_out : {A : Type 0} (b : Bool) (xs : List A) → b ≡ false → cond b xs [] ≡ []
left_out true xs is = absurd (cc is)
left_out false xs is = refl

module _ (what : WhatIsEncoded) where
  -- what has no radio key hands out none
  pub none_of : (c : Option Connection) (sent : List Answer) → All IsKeyless sent → handed_of c sent ≡ []
  none_of c [] h = refl
  none_of c (a ∷ rest) h =
      let k = All-head IsKeyless a rest h in
      let nothing : handed_in c a.station (decoded a.octets) ≡ [] =
      ap (handed_in c a.station) (what k.message a.octets k.written) ∙ left_out (has_radio_key k.message) _ k.keyless in
      ap (λ (zs : List Handing). zs ++ handed_of c rest) nothing ∙ none_of c rest (All-tail IsKeyless a rest h)

  -- of what is sent the last alone
  last_of : {s : Setting} {b : Solo} {k : RadioKey} (d : Draft) (g : IsGiven s b k d) (o : Option (List ℕ)) → encoded g.message ≡ o
      → handed_by d ≡ handed_of d.solo.connection (answer_of g.connection.station g.under o)
  last_of d g o is =
      let c = d.solo.connection in
      let last = answer_of g.connection.station g.under o in
      ap (handed_of c) (g.sent ∙ ap (λ (x : Option (List ℕ)). g.earlier ++ answer_of g.connection.station g.under x) is)
      ∙ flat_map-append (λ (a : Answer). handed_in c a.station (decoded a.octets)) g.earlier last
      ∙ ap (λ (zs : List Handing). zs ++ handed_of c last) (none_of c g.earlier g.keyless)

  -- a key that was handed out goes before those that follow
  pub given_row : {s : Setting} {b : Solo} {f k : RadioKey} (d : Draft) (zs : List Handing) (g : IsGiven s b k d) (o : Option (List ℕ))
      → encoded g.message ≡ o → IsUpTo f k → AreInRow s (after k) zs → AreInRow s f (handed_by d ++ zs)
  given_row {s = s} {f = f} {k = k} d zs g None is up rest =
      subst (AreInRow s f) (sym (ap (λ (hs : List Handing). hs ++ zs) (last_of d g None is))) (record {
        keys = rest.keys;
        each = rest.each;
        row = row_lower f (after k) rest.keys (up_to_trans f k (after k) up (later k)) rest.row;
      })
  given_row {s = s} {f = f} {k = k} d zs g (Some octets) is up rest =
      let h : Handing = record { station = g.connection.station; message = g.message; connection = d.solo.connection } in
      let one : handed_in d.solo.connection g.connection.station (decoded octets) ≡ h ∷ [] =
      ap (handed_in d.solo.connection g.connection.station) (what g.message octets is)
      ∙ taken (has_radio_key g.message) (h ∷ []) g.radio in
      let all : handed_by d ≡ h ∷ [] = last_of d g (Some octets) is ∙ ap (λ (hs : List Handing). hs ++ []) one in
      subst (AreInRow s f) (sym (ap (λ (hs : List Handing). hs ++ zs) all)) (record {
        keys = k ∷ rest.keys;
        each = (
          record {
            vector = g.vector;
            there = g.there;
            fits = g.fits;
            key = g.key;
            connection = g.connection;
            stands = g.stands;
            station = refl;
            ids = g.ids;
          },
          rest.each,
        );
        row = (up, rest.row);
      })

  onward : {s : Setting} {f : RadioKey} {b : Solo} (d : Draft) (zs : List Handing)
      → ((g : RadioKey) → IsHeld s g d.solo → AreInRow s g zs)
      → IsDone s f b d → AreInRow s f (handed_by d ++ zs)
  onward {s} {f} d zs rest (Silent q) =
      subst (AreInRow s f) (sym (ap (λ (hs : List Handing). hs ++ zs) (none_of d.solo.connection d.sent q.keyless)))
      (rest f (record { vector = q.vector; held = q.held }))
  onward d zs rest (Gives k up g) = given_row d zs g (encoded g.message) refl up (rest (after k) g.state)

  run_row : WholeIsFresh → ShortIsFresh → (s : Setting) (f : RadioKey) (solo : Solo) (items : List Item) → IsHeld s f solo
      → AreInRow s f (handed_along s solo items)
  run_row whole short s f solo [] h = record { keys = []; each = tt; row = tt }
  run_row whole short s f solo (item ∷ items) h =
      let d = solo_step s solo item in
      onward d (handed_along s d.solo items) (λ g held. run_row whole short s g d.solo items held)
      (done_step whole short solo item h)

pub keys_are_fresh : WholeIsFresh → ShortIsFresh → WhatIsEncoded → KeysAreFresh
keys_are_fresh whole short what s items =
    let r = run_row what whole short s (first_of 0) fresh_solo items (record { vector = tt; held = place_up 0 0 (le_refl 0) }) in
    record { keys = r.keys; each = r.each; rising = row_rises (first_of 0) r.keys r.row }
