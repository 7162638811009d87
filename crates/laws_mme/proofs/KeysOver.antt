-- Over the acts of a slot the radio keys that are handed out rise.
use Rattle.std.proofs.Common.{◌≡◌, ℕ, List, [], ◌∷◌, ◌++◌, Option, Some, None, inl, inr, refl, sym, ap, subst, le_refl, arith}
use Rattle.s1ap_pdus.specs.Pdus.{encoded}
use Rattle.identity_slots.specs.declared.profile.Vector.{Vector}
use Rattle.mme_types.specs.declared.network.Network.{Network}
use Rattle.mme_types.specs.declared.octets.Mark.{Mark}
use Rattle.emm_state.specs.declared.draft.Draft.{Draft}
use Rattle.emm_state.specs.declared.setting.Setting.{Setting}
use Rattle.emm_state.specs.declared.solo.Context.{Context}
use Rattle.emm_state.specs.declared.solo.Solo.{Solo}
use Rattle.emm_machine.specs.Freshness.{next_place}
use Rattle.emm_machine.specs.Given.{is_stocked}
use Rattle.emm_machine.specs.SubscriberView.{SubscriberView}
use Rattle.emm_machine.specs.Words.{fresh_solo}
use Rattle.laws_subscriber.specs.Choices.{either}
use Rattle.mme_core.specs.Provisioning.{fresh_subscriber}
use Rattle.mme_core.specs.World.{subscriber_after, subscriber_step}
use Rattle.laws_mme.specs.ActsAlone.{OwnAct, OwnItem, OwnProfile, OwnVector, own_run_over}
use Rattle.laws_mme.specs.GuardedActs.{vectors_in}
use Rattle.laws_mme.specs.Handed.{AreFresh, Handing, RadioKey, handed_by}
use Rattle.laws_mme.specs.KeysOfMessage.{IsOfAccepted}
use Rattle.laws_mme.specs.OverActs.{over_acts}
use Rattle.laws_mme.proofs.GuardedOver.{early, longer_of}
use Rattle.laws_mme.proofs.Holding.{HeldIn, IsHeld, IsOfVector, Part, part_of}
use Rattle.laws_mme.proofs.KeyActions.{Gives, IsDone, IsGiven, Silent}
use Rattle.laws_mme.proofs.KeyOrder.{after, first_of, place_up, row_rises}
use Rattle.laws_mme.proofs.KeyRows.{ShortIsFresh, WholeIsFresh, done_step}
use Rattle.laws_mme.proofs.KeyRuns.{AreInRow, WhatIsEncoded, given_row, none_of}
use Rattle.laws_mme.proofs.Longer.{IsLonger, longer}
use Rattle.laws_mme.proofs.Stretches.{run, runs, taking}

-- the messages with a radio key at a step
abbrev pub handed_at : Solo → Draft → List Handing
handed_at solo d = handed_by d

-- they have keys of the slot's vectors, those that it has in the end, of which each is before all later ones
abbrev pub KeysAreFreshOver : Network → ℕ → Option SubscriberView → List OwnAct → Type 0
KeysAreFreshOver n slot x acts = AreFresh (vectors_in (own_run_over n slot x acts)) (over_acts handed_at n slot x acts)

-- ---- with further vectors

of_longer : {vs us : List Vector} (place : ℕ) (kasme : List ℕ) → IsLonger vs us → IsOfVector vs place kasme → IsOfVector us place kasme
of_longer place kasme more h = (h.0, more.found place h.0 h.1, h.2)

held_in_longer : {vs us : List Vector} (f : RadioKey) (part : Part) (place : ℕ) (o : Option Context) → IsLonger vs us
    → HeldIn vs f part place o → HeldIn us f part place o
held_in_longer f part place None more h = h
held_in_longer f part place (Some x) more h = (h.0, of_longer x.place x.kasme more h.1, h.2)

held_longer : {s e : Setting} (f : RadioKey) (solo : Solo) → IsLonger s.vectors e.vectors → IsHeld s f solo → IsHeld e f solo
held_longer f solo more h = record {
  vector = h.vector;
  held = held_in_longer f (part_of solo.phase) (next_place solo.phase solo.next_vector) solo.context more h.held;
}

accepted_longer : {vs us : List Vector} (accepted : Option Mark) (kenb : List ℕ) → IsLonger vs us → IsOfAccepted vs accepted kenb
    → IsOfAccepted us accepted kenb
accepted_longer accepted kenb more h = record {
  mark = h.mark;
  is_accepted = h.is_accepted;
  vector = h.vector;
  there = more.found h.mark.place h.vector h.there;
  is_kenb = h.is_kenb;
}

given_longer : {s e : Setting} {b : Solo} {k : RadioKey} (d : Draft) → IsLonger s.vectors e.vectors → IsGiven s b k d → IsGiven e b k d
given_longer {k = k} d more g = record {
  state = held_longer (after k) d.solo more g.state;
  earlier = g.earlier;
  keyless = g.keyless;
  message = g.message;
  under = g.under;
  connection = g.connection;
  stands = g.stands;
  sent = g.sent;
  ids = g.ids;
  radio = g.radio;
  vector = g.vector;
  there = more.found k.place g.vector g.there;
  fits = g.fits;
  key = g.key;
  source = λ kenb is. elim (g.source kenb is) [
    | inl own ↦ inl (accepted_longer d.accepted kenb more own)
    | inr kept ↦ inr kept
  ];
}

held_taking : (f : RadioKey) (v : Vector) (x : SubscriberView) → IsHeld x.setting f x.solo → IsHeld (taking v x).setting f (taking v x).solo
held_taking f v x h =
    either (λ (y : SubscriberView). IsHeld y.setting f y.solo) (is_stocked x) h
    (held_longer f x.solo (longer x.setting.vectors (v ∷ [])) h)

-- ---- over acts

module _ (whole : WholeIsFresh) (short : ShortIsFresh) (what : WhatIsEncoded) (n : Network) (slot : ℕ) where
  -- at a step, by what it leaves
  onward : (s e : Setting) (f : RadioKey) (b : Solo) (d : Draft) (zs : List Handing) → IsLonger s.vectors e.vectors
      → ((g : RadioKey) → IsHeld s g d.solo → AreInRow e g zs) → IsDone s f b d → AreInRow e f (handed_by d ++ zs)
  onward s e f b d zs more rest (Silent q) =
      subst (AreInRow e f) (sym (ap (λ (hs : List Handing). hs ++ zs) (none_of what d.solo.connection d.sent q.keyless)))
      (rest f (record { vector = q.vector; held = q.held }))
  onward s e f b d zs more rest (Gives k up g) =
      let own : IsGiven e b k d = given_longer {s = s} {e = e} d more g in
      given_row what d zs own (encoded own.message) refl up (rest (after k) g.state)

  row_over : (x : SubscriberView) (f : RadioKey) (acts : List OwnAct) → IsHeld x.setting f x.solo
      → AreInRow (run x acts).setting f (over_acts handed_at n slot (Some x) acts)
  row_over x f [] h = record { keys = []; each = tt; row = tt }
  row_over x f (OwnItem item ∷ acts) h =
      let y : SubscriberView = subscriber_after x item in
      let d = subscriber_step x item in
      onward x.setting (run y acts).setting f x.solo d (over_acts handed_at n slot (Some y) acts) (longer_of (early x (OwnItem item ∷ acts)))
      (λ g held. row_over y g acts held) (done_step whole short x.solo item h)
  row_over x f (OwnVector v ∷ acts) h = row_over (taking v x) f acts (held_taking f v x h)
  row_over x f (OwnProfile p ∷ acts) h = row_over x f acts h

  fresh_from : (x : SubscriberView) (acts : List OwnAct) → x.solo ≡ fresh_solo → KeysAreFreshOver n slot (Some x) acts
  fresh_from x acts is =
      let begun : IsHeld x.setting (first_of 0) x.solo =
      subst (IsHeld x.setting (first_of 0)) (sym is) (record { vector = tt; held = place_up 0 0 (le_refl 0) }) in
      let r = row_over x (first_of 0) acts begun in
      subst (λ (o : Option SubscriberView). AreFresh (vectors_in o) (over_acts handed_at n slot (Some x) acts)) (sym (runs n slot x acts))
      (record { keys = r.keys; each = r.each; rising = row_rises (first_of 0) r.keys r.row })

  -- whoever was provisioned from the start, or is added
  pub keys_fresh_over : (x : Option SubscriberView) (acts : List OwnAct) → ((y : SubscriberView) → x ≡ Some y → y.solo ≡ fresh_solo)
      → KeysAreFreshOver n slot x acts
  keys_fresh_over (Some x) acts new = fresh_from x acts (new x refl)
  keys_fresh_over None [] new = record { keys = []; each = tt; rising = λ i j d lt within. absurd (omega arith) }
  keys_fresh_over None (OwnItem item ∷ acts) new = keys_fresh_over None acts new
  keys_fresh_over None (OwnVector v ∷ acts) new = keys_fresh_over None acts new
  keys_fresh_over None (OwnProfile p ∷ acts) new = fresh_from (fresh_subscriber n slot p) acts refl
