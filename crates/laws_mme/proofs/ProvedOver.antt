-- Who was away and is past the proof has proved itself over the acts: since the phone was last left without a vector, the machine
-- went on as one that had all of them, which is a run over items.
use Rattle.std.proofs.Common.{◌≡◌, ◌≢◌, ◌⊎◌, inl, inr, ℕ, true, List, [], ◌∷◌, ◌++◌, Option, Some, None, Ok, append-nil, append_assoc, refl, sym, ◌∙◌, ap, subst}
use Rattle.std.specs.Prelude.{slice_get}
use Rattle.std.proofs.lemmas.List.Elements.{All-weaker}
use Rattle.std.proofs.lemmas.Option.{same_Some}
use Rattle.identity_slots.specs.declared.profile.Vector.{Vector}
use Rattle.s1ap_pdus.specs.declared.pdu.Pdu.{Pdu}
use Rattle.s1ap_pdus.specs.Pdus.{decoded}
use Rattle.mme_types.specs.declared.network.Network.{Network}
use Rattle.mme_types.specs.declared.octets.Answer.{Answer}
use Rattle.mme_types.specs.Events.{Item}
use Rattle.emm_state.specs.declared.draft.Draft.{Draft}
use Rattle.emm_state.specs.declared.setting.Setting.{Setting}
use Rattle.emm_state.specs.declared.solo.Context.{Context}
use Rattle.emm_state.specs.declared.solo.Phase.TheVariants.{Deregistered}
use Rattle.emm_state.specs.declared.solo.Solo.{Solo}
use Rattle.emm_machine.specs.Freshness.{StaysInUse}
use Rattle.emm_machine.specs.Given.{is_stocked}
use Rattle.emm_machine.specs.Steps.{solo_after, solo_step}
use Rattle.emm_machine.specs.SubscriberView.{SubscriberView}
use Rattle.emm_machine.specs.Words.{fresh_solo}
use Rattle.laws_subscriber.specs.Choices.{either}
use Rattle.laws_subscriber.specs.Clocked.{StaysClocked}
use Rattle.laws_subscriber.specs.Keys.{GoesToTheProved, HasKeyOf, KeysToTheProved, has_radio_key}
use Rattle.laws_subscriber.specs.Proof.{Challenges, Completes, IsProved, NeverDeregistered, RegisteredByProof, Responds}
use Rattle.laws_subscriber.specs.Sound.{IsSound, StaysSound, is_past_proof}
use Rattle.mme_core.specs.Provisioning.{fresh_subscriber}
use Rattle.mme_core.specs.World.{subscriber_after, subscriber_step}
use Rattle.laws_mme.specs.ActsAlone.{OwnAct, OwnItem, OwnProfile, OwnVector, own_after, own_run_over}
use Rattle.laws_mme.specs.EndingActs.{items_in}
use Rattle.laws_mme.specs.GuardedActs.{ChallengesAt, GivesKeysByProofOver, IsAway, IsProvedNow, IsProvedOver, NeverAwayOver, vectors_in}
use Rattle.laws_mme.specs.Late.{GoesOn, GoesOnOrRanOut}
use Rattle.laws_mme.proofs.GuardedOver.{early}
use Rattle.laws_mme.proofs.Guards.{IsInUseAt}
use Rattle.laws_mme.proofs.Longer.{sound_longer}
use Rattle.laws_mme.proofs.Stretches.{run, run_both, runs, taking, used_item, used_now, used_run, used_taking}

-- ---- without a cut

-- each step of a list of acts is the same with further vectors
abbrev GoesOnOver : SubscriberView → List OwnAct → Type 0
GoesOnOver x [] = Unit {0}
GoesOnOver x (OwnItem item ∷ acts) = GoesOn x.setting x.solo item × GoesOnOver (subscriber_after x item) acts
GoesOnOver x (OwnVector v ∷ acts) = GoesOnOver (taking v x) acts
GoesOnOver x (OwnProfile p ∷ acts) = GoesOnOver x acts

-- so with those of the end
step_same : (x : SubscriberView) (item : Item) (acts : List OwnAct) → GoesOn x.setting x.solo item
    → solo_step (run (subscriber_after x item) acts).setting x.solo item ≡ subscriber_step x item
step_same x item acts on =
    let end = early (subscriber_after x item) acts in
    subst (λ (e : Setting). solo_step e x.solo item ≡ solo_step x.setting x.solo item) (sym end.is) (on end.more)

solo_taking : (v : Vector) (x : SubscriberView) → (taking v x).solo ≡ x.solo
solo_taking v x = either (λ (y : SubscriberView). y.solo ≡ x.solo) (is_stocked x) refl refl

-- the state over the acts is that over their items
after_same : (x : SubscriberView) (acts since : List OwnAct) → GoesOnOver x (acts ++ since)
    → (run x acts).solo ≡ solo_after (run x (acts ++ since)).setting x.solo (items_in acts)
after_same x [] since on = refl
after_same x (OwnItem item ∷ acts) since on =
    let y = subscriber_after x item in
    let end = (run y (acts ++ since)).setting in
    after_same y acts since on.1
    ∙ ap (λ (d : Draft). solo_after end d.solo (items_in acts)) (sym (step_same x item (acts ++ since) on.0))
after_same x (OwnVector v ∷ acts) since on =
    let y = taking v x in
    let end = (run y (acts ++ since)).setting in
    after_same y acts since on ∙ ap (λ (o : Solo). solo_after end o (items_in acts)) (solo_taking v x)
after_same x (OwnProfile p ∷ acts) since on = after_same x acts since on

-- and so is the step after them
step_after : (x : SubscriberView) (acts : List OwnAct) (item : Item) (since : List OwnAct) → GoesOnOver x (acts ++ OwnItem item ∷ since)
    → solo_step (run x (acts ++ OwnItem item ∷ since)).setting (run x acts).solo item ≡ subscriber_step (run x acts) item
step_after x [] item since on = step_same x item since on.0
step_after x (OwnItem i ∷ acts) item since on = step_after (subscriber_after x i) acts item since on.1
step_after x (OwnVector v ∷ acts) item since on = step_after (taking v x) acts item since on
step_after x (OwnProfile p ∷ acts) item since on = step_after x acts item since on

on_since : (x : SubscriberView) (acts since : List OwnAct) → GoesOnOver x (acts ++ since) → GoesOnOver (run x acts) since
on_since x [] since on = on
on_since x (OwnItem item ∷ acts) since on = on_since (subscriber_after x item) acts since on.1
on_since x (OwnVector v ∷ acts) since on = on_since (taking v x) acts since on
on_since x (OwnProfile p ∷ acts) since on = on_since x acts since on

never_away : (n : Network) (slot : ℕ) (x : SubscriberView) (acts : List OwnAct) → GoesOnOver x acts
    → NeverDeregistered (run x acts).setting x.solo (items_in acts) → NeverAwayOver n slot (Some x) acts
never_away n slot x [] on h = tt
never_away n slot x (OwnItem item ∷ acts) on h =
    let y = subscriber_after x item in
    let end = (run y acts).setting in
    let same = step_same x item acts on.0 in (
      subst (λ (d : Draft). d.solo.phase ≢ Deregistered) same h.0,
      never_away n slot y acts on.1 (subst (λ (d : Draft). NeverDeregistered end d.solo (items_in acts)) same h.1),
    )
never_away n slot x (OwnVector v ∷ acts) on h =
    let y = taking v x in
    never_away n slot y acts on (subst (λ (o : Solo). NeverDeregistered (run y acts).setting o (items_in acts)) (sym (solo_taking v x)) h)
never_away n slot x (OwnProfile p ∷ acts) on h = never_away n slot x acts on h

-- ---- items and acts

-- where an item stands among the items of acts
record IsFound (acts : List OwnAct) (front : List Item) (item : Item) (back : List Item) : Type 0 where
  before : List OwnAct
  after : List OwnAct
  whole : acts ≡ before ++ OwnItem item ∷ after
  items_before : items_in before ≡ front
  items_after : items_in after ≡ back

same_head : {A : Type 0} (x y : A) (xs ys : List A) → ◌≡◌ {A = List A} (x ∷ xs) (y ∷ ys) → x ≡ y
same_head x y xs ys is = cc

same_tail : {A : Type 0} (x y : A) (xs ys : List A) → ◌≡◌ {A = List A} (x ∷ xs) (y ∷ ys) → xs ≡ ys
same_tail x y xs ys is = cc

no_item : (front : List Item) (item : Item) (back : List Item) → ◌≡◌ {A = List Item} [] (front ++ item ∷ back) → ⊥
no_item [] item back is = cc is
no_item (i ∷ front) item back is = cc is

skipped : (act : OwnAct) (acts : List OwnAct) (front : List Item) (item : Item) (back : List Item)
    → ((before : List OwnAct) → items_in (act ∷ before) ≡ items_in before) → IsFound acts front item back
    → IsFound (act ∷ acts) front item back
skipped act acts front item back none h = record {
  before = act ∷ h.before;
  after = h.after;
  whole = ap (λ (l : List OwnAct). act ∷ l) h.whole;
  items_before = none h.before ∙ h.items_before;
  items_after = h.items_after;
}

find : (acts : List OwnAct) (front : List Item) (item : Item) (back : List Item) → items_in acts ≡ front ++ item ∷ back
    → IsFound acts front item back
find [] front item back is = absurd (no_item front item back is)
find (OwnVector v ∷ acts) front item back is = skipped (OwnVector v) acts front item back (λ before. refl) (find acts front item back is)
find (OwnProfile p ∷ acts) front item back is = skipped (OwnProfile p) acts front item back (λ before. refl) (find acts front item back is)
find (OwnItem i ∷ acts) [] item back is = record {
  before = [];
  after = acts;
  whole = ap (λ (j : Item). OwnItem j ∷ acts) (same_head i item (items_in acts) back is);
  items_before = refl;
  items_after = same_tail i item (items_in acts) back is;
}
find (OwnItem i ∷ acts) (j ∷ front) item back is =
    let h = find acts front item back (same_tail i j (items_in acts) (front ++ item ∷ back) is) in
    record {
      before = OwnItem i ∷ h.before;
      after = h.after;
      whole = ap (λ (l : List OwnAct). OwnItem i ∷ l) h.whole;
      items_before = ap (λ (l : List Item). i ∷ l) h.items_before
          ∙ ap (λ (k : Item). k ∷ front) (same_head i j (items_in acts) (front ++ item ∷ back) is);
      items_after = h.items_after;
    }

items_both : (before since : List OwnAct) → items_in (before ++ since) ≡ items_in before ++ items_in since
items_both [] since = refl
items_both (OwnItem item ∷ before) since = ap (λ (l : List Item). item ∷ l) (items_both before since)
items_both (OwnVector v ∷ before) since = items_both before since
items_both (OwnProfile p ∷ before) since = items_both before since

-- ---- the proof

assoc_parts : (front challenge response completion : List OwnAct)
    → front ++ challenge ++ response ++ completion ≡ front ++ (challenge ++ response ++ completion)
assoc_parts front challenge response completion =
    ap (λ (l : List OwnAct). l ++ completion) (append_assoc front challenge response)
    ∙ append_assoc front (challenge ++ response) completion

module _ (n : Network) (slot : ℕ) where
  -- at the acts themselves
  proved_parts : (x : SubscriberView) (front : List OwnAct) (challenge : Item) (between : List OwnAct) (response : Item)
      (waiting : List OwnAct) (completion : Item) (since : List OwnAct) (place : ℕ) (v : Vector) (e : Setting)
      → (run x (front ++ (OwnItem challenge ∷ between ++ OwnItem response ∷ waiting ++ OwnItem completion ∷ since))).setting ≡ e
      → GoesOnOver x (front ++ (OwnItem challenge ∷ between ++ OwnItem response ∷ waiting ++ OwnItem completion ∷ since))
      → slice_get e.vectors place ≡ Some v
      → Challenges place v (solo_step e (solo_after e x.solo (items_in front)) challenge) → Responds v response → Completes v completion
      → NeverDeregistered e (solo_after e x.solo (items_in front))
      (items_in (OwnItem challenge ∷ between ++ OwnItem response ∷ waiting ++ OwnItem completion ∷ since))
      → IsProvedOver n slot (Some x) (front ++ (OwnItem challenge ∷ between ++ OwnItem response ∷ waiting ++ OwnItem completion ∷ since)) place
  proved_parts x front challenge between response waiting completion since place v e is on there challenged responded completed never =
      let tail : List OwnAct = OwnItem challenge ∷ between ++ OwnItem response ∷ waiting ++ OwnItem completion ∷ since in
      let rest : List OwnAct = between ++ OwnItem response ∷ waiting ++ OwnItem completion ∷ since in
      let state : (run x front).solo ≡ solo_after e x.solo (items_in front) =
      subst (λ (t : Setting). (run x front).solo ≡ solo_after t x.solo (items_in front)) is (after_same x front tail on) in
      let step : solo_step e (solo_after e x.solo (items_in front)) challenge ≡ subscriber_step (run x front) challenge =
      ap (λ (o : Solo). solo_step e o challenge) (sym state)
      ∙ subst (λ (t : Setting). solo_step t (run x front).solo challenge ≡ subscriber_step (run x front) challenge) is (step_after x front challenge rest on) in
      let last : (run (run x front) tail).setting ≡ e = ap (λ (y : SubscriberView). y.setting) (sym (run_both x front tail)) ∙ is in
      record {
        vector = v;
        there = subst (λ (o : Option SubscriberView). slice_get (vectors_in o) place ≡ Some v) (sym (runs n slot x (front ++ tail)))
            (subst (λ (t : Setting). slice_get t.vectors place ≡ Some v) (sym is) there);
        before = front;
        challenge = challenge;
        between = between;
        response = response;
        waiting = waiting;
        completion = completion;
        since = since;
        whole = sym (assoc_parts front (OwnItem challenge ∷ between) (OwnItem response ∷ waiting) (OwnItem completion ∷ since));
        challenged = subst (λ (o : Option SubscriberView). ChallengesAt place v o challenge) (sym (runs n slot x front))
            (subst (Challenges place v) step challenged);
        responded = responded;
        completed = completed;
        throughout = subst (λ (o : Option SubscriberView). NeverAwayOver n slot o tail) (sym (runs n slot x front))
            (never_away n slot (run x front) tail (on_since x front tail on)
            (subst (λ (o : Solo). NeverDeregistered (run (run x front) tail).setting o (items_in tail)) (sym state)
            (subst (λ (t : Setting). NeverDeregistered t (solo_after e x.solo (items_in front)) (items_in tail)) (sym last) never)));
      }

  -- the items of the parts
  items_parts : (challenge : Item) (between : List OwnAct) (response : Item) (waiting : List OwnAct) (completion : Item) (since : List OwnAct)
      (b w c : List Item) → items_in between ≡ b → items_in waiting ≡ w → items_in since ≡ c
      → items_in (OwnItem challenge ∷ between ++ OwnItem response ∷ waiting ++ OwnItem completion ∷ since)
      ≡ challenge ∷ b ++ response ∷ w ++ completion ∷ c
  items_parts challenge between response waiting completion since b w c is_b is_w is_c =
      items_both (OwnItem challenge ∷ between ++ OwnItem response ∷ waiting) (OwnItem completion ∷ since)
      ∙ ap (λ (l : List Item). l ++ completion ∷ items_in since) (items_both (OwnItem challenge ∷ between) (OwnItem response ∷ waiting))
      ∙ ap (λ (l : List Item). challenge ∷ l ++ response ∷ items_in waiting ++ completion ∷ items_in since) is_b
      ∙ ap (λ (l : List Item). challenge ∷ b ++ response ∷ l ++ completion ∷ items_in since) is_w
      ∙ ap (λ (l : List Item). challenge ∷ b ++ response ∷ w ++ completion ∷ l) is_c

  -- a proof over the items is one over the acts, where its three items are found
  proved_found : (x : SubscriberView) (acts : List OwnAct) (place : ℕ) → GoesOnOver x acts
      → (q : IsProved (run x acts).setting x.solo (items_in acts) place)
      → (last : IsFound acts (q.before ++ q.challenge ∷ q.between ++ q.response ∷ q.waiting) q.completion q.since)
      → (middle : IsFound last.before (q.before ++ q.challenge ∷ q.between) q.response q.waiting)
      → IsFound middle.before q.before q.challenge q.between → IsProvedOver n slot (Some x) acts place
  proved_found x acts place on q last middle first =
      let e : Setting = (run x acts).setting in
      let tail : List OwnAct =
      OwnItem q.challenge ∷ first.after ++ OwnItem q.response ∷ middle.after ++ OwnItem q.completion ∷ last.after in
      let whole : acts ≡ first.before ++ tail =
      last.whole
      ∙ ap (λ (l : List OwnAct). l ++ OwnItem q.completion ∷ last.after)
      (middle.whole ∙ ap (λ (l : List OwnAct). l ++ OwnItem q.response ∷ middle.after) first.whole)
      ∙ assoc_parts first.before (OwnItem q.challenge ∷ first.after) (OwnItem q.response ∷ middle.after) (OwnItem q.completion ∷ last.after) in
      let parts : items_in tail ≡ q.challenge ∷ q.between ++ q.response ∷ q.waiting ++ q.completion ∷ q.since =
      items_parts q.challenge first.after q.response middle.after q.completion last.after q.between q.waiting q.since first.items_after middle.items_after last.items_after in
      subst (λ (l : List OwnAct). IsProvedOver n slot (Some x) l place) (sym whole)
      (proved_parts x first.before q.challenge first.after q.response middle.after q.completion last.after place q.vector e
      (ap (λ (l : List OwnAct). (run x l).setting) (sym whole)) (subst (λ (l : List OwnAct). GoesOnOver x l) whole on) q.there
      (subst (λ (l : List Item). Challenges place q.vector (solo_step e (solo_after e x.solo l) q.challenge)) (sym first.items_before) q.challenged)
      q.responded q.completed
      (subst (λ (l : List Item). NeverDeregistered e (solo_after e x.solo l) (items_in tail)) (sym first.items_before)
      (subst (NeverDeregistered e (solo_after e x.solo q.before)) (sym parts) q.throughout)))

  -- and they are
  proved_since : (x : SubscriberView) (acts : List OwnAct) (place : ℕ) → GoesOnOver x acts
      → IsProved (run x acts).setting x.solo (items_in acts) place → IsProvedOver n slot (Some x) acts place
  proved_since x acts place on q =
      let last = find acts (q.before ++ q.challenge ∷ q.between ++ q.response ∷ q.waiting) q.completion q.since q.whole in
      let middle = find last.before (q.before ++ q.challenge ∷ q.between) q.response q.waiting last.items_before in
      proved_found x acts place on q last middle (find middle.before q.before q.challenge q.between middle.items_before)

  -- with an act before them
  one_more : (x : Option SubscriberView) (act : OwnAct) (acts : List OwnAct) (place : ℕ)
      → IsProvedOver n slot (own_after n slot x act) acts place → IsProvedOver n slot x (act ∷ acts) place
  one_more x act acts place q = record {
    vector = q.vector;
    there = q.there;
    before = act ∷ q.before;
    challenge = q.challenge;
    between = q.between;
    response = q.response;
    waiting = q.waiting;
    completion = q.completion;
    since = q.since;
    whole = ap (λ (l : List OwnAct). act ∷ l) q.whole;
    challenged = q.challenged;
    responded = q.responded;
    completed = q.completed;
    throughout = q.throughout;
  }

  more_before : (x : SubscriberView) (front acts : List OwnAct) (place : ℕ) → IsProvedOver n slot (Some (run x front)) acts place
      → IsProvedOver n slot (Some x) (front ++ acts) place
  more_before x [] acts place q = q
  more_before x (OwnItem item ∷ front) acts place q =
      one_more (Some x) (OwnItem item) (front ++ acts) place (more_before (subscriber_after x item) front acts place q)
  more_before x (OwnVector v ∷ front) acts place q =
      one_more (Some x) (OwnVector v) (front ++ acts) place (more_before (taking v x) front acts place q)
  more_before x (OwnProfile p ∷ front) acts place q =
      one_more (Some x) (OwnProfile p) (front ++ acts) place (more_before x front acts place q)

-- ---- since the phone was last left without a vector

record IsLast (x : SubscriberView) (acts : List OwnAct) : Type 0 where
  front : List OwnAct
  back : List OwnAct
  whole : acts ≡ front ++ back
  away : (run x front).solo.phase ≡ Deregistered
  on : GoesOnOver (run x front) back

module _ (splits : GoesOnOrRanOut) (stays : StaysInUse) (sounds : StaysSound) (clocks : StaysClocked) where
  last_of : (x : SubscriberView) (acts : List OwnAct) → IsInUseAt x → GoesOnOver x acts ⊎ IsLast x acts
  last_of x [] u = inl tt
  last_of x (OwnItem item ∷ acts) u = elim (last_of (subscriber_after x item) acts (used_item stays sounds clocks x item u)) [
    | inl on ↦ elim (splits x.setting x.solo item u.sound) [
      | inl same ↦ inl (same, on)
      | inr out ↦ inr (record { front = OwnItem item ∷ []; back = acts; whole = refl; away = out.away; on = on })
    ]
    | inr l ↦ inr (record {
      front = OwnItem item ∷ l.front;
      back = l.back;
      whole = ap (λ (as_whole : List OwnAct). OwnItem item ∷ as_whole) l.whole;
      away = l.away;
      on = l.on;
    })
  ]
  last_of x (OwnVector v ∷ acts) u = elim (last_of (taking v x) acts (used_taking v x u)) [
    | inl on ↦ inl on
    | inr l ↦ inr (record {
      front = OwnVector v ∷ l.front;
      back = l.back;
      whole = ap (λ (as_whole : List OwnAct). OwnVector v ∷ as_whole) l.whole;
      away = l.away;
      on = l.on;
    })
  ]
  last_of x (OwnProfile p ∷ acts) u = elim (last_of x acts u) [
    | inl on ↦ inl on
    | inr l ↦ inr (record {
      front = OwnProfile p ∷ l.front;
      back = l.back;
      whole = ap (λ (as_whole : List OwnAct). OwnProfile p ∷ as_whole) l.whole;
      away = l.away;
      on = l.on;
    })
  ]

  module _ (proves : RegisteredByProof) (begun : (s : Setting) → IsInUseAt (record { setting = s; solo = fresh_solo })) (n : Network) (slot : ℕ) where
    proved_stretch : (x : SubscriberView) (acts : List OwnAct) → GoesOnOver x acts → IsInUseAt x → x.solo.phase ≡ Deregistered
        → is_past_proof (run x acts).solo.phase ≡ true → IsProvedNow n slot (Some x) acts (run x acts)
    proved_stretch x acts on u away past =
        let e : Setting = (run x acts).setting in
        let on_all : GoesOnOver x (acts ++ []) = subst (λ (l : List OwnAct). GoesOnOver x l) (sym (append-nil acts)) on in
        let state : (run x acts).solo ≡ solo_after e x.solo (items_in acts) =
        subst (λ (l : List OwnAct). (run x acts).solo ≡ solo_after (run x l).setting x.solo (items_in acts)) (append-nil acts)
        (after_same x acts [] on_all) in
        let end = early x acts in
        let sound : IsSound e x.solo =
        subst (λ (t : Setting). IsSound t x.solo) (sym end.is) (sound_longer end.more x.setting x.solo u.sound) in
        let r =
        proves e x.solo (items_in acts) sound away (subst (λ (o : Solo). is_past_proof o.phase ≡ true) state past) in
        (r.0, ap (λ (o : Solo). o.context) state ∙ r.1, proved_since n slot x acts r.0.place on r.2)

    proved_run : (x : SubscriberView) (acts : List OwnAct) → IsInUseAt x → x.solo.phase ≡ Deregistered
        → is_past_proof (run x acts).solo.phase ≡ true → IsProvedNow n slot (Some x) acts (run x acts)
    proved_run x acts u away past = elim (last_of x acts u) [
      | inl on ↦ proved_stretch x acts on u away past
      | inr l ↦
          let y : SubscriberView = run x l.front in
          let same : run x acts ≡ run y l.back = ap (λ (a : List OwnAct). run x a) l.whole ∙ run_both x l.front l.back in
          let r =
          proved_stretch y l.back l.on (used_run stays sounds clocks x l.front u) l.away
          (subst (λ (z : SubscriberView). is_past_proof z.solo.phase ≡ true) same past) in (
            r.0,
            ap (λ (z : SubscriberView). z.solo.context) same ∙ r.1,
            subst (λ (a : List OwnAct). IsProvedOver n slot (Some x) a r.0.place) (sym l.whole) (more_before n slot x l.front l.back r.0.place r.2),
          )
    ]

    -- whoever is provisioned, or isn't yet
    pub proved_now : (x : Option SubscriberView) (acts : List OwnAct) (y : SubscriberView) → ((z : SubscriberView) → x ≡ Some z → IsInUseAt z)
        → IsAway x → own_run_over n slot x acts ≡ Some y → is_past_proof y.solo.phase ≡ true → IsProvedNow n slot x acts y
    proved_now (Some x) acts y u away at past =
        let same : run x acts ≡ y = same_Some (run x acts) y (sym (runs n slot x acts) ∙ at) in
        subst (IsProvedNow n slot (Some x) acts) same
        (proved_run x acts (u x refl) away (subst (λ (z : SubscriberView). is_past_proof z.solo.phase ≡ true) (sym same) past))
    proved_now None [] y u away at past = absurd (cc at)
    proved_now None (OwnItem item ∷ acts) y u away at past =
        let r = proved_now None acts y u away at past in (r.0, r.1, one_more n slot None (OwnItem item) acts r.0.place r.2)
    proved_now None (OwnVector v ∷ acts) y u away at past =
        let r = proved_now None acts y u away at past in (r.0, r.1, one_more n slot None (OwnVector v) acts r.0.place r.2)
    proved_now None (OwnProfile p ∷ acts) y u away at past =
        let x : SubscriberView = fresh_subscriber n slot p in
        let same : run x acts ≡ y = same_Some (run x acts) y (sym (runs n slot x acts) ∙ at) in
        let r =
        subst (IsProvedNow n slot (Some x) acts) same
        (proved_run x acts (begun x.setting) refl (subst (λ (z : SubscriberView). is_past_proof z.solo.phase ≡ true) (sym same) past)) in
        (r.0, r.1, one_more n slot None (OwnProfile p) acts r.0.place r.2)

    -- ---- radio keys

    run_push : (x : Option SubscriberView) (seen : List OwnAct) (item : Item) (y : SubscriberView) → own_run_over n slot x seen ≡ Some y
        → own_run_over n slot x (seen ++ OwnItem item ∷ []) ≡ Some (subscriber_after y item)
    run_push x [] item y at = ap (λ (o : Option SubscriberView). own_after n slot o (OwnItem item)) at
    run_push x (act ∷ seen) item y at = run_push (own_after n slot x act) seen item y at

    pub keys_now : KeysToTheProved → (x : Option SubscriberView) (seen : List OwnAct) (y : SubscriberView) (item : Item)
        → ((z : SubscriberView) → x ≡ Some z → IsInUseAt z) → IsAway x → own_run_over n slot x seen ≡ Some y
        → GivesKeysByProofOver n slot x seen y item
    keys_now gives x seen y item u away at =
        let d = subscriber_step y item in
        All-weaker (λ (a : Answer). (m : Pdu (List ℕ)) → decoded a.octets ≡ Ok m → has_radio_key m ≡ true → GoesToTheProved d.solo a m)
        (λ (a : Answer). (m : Pdu (List ℕ)) → decoded a.octets ≡ Ok m → has_radio_key m ≡ true
        → (c : Context) × ((subscriber_after y item).solo.context ≡ Some c) × HasKeyOf c m
        × IsProvedOver n slot x (seen ++ OwnItem item ∷ []) c.place)
        (λ a goes m read key.
        let g = goes m read key in
        let r = proved_now x (seen ++ OwnItem item ∷ []) (subscriber_after y item) u away (run_push x seen item y at) g.proved in
        let context : g.context ≡ r.0 = same_Some g.context r.0 (sym g.kept ∙ r.1) in
        (r.0, r.1, subst (λ (c : Context). HasKeyOf c m) context g.key, r.2)) d.sent
        (gives y.setting y.solo item (used_now stays sounds clocks begun n slot x seen y u at).sound)
