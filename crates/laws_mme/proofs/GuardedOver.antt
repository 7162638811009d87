-- Who is let in, over the acts of a slot: what is sent is under its mark, and the proof came since the phone was last away.
use Rattle.std.proofs.Common.{◌≡◌, ℕ, Bool, true, false, cond, List, [], ◌∷◌, ◌++◌, All, Option, Some, None, append-nil, append_assoc, sym, ◌∙◌, ap, subst}
use Rattle.std.specs.List.{AllZip}
use Rattle.std.proofs.lemmas.List.Elements.{All-append, All-nil, All-weaker}
use Rattle.identity_slots.specs.declared.profile.Vector.{Vector}
use Rattle.mme_types.specs.declared.network.Network.{Network}
use Rattle.mme_types.specs.declared.octets.Answer.{Answer}
use Rattle.mme_types.specs.declared.octets.Mark.{Mark}
use Rattle.emm_state.specs.declared.setting.Setting.{Setting}
use Rattle.emm_machine.specs.Freshness.{StaysInUse, marks_of}
use Rattle.emm_machine.specs.Given.{having, is_stocked, with_given}
use Rattle.emm_machine.specs.SubscriberView.{SubscriberView}
use Rattle.laws_subscriber.specs.Clocked.{StaysClocked}
use Rattle.laws_subscriber.specs.Marked.{AreFormsUnder, IsFormUnder, IsMarked, SendsInOrder, SendsMarked, protected_among, protected_within}
use Rattle.laws_subscriber.specs.Sound.{StaysSound}
use Rattle.mme_core.specs.World.{subscriber_after, subscriber_step}
use Rattle.laws_mme.specs.ActsAlone.{OwnAct, OwnItem, OwnProfile, OwnVector}
use Rattle.laws_mme.specs.GuardedActs.{forms_at}
use Rattle.laws_mme.specs.OverActs.{answers_at, over_acts, sent_marks_at}
use Rattle.laws_mme.proofs.Guards.{IsInUseAt}
use Rattle.laws_mme.proofs.Longer.{IsLonger, longer}
use Rattle.laws_mme.proofs.Stretches.{run, taking, used_item, used_taking}

-- ---- the vectors that a slot has in the end

-- a setting with further vectors
pub record IsEarly (s e : Setting) : Type 0 where
  pub more : List Vector
  pub is : e ≡ having (s.vectors ++ more) s

taken_early : (v : Vector) (x : SubscriberView) (e : Setting) → IsEarly (with_given v x).setting e → IsEarly x.setting e
taken_early v x e h = record {
  more = v ∷ h.more;
  is = h.is ∙ ap (λ (vs : List Vector). having vs x.setting) (append_assoc x.setting.vectors (v ∷ []) h.more);
}

by_stock : (b : Bool) (v : Vector) (x : SubscriberView) (e : Setting) → IsEarly (cond b x (with_given v x)).setting e → IsEarly x.setting e
by_stock true v x e h = h
by_stock false v x e h = taken_early v x e h

-- in the end a slot has the vectors that it had, and those that came
pub early : (x : SubscriberView) (acts : List OwnAct) → IsEarly x.setting (run x acts).setting
early x [] = record { more = []; is = ap (λ (vs : List Vector). having vs x.setting) (sym (append-nil x.setting.vectors)) }
early x (OwnItem item ∷ acts) = early (subscriber_after x item) acts
early x (OwnVector v ∷ acts) = by_stock (is_stocked x) v x _ (early (taking v x) acts)
early x (OwnProfile p ∷ acts) = early x acts

pub longer_of : {s e : Setting} → IsEarly s e → IsLonger s.vectors e.vectors
longer_of {s} {e} h = subst (λ (t : Setting). IsLonger s.vectors t.vectors) (sym h.is) (longer s.vectors h.more)

-- ---- marks and forms

form_longer : {vs us : List Vector} (m : Mark) (form : List ℕ) → IsLonger vs us → IsFormUnder vs m form → IsFormUnder us m form
form_longer m form more h = (h.0, h.1, h.2, more.found m.place h.0 h.3, h.4)

forms_longer : {vs us : List Vector} (under : Option Mark) (forms : List (List ℕ)) → IsLonger vs us → AreFormsUnder vs under forms
    → AreFormsUnder us under forms
forms_longer None forms more h = h
forms_longer (Some m) forms more h = (h.0, h.1, form_longer m h.0 more h.2)

marked_longer : {vs us : List Vector} → IsLonger vs us → (a : Answer) → IsMarked vs a → IsMarked us a
marked_longer more a h = (h.0, h.1, forms_longer a.under (protected_within h.0) more h.2)

zip_longer : {vs us : List Vector} → IsLonger vs us → (ms : List Mark) (forms : List (List ℕ)) → AllZip (IsFormUnder vs) ms forms
    → AllZip (IsFormUnder us) ms forms
zip_longer more [] [] h = tt
zip_longer more [] (form ∷ forms) h = absurd h
zip_longer more (m ∷ ms) [] h = absurd h
zip_longer more (m ∷ ms) (form ∷ forms) h = (form_longer m form more h.0, zip_longer more ms forms h.1)

zip_append : {A B : Type 0} (R : A → B → Type 0) (xs : List A) (ys : List B) (us : List A) (vs : List B) → AllZip R xs ys → AllZip R us vs
    → AllZip R (xs ++ us) (ys ++ vs)
zip_append R [] [] us vs h g = g
zip_append R [] (y ∷ ys) us vs h g = absurd h
zip_append R (x ∷ xs) [] us vs h g = absurd h
zip_append R (x ∷ xs) (y ∷ ys) us vs h g = (h.0, zip_append R xs ys us vs h.1 g)

module _ (stays : StaysInUse) (sounds : StaysSound) (clocks : StaysClocked) (n : Network) (slot : ℕ) where
  pub marked_over : SendsMarked → (x : SubscriberView) (acts : List OwnAct) → IsInUseAt x
      → All (IsMarked (run x acts).setting.vectors) (over_acts answers_at n slot (Some x) acts)
  marked_over marks x [] u = All-nil (IsMarked x.setting.vectors)
  marked_over marks x (OwnItem item ∷ acts) u =
      let y : SubscriberView = subscriber_after x item in
      let d = subscriber_step x item in
      let end = (run y acts).setting.vectors in
      let own : All (IsMarked x.setting.vectors) d.sent =
      subst (All (IsMarked x.setting.vectors)) (append-nil d.sent) (marks x.setting x.solo (item ∷ []) u.sound) in
      All-append (IsMarked end) d.sent (over_acts answers_at n slot (Some y) acts)
      (All-weaker (IsMarked x.setting.vectors) (IsMarked end) (marked_longer (longer_of (early x (OwnItem item ∷ acts)))) d.sent own)
      (marked_over marks y acts (used_item stays sounds clocks x item u))
  marked_over marks x (OwnVector v ∷ acts) u = marked_over marks (taking v x) acts (used_taking v x u)
  marked_over marks x (OwnProfile p ∷ acts) u = marked_over marks x acts u

  pub in_order_over : SendsInOrder → (x : SubscriberView) (acts : List OwnAct) → IsInUseAt x
      → AllZip (IsFormUnder (run x acts).setting.vectors) (over_acts sent_marks_at n slot (Some x) acts) (over_acts forms_at n slot (Some x) acts)
  in_order_over orders x [] u = tt
  in_order_over orders x (OwnItem item ∷ acts) u =
      let y : SubscriberView = subscriber_after x item in
      let d = subscriber_step x item in
      let end = (run y acts).setting.vectors in
      let own : AllZip (IsFormUnder x.setting.vectors) (marks_of d.sent) (protected_among d.sent) =
      subst (λ (ms : List Mark). AllZip (IsFormUnder x.setting.vectors) ms (protected_among d.sent)) (append-nil (marks_of d.sent))
      (subst (AllZip (IsFormUnder x.setting.vectors) (marks_of d.sent ++ [])) (append-nil (protected_among d.sent))
      (orders x.setting x.solo (item ∷ []) u.sound)) in
      zip_append (IsFormUnder end) (marks_of d.sent) (protected_among d.sent) (over_acts sent_marks_at n slot (Some y) acts)
      (over_acts forms_at n slot (Some y) acts)
      (zip_longer (longer_of (early x (OwnItem item ∷ acts))) (marks_of d.sent) (protected_among d.sent) own)
      (in_order_over orders y acts (used_item stays sounds clocks x item u))
  in_order_over orders x (OwnVector v ∷ acts) u = in_order_over orders (taking v x) acts (used_taking v x u)
  in_order_over orders x (OwnProfile p ∷ acts) u = in_order_over orders x acts u
