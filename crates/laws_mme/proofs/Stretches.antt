-- The machine of a slot over its acts: stretches over which it goes on as with the vectors that it has at the end of them.
use Rattle.std.proofs.Common.{◌≡◌, ℕ, cond, List, [], ◌∷◌, ◌++◌, Option, Some, None, append-nil, append_assoc, refl, sym, ◌∙◌, ap, subst}
use Rattle.std.proofs.lemmas.Option.{same_Some}
use Rattle.identity_slots.specs.declared.profile.Vector.{Vector}
use Rattle.mme_types.specs.declared.network.Network.{Network}
use Rattle.mme_types.specs.Events.{Item}
use Rattle.emm_state.specs.declared.draft.Draft.{Draft}
use Rattle.emm_state.specs.declared.setting.Setting.{Setting}
use Rattle.emm_state.specs.declared.solo.Solo.{Solo}
use Rattle.emm_machine.specs.Freshness.{IsInUse, StaysInUse}
use Rattle.emm_machine.specs.Given.{giving, having, is_stocked, with_given}
use Rattle.emm_machine.specs.Steps.{solo_after, solo_step}
use Rattle.emm_machine.specs.SubscriberView.{SubscriberView}
use Rattle.emm_machine.specs.Words.{fresh_solo}
use Rattle.laws_subscriber.specs.Choices.{either}
use Rattle.laws_subscriber.specs.Clocked.{StaysClocked}
use Rattle.laws_subscriber.specs.Sound.{IsSound, StaysSound}
use Rattle.mme_core.specs.Provisioning.{fresh_subscriber}
use Rattle.mme_core.specs.World.{subscriber_after}
use Rattle.laws_mme.specs.ActsAlone.{OwnAct, OwnItem, OwnProfile, OwnVector, own_run_over}
use Rattle.laws_mme.specs.Late.{GoesOn}
use Rattle.laws_mme.proofs.Guards.{IsInUseAt}
use Rattle.laws_mme.proofs.Longer.{sound_longer}

-- ---- who is provisioned

-- a vector is taken, or refused where enough are left
abbrev pub taking : Vector → SubscriberView → SubscriberView
taking v x = cond (is_stocked x) x (with_given v x)

-- its machine over its acts
abbrev pub run : SubscriberView → List OwnAct → SubscriberView
run x [] = x
run x (OwnItem item ∷ acts) = run (subscriber_after x item) acts
run x (OwnVector v ∷ acts) = run (taking v x) acts
run x (OwnProfile p ∷ acts) = run x acts

pub runs : (n : Network) (slot : ℕ) (x : SubscriberView) (acts : List OwnAct) → own_run_over n slot (Some x) acts ≡ Some (run x acts)
runs n slot x [] = refl
runs n slot x (OwnItem item ∷ acts) = runs n slot (subscriber_after x item) acts
runs n slot x (OwnVector v ∷ acts) = runs n slot (taking v x) acts
runs n slot x (OwnProfile p ∷ acts) = runs n slot x acts

pub run_both : (x : SubscriberView) (before since : List OwnAct) → run x (before ++ since) ≡ run (run x before) since
run_both x [] since = refl
run_both x (OwnItem item ∷ before) since = run_both (subscriber_after x item) before since
run_both x (OwnVector v ∷ before) since = run_both (taking v x) before since
run_both x (OwnProfile p ∷ before) since = run_both x before since

-- ---- what is in use stays so

pub used_given : (v : Vector) (x : SubscriberView) → IsInUseAt x → IsInUseAt (with_given v x)
used_given v x h = record { used = h.used; sound = sound_longer (v ∷ []) x.setting x.solo h.sound; clocked = h.clocked }

pub sound_taking : (v : Vector) (x : SubscriberView) → IsSound x.setting x.solo → IsSound (taking v x).setting (taking v x).solo
sound_taking v x h =
    either (λ (y : SubscriberView). IsSound y.setting y.solo) (is_stocked x) h (sound_longer (v ∷ []) x.setting x.solo h)

pub used_taking : (v : Vector) (x : SubscriberView) → IsInUseAt x → IsInUseAt (taking v x)
used_taking v x h = either IsInUseAt (is_stocked x) h (used_given v x h)

module _ (stays : StaysInUse) (sounds : StaysSound) (clocks : StaysClocked) where
  pub used_item : (x : SubscriberView) (item : Item) → IsInUseAt x → IsInUseAt (subscriber_after x item)
  used_item x item h = record {
    used = stays x.setting x.solo (item ∷ []) h.used;
    sound = sounds x.setting x.solo (item ∷ []) h.sound;
    clocked = clocks x.setting x.solo (item ∷ []) h.clocked;
  }

  pub used_run : (x : SubscriberView) (acts : List OwnAct) → IsInUseAt x → IsInUseAt (run x acts)
  used_run x [] h = h
  used_run x (OwnItem item ∷ acts) h = used_run (subscriber_after x item) acts (used_item x item h)
  used_run x (OwnVector v ∷ acts) h = used_run (taking v x) acts (used_taking v x h)
  used_run x (OwnProfile p ∷ acts) h = used_run x acts h

-- who is there after acts is in use
module _ (stays : StaysInUse) (sounds : StaysSound) (clocks : StaysClocked)
    (begun : (s : Setting) → IsInUseAt (record { setting = s; solo = fresh_solo })) (n : Network) (slot : ℕ) where
  pub used_now : (x : Option SubscriberView) (acts : List OwnAct) (y : SubscriberView) → ((z : SubscriberView) → x ≡ Some z → IsInUseAt z)
      → own_run_over n slot x acts ≡ Some y → IsInUseAt y
  used_now (Some x) acts y u at =
      subst IsInUseAt (same_Some (run x acts) y (sym (runs n slot x acts) ∙ at)) (used_run stays sounds clocks x acts (u x refl))
  used_now None [] y u at = absurd (cc at)
  used_now None (OwnItem item ∷ acts) y u at = used_now None acts y u at
  used_now None (OwnVector v ∷ acts) y u at = used_now None acts y u at
  used_now None (OwnProfile p ∷ acts) y u at =
      let x : SubscriberView = fresh_subscriber n slot p in
      subst IsInUseAt (same_Some (run x acts) y (sym (runs n slot x acts) ∙ at)) (used_run stays sounds clocks x acts (begun x.setting))

-- ---- over items

-- what is gathered over a list of items
abbrev pub along : {A : Type 0} → (Solo → Draft → List A) → Setting → Solo → List Item → List A
along f s solo [] = []
along f s solo (item ∷ items) = f solo (solo_step s solo item) ++ along f s (solo_step s solo item).solo items

pub after_push : (s : Setting) (solo : Solo) (items : List Item) (item : Item)
    → solo_after s solo (items ++ item ∷ []) ≡ (solo_step s (solo_after s solo items) item).solo
after_push s solo [] item = refl
after_push s solo (i ∷ items) item = after_push s (solo_step s solo i).solo items item

pub along_push : {A : Type 0} (f : Solo → Draft → List A) (s : Setting) (solo : Solo) (items : List Item) (item : Item)
    → along f s solo (items ++ item ∷ [])
    ≡ along f s solo items ++ f (solo_after s solo items) (solo_step s (solo_after s solo items) item)
along_push f s solo [] item = append-nil (f solo (solo_step s solo item))
along_push {A} f s solo (i ∷ items) item =
    let d = solo_step s solo i in
    ap (λ (zs : List A). f solo d ++ zs) (along_push f s d.solo items item)
    ∙ sym (append_assoc (f solo d) (along f s d.solo items) (f (solo_after s d.solo items) (solo_step s (solo_after s d.solo items) item)))

-- at each of a list of items the step is the same with further vectors
abbrev pub GoesOnAlong : Setting → Solo → List Item → Type 0
GoesOnAlong s solo [] = Unit {0}
GoesOnAlong s solo (item ∷ items) = GoesOn s solo item × GoesOnAlong s (solo_step s solo item).solo items

on_push : (s : Setting) (solo : Solo) (items : List Item) (item : Item) → GoesOnAlong s solo items → GoesOn s (solo_after s solo items) item
    → GoesOnAlong s solo (items ++ item ∷ [])
on_push s solo [] item h on = (on, tt)
on_push s solo (i ∷ items) item h on = (h.0, on_push s (solo_step s solo i).solo items item h.1 on)

goes_longer : (v : Vector) (s : Setting) (solo : Solo) (item : Item) → GoesOn s solo item → GoesOn (giving v s) solo item
goes_longer v s solo item h more =
    ap (λ (vs : List Vector). solo_step (having vs s) solo item) (append_assoc s.vectors (v ∷ []) more)
    ∙ h (v ∷ more) ∙ sym (h (v ∷ []))

on_longer : (v : Vector) (s : Setting) (solo : Solo) (items : List Item) → GoesOnAlong s solo items → GoesOnAlong (giving v s) solo items
on_longer v s solo [] h = tt
on_longer v s solo (item ∷ items) h = (
  goes_longer v s solo item h.0,
  subst (λ (d : Draft). GoesOnAlong (giving v s) d.solo items) (sym (h.0 (v ∷ []))) (on_longer v s (solo_step s solo item).solo items h.1),
)

after_longer : (v : Vector) (s : Setting) (solo : Solo) (items : List Item) → GoesOnAlong s solo items
    → solo_after (giving v s) solo items ≡ solo_after s solo items
after_longer v s solo [] h = refl
after_longer v s solo (item ∷ items) h =
    ap (λ (d : Draft). solo_after (giving v s) d.solo items) (h.0 (v ∷ [])) ∙ after_longer v s (solo_step s solo item).solo items h.1

pub along_longer : {A : Type 0} (f : Solo → Draft → List A) (v : Vector) (s : Setting) (solo : Solo) (items : List Item)
    → GoesOnAlong s solo items → along f (giving v s) solo items ≡ along f s solo items
along_longer f v s solo [] h = refl
along_longer {A} f v s solo (item ∷ items) h =
    ap (λ (d : Draft). f solo d ++ along f (giving v s) d.solo items) (h.0 (v ∷ []))
    ∙ ap (λ (zs : List A). f solo (solo_step s solo item) ++ zs) (along_longer f v s (solo_step s solo item).solo items h.1)

-- ---- a stretch

-- from a state on over the items that were seen since: with the vectors of now the machine is as it is
pub record IsStretch (x : SubscriberView) (b : Solo) (seen : List Item) : Type 0 where
  pub used : IsInUse b
  pub sound : IsSound x.setting b
  pub on : GoesOnAlong x.setting b seen
  pub state : x.solo ≡ solo_after x.setting b seen

pub stretch_begun : (x : SubscriberView) → IsInUseAt x → IsStretch x x.solo []
stretch_begun x h = record { used = h.used; sound = h.sound; on = tt; state = refl }

pub stretch_given : (v : Vector) (x : SubscriberView) (b : Solo) (seen : List Item) → IsStretch x b seen
    → IsStretch (with_given v x) b seen
stretch_given v x b seen h = record {
  used = h.used;
  sound = sound_longer (v ∷ []) x.setting b h.sound;
  on = on_longer v x.setting b seen h.on;
  state = h.state ∙ sym (after_longer v x.setting b seen h.on);
}

pub stretch_item : (x : SubscriberView) (b : Solo) (seen : List Item) (item : Item) → IsStretch x b seen → GoesOn x.setting x.solo item
    → IsStretch (subscriber_after x item) b (seen ++ item ∷ [])
stretch_item x b seen item h on = record {
  used = h.used;
  sound = h.sound;
  on = on_push x.setting b seen item h.on (subst (λ (o : Solo). GoesOn x.setting o item) h.state on);
  state = ap (λ (o : Solo). (solo_step x.setting o item).solo) h.state ∙ sym (after_push x.setting b seen item);
}
