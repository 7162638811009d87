-- What is fresh, who is let in and what ends over every list of acts of an MME, of each slot.
use Rattle.std.proofs.Common.{◌≡◌, ℕ, List, [], ◌∷◌, ◌++◌, All, Option, Some, None, refl, sym, ◌∙◌, ap, subst}
use Rattle.std.specs.Prelude.{slice_get}
use Rattle.std.specs.List.{AllZip}
use Rattle.std.proofs.lemmas.List.Elements.{All-nil}
use Rattle.mme_types.specs.declared.network.Network.{Network}
use Rattle.emm_state.specs.declared.setting.Setting.{Setting}
use Rattle.emm_state.specs.declared.solo.Solo.{Solo}
use Rattle.emm_machine.specs.Freshness.{AcceptsAhead, AcceptsOnce, IsInUse, MakesAhead, MakesOnce, SendsAhead, SendsOnce, StaysInUse}
use Rattle.emm_machine.specs.SubscriberView.{SubscriberView}
use Rattle.emm_machine.specs.Words.{fresh_solo}
use Rattle.laws_subscriber.specs.Clocked.{IsClocked, StaysClocked}
use Rattle.laws_subscriber.specs.Keys.{KeysToTheProved}
use Rattle.laws_subscriber.specs.Marked.{IsFormUnder, IsMarked, SendsInOrder, SendsMarked}
use Rattle.laws_subscriber.specs.Proof.{RegisteredByProof}
use Rattle.laws_subscriber.specs.Silent.{SilentEnds, SilentIsForgotten}
use Rattle.laws_subscriber.specs.Sound.{IsSound, StaysSound}
use Rattle.laws_subscriber.specs.Unproved.{UnprovedLeaves}
use Rattle.mme_core.specs.Kept.{BeginsKept, IsKept}
use Rattle.mme_core.specs.Laws.{GoesAlone, RepliesSo}
use Rattle.mme_core.specs.Projection.{Told, is_slot, told_in}
use Rattle.mme_core.specs.Provisioning.{fresh_subscriber}
use Rattle.mme_core.specs.World.{World, fresh_world, strangers_in, subscriber_step}
use Rattle.laws_mme.specs.Acts.{Act, ActsKeep, act_after, act_reply, acts_run}
use Rattle.laws_mme.specs.ActsAlone.{OwnAct, OwnItem, OwnProfile, OwnVector, SlotGoesAloneOverActs, own_act, own_acts, own_after, own_run_over, own_sent}
use Rattle.laws_mme.specs.EndingActs.{ActsEnd, AllEndsAfterActs}
use Rattle.laws_mme.specs.GuardedActs.{ActsAreGuarded, EverybodyHasProved, IsAway, forms_at, vectors_in}
use Rattle.laws_mme.specs.EndingWorlds.{AllEndsInTime}
use Rattle.laws_mme.specs.Handed.{AreFresh, Handing}
use Rattle.laws_mme.specs.KeysOfMme.{connection_of, handed_told}
use Rattle.laws_mme.specs.KeysOverActs.{ActsHandOutFreshKeys, handed_over}
use Rattle.laws_mme.specs.OverActs.{ActsAreFresh, answers_at, at_act, over_acts, sent_marks_at}
use Rattle.laws_mme.proofs.ActsAlone.{own_on}
use Rattle.laws_mme.proofs.Challenges.{vectors_over_runs}
use Rattle.laws_mme.proofs.EndsOver.{ending_over}
use Rattle.laws_mme.proofs.FreshOver.{accepted_kind, fresh_over, made_kind, sent_kind}
use Rattle.laws_mme.proofs.GuardedOver.{in_order_over, marked_over}
use Rattle.laws_mme.proofs.Guards.{IsInUseAt, in_use_at}
use Rattle.laws_mme.proofs.KeyRows.{ShortIsFresh, WholeIsFresh}
use Rattle.laws_mme.proofs.KeyRuns.{WhatIsEncoded}
use Rattle.laws_mme.proofs.KeysOfMme.{fresh_at, told_same}
use Rattle.laws_mme.proofs.KeysOver.{handed_at, keys_fresh_over}
use Rattle.laws_mme.proofs.Late.{goes_on_or_ran_out}
use Rattle.laws_mme.proofs.Looks.{vectors_may_come_late}
use Rattle.laws_mme.proofs.ProvedOver.{keys_now, proved_now}
use Rattle.laws_mme.proofs.SlotAtAct.{slot_act, slot_told_act}
use Rattle.laws_mme.proofs.Stretches.{runs, used_now}

abbrev pub BegunInUse : Type 0
BegunInUse = (s : Setting) → IsInUseAt (record { setting = s; solo = fresh_solo })

pub begun_in_use : IsInUse fresh_solo → ((s : Setting) → IsSound s fresh_solo) → IsClocked fresh_solo → BegunInUse
begun_in_use used sound clocked s = record { used = used; sound = sound s; clocked = clocked }

-- who is there of an MME that is kept is in use
used_in : (w : World) (slot : ℕ) → IsKept w → (x : SubscriberView) → slice_get w.subscribers slot ≡ Some x → IsInUseAt x
used_in w slot h x at = in_use_at w.subscribers slot x h.in_use at

module _ (stays : StaysInUse) (sounds : StaysSound) (clocks : StaysClocked) (begun : BegunInUse) where
  pub acts_are_fresh : SendsAhead → SendsOnce → AcceptsAhead → AcceptsOnce → MakesAhead → MakesOnce → SendsInOrder → ActsAreFresh
  acts_are_fresh sends once accepts accepts_once makes makes_once orders w acts slot h =
      fresh_over goes_on_or_ran_out stays sounds clocks vectors_over_runs (sent_kind sends once orders)
      (accepted_kind accepts accepts_once sounds) (made_kind makes makes_once sounds) begun w.sight.config.network slot
      (slice_get w.subscribers slot) (own_acts slot w acts) (used_in w slot h)

  -- ---- who is let in

  module _ (n : Network) (slot : ℕ) where
    marked_now : SendsMarked → (x : Option SubscriberView) (acts : List OwnAct) → ((z : SubscriberView) → x ≡ Some z → IsInUseAt z)
        → All (IsMarked (vectors_in (own_run_over n slot x acts))) (over_acts answers_at n slot x acts)
    marked_now marks (Some x) acts u =
        subst (λ (o : Option SubscriberView). All (IsMarked (vectors_in o)) (over_acts answers_at n slot (Some x) acts))
        (sym (runs n slot x acts)) (marked_over stays sounds clocks n slot marks x acts (u x refl))
    marked_now marks None [] u = All-nil (IsMarked [])
    marked_now marks None (OwnItem item ∷ acts) u = marked_now marks None acts u
    marked_now marks None (OwnVector v ∷ acts) u = marked_now marks None acts u
    marked_now marks None (OwnProfile p ∷ acts) u =
        let x : SubscriberView = fresh_subscriber n slot p in
        subst (λ (o : Option SubscriberView). All (IsMarked (vectors_in o)) (over_acts answers_at n slot (Some x) acts))
        (sym (runs n slot x acts)) (marked_over stays sounds clocks n slot marks x acts (begun x.setting))

    ordered_now : SendsInOrder → (x : Option SubscriberView) (acts : List OwnAct) → ((z : SubscriberView) → x ≡ Some z → IsInUseAt z)
        → AllZip (IsFormUnder (vectors_in (own_run_over n slot x acts))) (over_acts sent_marks_at n slot x acts)
        (over_acts forms_at n slot x acts)
    ordered_now orders (Some x) acts u =
        subst (λ (o : Option SubscriberView). AllZip (IsFormUnder (vectors_in o)) (over_acts sent_marks_at n slot (Some x) acts) (over_acts forms_at n slot (Some x) acts))
        (sym (runs n slot x acts)) (in_order_over stays sounds clocks n slot orders x acts (u x refl))
    ordered_now orders None [] u = tt
    ordered_now orders None (OwnItem item ∷ acts) u = ordered_now orders None acts u
    ordered_now orders None (OwnVector v ∷ acts) u = ordered_now orders None acts u
    ordered_now orders None (OwnProfile p ∷ acts) u =
        let x : SubscriberView = fresh_subscriber n slot p in
        subst (λ (o : Option SubscriberView). AllZip (IsFormUnder (vectors_in o)) (over_acts sent_marks_at n slot (Some x) acts) (over_acts forms_at n slot (Some x) acts))
        (sym (runs n slot x acts)) (in_order_over stays sounds clocks n slot orders x acts (begun x.setting))

  pub acts_are_guarded : SendsMarked → SendsInOrder → RegisteredByProof → KeysToTheProved → UnprovedLeaves → ActsAreGuarded
  acts_are_guarded marks orders proves gives leaves w acts slot h =
      let n = w.sight.config.network in
      let x = slice_get w.subscribers slot in
      let u = used_in w slot h in
      record {
        marked = marked_now n slot marks x (own_acts slot w acts) u;
        in_order = ordered_now n slot orders x (own_acts slot w acts) u;
        proved = λ seen unseen y whole away at past.
            proved_now goes_on_or_ran_out stays sounds clocks proves begun n slot x seen y u away at past;
        keys = λ seen unseen item y whole at.
            gives y.setting y.solo item (used_now stays sounds clocks begun n slot x seen y u at).sound;
        keys_by_proof = λ seen unseen item y whole away at.
            keys_now goes_on_or_ran_out stays sounds clocks proves begun n slot gives x seen y item u away at;
        unproved = λ seen unseen item y whole at k. leaves y.setting y.solo k item;
      }

  -- who begins is away
  away_at : (o : Option SubscriberView) → ((x : SubscriberView) → o ≡ Some x → x.solo ≡ fresh_solo) → IsAway o
  away_at None new = tt
  away_at (Some x) new = subst (λ (b : Solo). b.phase ≡ fresh_solo.phase) (sym (new x refl)) refl

  pub everybody_has_proved : RegisteredByProof → SlotGoesAloneOverActs → BeginsKept → EverybodyHasProved
  everybody_has_proved proves goes begins config p acts slot y at past =
      let w : World = fresh_world config p in
      let x = slice_get w.subscribers slot in
      proved_now goes_on_or_ran_out stays sounds clocks proves begun config.network slot x (own_acts slot w acts) y
      (used_in w slot (begins config p))
      (away_at x (λ z there. fresh_at config.network 0 p.profiles p.vectors slot z there))
      (sym (goes w acts slot (begins config p)) ∙ at) past

  -- ---- what ends

  pub acts_end : SilentEnds → SilentIsForgotten → ActsEnd
  acts_end ends forgets w acts slot h =
      let n = w.sight.config.network in
      let x = slice_get w.subscribers slot in
      ending_over (vectors_may_come_late sounds) sounds ends forgets n slot x (own_acts slot w acts)
      (λ seen y at. used_now stays sounds clocks begun n slot x seen y (used_in w slot h) at)

-- ---- radio keys

-- at an act they are those of the slot's own act
handed_once : (n : Network) (slot : ℕ) (x : Option SubscriberView) (own : OwnAct)
    → handed_told (connection_of (own_after n slot x own)) (own_sent x own) ≡ at_act handed_at x own
handed_once n slot None (OwnItem item) = refl
handed_once n slot None (OwnVector v) = refl
handed_once n slot None (OwnProfile p) = refl
handed_once n slot (Some x) (OwnItem item) = let d = subscriber_step x item in told_same d.solo.connection d.sent
handed_once n slot (Some x) (OwnVector v) = refl
handed_once n slot (Some x) (OwnProfile p) = refl

-- what a slot is told is what its machine sends
handed_alone : RepliesSo → GoesAlone → ActsKeep → (w : World) (acts : List Act) (slot : ℕ) → IsKept w
    → handed_over slot w acts
    ≡ over_acts handed_at w.sight.config.network slot (slice_get w.subscribers slot) (own_acts slot w acts)
handed_alone so goes keeps w [] slot h = refl
handed_alone so goes keeps w (act ∷ acts) slot h =
    let u : World = act_after w act in
    let n = w.sight.config.network in
    let x = slice_get w.subscribers slot in
    let own = own_act slot w.sight (strangers_in w) act in
    ap (λ (y : Option SubscriberView). handed_told (connection_of y) (told_in (is_slot slot) (act_reply w act)) ++ handed_over slot u acts)
    (slot_act goes w act slot h)
    ∙ ap (λ (sent : List Told). handed_told (connection_of (own_after n slot x own)) sent ++ handed_over slot u acts)
    (slot_told_act so w act slot h.rising)
    ∙ ap (λ (hs : List Handing). hs ++ handed_over slot u acts) (handed_once n slot x own)
    ∙ ap (λ (hs : List Handing). at_act handed_at x own ++ hs)
    (handed_alone so goes keeps u acts slot (keeps w (act ∷ []) h)
    ∙ own_on (λ m y mine. over_acts handed_at m slot y mine) goes w act acts slot h)

pub acts_hand_out_fresh_keys : WholeIsFresh → ShortIsFresh → WhatIsEncoded → RepliesSo → GoesAlone → ActsKeep → SlotGoesAloneOverActs
    → BeginsKept → ActsHandOutFreshKeys
acts_hand_out_fresh_keys whole short what so goes keeps leaves begins config p acts slot =
    let w : World = fresh_world config p in
    let kept : IsKept w = begins config p in
    subst (λ (x : Option SubscriberView). AreFresh (vectors_in x) (handed_over slot w acts)) (sym (leaves w acts slot kept))
    (subst (AreFresh (vectors_in (own_run_over config.network slot (slice_get w.subscribers slot) (own_acts slot w acts))))
    (sym (handed_alone so goes keeps w acts slot kept))
    (keys_fresh_over whole short what config.network slot (slice_get w.subscribers slot) (own_acts slot w acts)
    (λ y there. fresh_at config.network 0 p.profiles p.vectors slot y there)))

-- ---- what ends of everybody

pub all_ends_after : ActsKeep → AllEndsInTime → AllEndsAfterActs
all_ends_after keeps ends w acts n h has long = ends (acts_run w acts) n (keeps w acts h) has long
