-- What ends over the acts of a slot: a phone that is silent asks for no vector, so those that come change nothing.
use Rattle.std.proofs.Common.{◌≡◌, ℕ, true, List, [], ◌∷◌, ◌++◌, Option, Some, None, refl, sym, ◌∙◌, ap, subst}
use Rattle.std.proofs.lemmas.Option.{same_Some}
use Rattle.identity_slots.specs.declared.profile.Vector.{Vector}
use Rattle.mme_types.specs.declared.network.Network.{Network}
use Rattle.mme_types.specs.Events.{Item, Nothing, Initial, Claim, Message, Displaced, StationGone, ConnectionsGone, Tick, Data, Cancel}
use Rattle.emm_state.specs.declared.setting.Setting.{Setting}
use Rattle.emm_state.specs.declared.solo.Phase.{Phase}
use Rattle.emm_state.specs.declared.solo.Phase.TheVariants.{Authenticating, Deregistered}
use Rattle.emm_state.specs.declared.solo.Solo.{Solo}
use Rattle.emm_machine.specs.Given.{is_stocked}
use Rattle.emm_machine.specs.Steps.{solo_after, solo_step}
use Rattle.emm_machine.specs.SubscriberView.{SubscriberView}
use Rattle.laws_subscriber.specs.Choices.{either}
use Rattle.laws_subscriber.specs.Ends.{IsSettled}
use Rattle.laws_subscriber.specs.Silent.{AreSilent, SilentEnds, SilentIsForgotten, is_silent}
use Rattle.laws_subscriber.specs.Sound.{IsSound, StaysSound}
use Rattle.mme_core.specs.World.{subscriber_after}
use Rattle.laws_mme.specs.ActsAlone.{OwnAct, OwnItem, OwnProfile, OwnVector, own_after, own_run_over}
use Rattle.laws_mme.specs.Challenges.{fails_to_synchronise}
use Rattle.laws_mme.specs.EndingActs.{IsEndingOver, items_in}
use Rattle.laws_mme.specs.Looks.{HasOneLeft, NeverRunsOut, VectorsMayComeLate}
use Rattle.laws_mme.proofs.Guards.{IsInUseAt}
use Rattle.laws_mme.proofs.Stretches.{run, runs, sound_taking, taking}

-- ---- a silent phone asks for no vector

no_nas : (phase : Phase) → fails_to_synchronise phase None ≡ true → ⊥
no_nas Authenticating fails = cc fails
no_nas _ fails = cc fails

silent_left : (vs : List Vector) (solo : Solo) (item : Item) → is_silent item ≡ true → HasOneLeft vs solo item
silent_left vs solo Nothing silent may = absurd (no_nas solo.phase may)
silent_left vs solo (Initial m) silent may = absurd (cc silent)
silent_left vs solo (Claim id m) silent may = absurd (cc silent)
silent_left vs solo (Message m) silent may = absurd (cc silent)
silent_left vs solo (Displaced id) silent may = absurd (no_nas solo.phase may)
silent_left vs solo (StationGone station) silent may = absurd (no_nas solo.phase may)
silent_left vs solo (ConnectionsGone station items) silent may = absurd (no_nas solo.phase may)
silent_left vs solo Tick silent may = absurd (no_nas solo.phase may)
silent_left vs solo (Data stations) silent may = absurd (cc silent)
silent_left vs solo Cancel silent may = absurd (cc silent)

never_silent : (s : Setting) (solo : Solo) (items : List Item) → AreSilent items → NeverRunsOut s solo items
never_silent s solo [] quiet = tt
never_silent s solo (item ∷ items) quiet =
    (silent_left s.vectors solo item quiet.0, never_silent s (solo_step s solo item).solo items quiet.1)

-- its machine over acts is that over their items
module _ (late : VectorsMayComeLate) (sounds : StaysSound) where
  silent_same : (x : SubscriberView) (acts : List OwnAct) → IsSound x.setting x.solo → AreSilent (items_in acts)
      → (run x acts).solo ≡ solo_after x.setting x.solo (items_in acts)
  silent_same x [] sound quiet = refl
  silent_same x (OwnItem item ∷ acts) sound quiet =
      silent_same (subscriber_after x item) acts (sounds x.setting x.solo (item ∷ []) sound) quiet.1
  silent_same x (OwnVector v ∷ acts) sound quiet =
      silent_same (taking v x) acts (sound_taking v x sound) quiet
      ∙ either (λ (y : SubscriberView). solo_after y.setting y.solo (items_in acts) ≡ solo_after x.setting x.solo (items_in acts))
      (is_stocked x) refl (late x.setting (v ∷ []) x.solo (items_in acts) sound (never_silent x.setting x.solo (items_in acts) quiet)).state
  silent_same x (OwnProfile p ∷ acts) sound quiet = silent_same x acts sound quiet

-- ---- over the acts of a slot

over_both : (n : Network) (slot : ℕ) (x : Option SubscriberView) (seen since : List OwnAct)
    → own_run_over n slot x (seen ++ since) ≡ own_run_over n slot (own_run_over n slot x seen) since
over_both n slot x [] since = refl
over_both n slot x (act ∷ seen) since = over_both n slot (own_after n slot x act) seen since

module _ (late : VectorsMayComeLate) (sounds : StaysSound) (ends : SilentEnds) (forgets : SilentIsForgotten) where
  silent_state : (n : Network) (slot : ℕ) (x : Option SubscriberView) (seen silent : List OwnAct) (y z : SubscriberView)
      → own_run_over n slot x seen ≡ Some y → own_run_over n slot x (seen ++ silent) ≡ Some z → IsInUseAt y → AreSilent (items_in silent)
      → z.solo ≡ solo_after y.setting y.solo (items_in silent)
  silent_state n slot x seen silent y z at later u quiet =
      let last : own_run_over n slot x (seen ++ silent) ≡ Some (run y silent) =
      over_both n slot x seen silent ∙ ap (λ (o : Option SubscriberView). own_run_over n slot o silent) at ∙ runs n slot y silent in
      let same : z ≡ run y silent = same_Some z (run y silent) (sym later ∙ last) in
      ap (λ (w : SubscriberView). w.solo) same ∙ silent_same late sounds y silent u.sound quiet

  pub ending_over : (n : Network) (slot : ℕ) (x : Option SubscriberView) (acts : List OwnAct)
      → ((seen : List OwnAct) (y : SubscriberView) → own_run_over n slot x seen ≡ Some y → IsInUseAt y)
      → IsEndingOver n slot x acts
  ending_over n slot x acts used = record {
    clocked = λ seen unseen y whole at. (used seen y at).clocked;
    settled = λ seen silent unseen y z whole at later quiet long.
        let u = used seen y at in
        subst IsSettled (sym (silent_state n slot x seen silent y z at later u quiet))
        (ends y.setting y.solo (items_in silent) u.clocked quiet long);
    forgotten = λ seen silent unseen y z whole at later quiet idle long.
        let u = used seen y at in
        subst (λ (o : Solo). o.phase ≡ Deregistered) (sym (silent_state n slot x seen silent y z at later u quiet))
        (forgets y.setting y.solo (items_in silent) u.clocked quiet idle long);
  }
