-- What comes to an end of a subscriber, from each place of its run on.
use Rattle.std.proofs.Common.{◌≡◌, List, [], ◌∷◌, ◌++◌, refl, sym, subst}
use Rattle.mme_types.specs.Events.{Item}
use Rattle.emm_state.specs.declared.setting.Setting.{Setting}
use Rattle.emm_state.specs.declared.solo.Phase.TheVariants.{Deregistered}
use Rattle.emm_state.specs.declared.solo.Solo.{Solo}
use Rattle.emm_machine.specs.Steps.{solo_after, solo_step}
use Rattle.emm_machine.specs.SubscriberView.{SubscriberView}
use Rattle.laws_subscriber.specs.Clocked.{IsClocked, StaysClocked}
use Rattle.laws_subscriber.specs.Ends.{IsSettled}
use Rattle.laws_subscriber.specs.Silent.{SilentEnds, SilentIsForgotten}
use Rattle.mme_core.specs.EndingRuns.{IsEndingRun}

after_both : (s : Setting) (solo : Solo) (before since : List Item)
    → solo_after s solo (before ++ since) ≡ solo_after s (solo_after s solo before) since
after_both s solo [] since = refl
after_both s solo (item ∷ before) since = after_both s (solo_step s solo item).solo before since

pub ending_run : StaysClocked → SilentEnds → SilentIsForgotten → (w : SubscriberView) (items : List Item) → IsClocked w.solo
    → IsEndingRun w items
ending_run stays ends forgets w items h =
    let at = λ (seen : List Item). solo_after w.setting w.solo seen in
    let clocked = λ (seen : List Item). stays w.setting w.solo seen h in record {
      clocked = λ seen unseen whole. clocked seen;
      settled = λ seen silent unseen whole quiet long.
          subst IsSettled (sym (after_both w.setting w.solo seen silent))
          (ends w.setting (at seen) silent (clocked seen) quiet long);
      forgotten = λ seen silent unseen whole quiet idle long.
          subst (λ (x : Solo). x.phase ≡ Deregistered) (sym (after_both w.setting w.solo seen silent))
          (forgets w.setting (at seen) silent (clocked seen) quiet idle long);
    }
