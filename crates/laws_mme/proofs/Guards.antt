-- What is fresh, who is let in and what ends, of each slot.
use Rattle.std.proofs.Common.{◌≡◌, ℕ, zero, suc, List, [], ◌∷◌, ◌++◌, Some, refl, sym, subst}
use Rattle.std.specs.Prelude.{slice_get}
use Rattle.mme_types.specs.Events.{Item}
use Rattle.emm_state.specs.declared.setting.Setting.{Setting}
use Rattle.emm_state.specs.declared.solo.Phase.TheVariants.{Deregistered}
use Rattle.emm_state.specs.declared.solo.Solo.{Solo}
use Rattle.emm_machine.specs.Freshness.{AcceptsAhead, AcceptsOnce, IsInUse, MakesAhead, MakesOnce, SendsAhead, SendsOnce}
use Rattle.emm_machine.specs.Steps.{solo_after, solo_step}
use Rattle.emm_machine.specs.SubscriberView.{SubscriberView}
use Rattle.laws_subscriber.specs.Keys.{KeysByProof, KeysToTheProved}
use Rattle.laws_subscriber.specs.Marked.{SendsInOrder, SendsMarked}
use Rattle.laws_subscriber.specs.Proof.{RegisteredByProof}
use Rattle.laws_subscriber.specs.Sound.{IsSound, StaysSound}
use Rattle.laws_subscriber.specs.Unproved.{UnprovedLeaves}
use Rattle.laws_subscriber.specs.Clocked.{IsClocked, StaysClocked}
use Rattle.laws_subscriber.specs.Ends.{IsSettled}
use Rattle.laws_subscriber.specs.Silent.{SilentEnds, SilentIsForgotten}
use Rattle.mme_core.specs.FreshRuns.{AreInUse}
use Rattle.laws_mme.specs.OwnersAlone.{own_items}
use Rattle.laws_mme.specs.Guards.{RunEnds, RunIsFresh, RunIsGuarded}

-- ---- one of those in use

pub record IsInUseAt (x : SubscriberView) : Type 0 where
  pub used : IsInUse x.solo
  pub sound : IsSound x.setting x.solo
  pub clocked : IsClocked x.solo

pub in_use_at : (ws : List SubscriberView) (k : ℕ) (x : SubscriberView) → AreInUse ws → slice_get ws k ≡ Some x → IsInUseAt x
in_use_at [] k x h at = cc
in_use_at (y ∷ ws) zero x h at =
    let here : y ≡ x = cc in
    subst IsInUseAt here (record { used = h.0; sound = h.1; clocked = h.2 })
in_use_at (y ∷ ws) (suc k) x h at = in_use_at ws k x h.3 at

-- ---- what is fresh

pub run_is_fresh : SendsAhead → SendsOnce → AcceptsAhead → AcceptsOnce → MakesAhead → MakesOnce → RunIsFresh
run_is_fresh sends once accepts accepts_once makes makes_once w events slot x h at =
    let items = own_items slot w events in
    let own : IsInUse x.solo = (in_use_at w.subscribers slot x h.in_use at).used in
    record {
      sent_ahead = sends x.setting x.solo items own;
      sent_once = once x.setting x.solo items own;
      accepted_ahead = accepts x.setting x.solo items own;
      accepted_once = accepts_once x.setting x.solo items own;
      made_ahead = makes x.setting x.solo items own;
      made_once = makes_once x.setting x.solo items own;
    }

-- ---- who is let in

pub run_is_guarded : StaysSound → SendsMarked → SendsInOrder → RegisteredByProof → KeysToTheProved → KeysByProof → UnprovedLeaves
    → RunIsGuarded
run_is_guarded stays marks orders proves gives gives_by_proof leaves w events slot x h at =
    let items = own_items slot w events in
    let own : IsSound x.setting x.solo = (in_use_at w.subscribers slot x h.in_use at).sound in
    record {
      marked = marks x.setting x.solo items own;
      in_order = orders x.setting x.solo items own;
      proved = λ seen unseen whole away past. proves x.setting x.solo seen own away past;
      keys = λ seen unseen item whole. gives x.setting (solo_after x.setting x.solo seen) item (stays x.setting x.solo seen own);
      keys_by_proof = λ seen unseen item whole away. gives_by_proof x.setting x.solo seen item own away;
      unproved = λ seen unseen item whole k. leaves x.setting (solo_after x.setting x.solo seen) k item;
    }

-- ---- what ends

after_both : (s : Setting) (solo : Solo) (before since : List Item)
    → solo_after s solo (before ++ since) ≡ solo_after s (solo_after s solo before) since
after_both s solo [] since = refl
after_both s solo (item ∷ before) since = after_both s (solo_step s solo item).solo before since

pub run_ends : StaysClocked → SilentEnds → SilentIsForgotten → RunEnds
run_ends stays ends forgets w events slot x h at =
    let after = λ (seen : List Item). solo_after x.setting x.solo seen in
    let own : IsClocked x.solo = (in_use_at w.subscribers slot x h.in_use at).clocked in
    let clocked = λ (seen : List Item). stays x.setting x.solo seen own in
    record {
      clocked = λ seen unseen whole. clocked seen;
      settled = λ seen silent unseen whole quiet long.
          subst IsSettled (sym (after_both x.setting x.solo seen silent))
          (ends x.setting (after seen) silent (clocked seen) quiet long);
      forgotten = λ seen silent unseen whole quiet idle long.
          subst (λ (s : Solo). s.phase ≡ Deregistered) (sym (after_both x.setting x.solo seen silent))
          (forgets x.setting (after seen) silent (clocked seen) quiet idle long);
    }
