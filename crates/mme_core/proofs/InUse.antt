-- Subscribers in use stay so.
use Rattle.std.proofs.Common.{◌≡◌, ℕ, zero, suc, ◌+◌, List, [], ◌∷◌, Some, subst}
use Rattle.std.specs.Prelude.{slice_get}
use Rattle.identity_slots.specs.declared.profile.Profile.{Profile}
use Rattle.identity_slots.specs.declared.profile.Vector.{Vector}
use Rattle.mme_types.specs.declared.network.Network.{Network}
use Rattle.mme_types.specs.Events.{Item}
use Rattle.emm_state.specs.declared.setting.Setting.{Setting}
use Rattle.emm_machine.specs.Freshness.{IsInUse, StaysInUse}
use Rattle.emm_machine.specs.SubscriberView.{SubscriberView}
use Rattle.emm_machine.specs.Words.{fresh_solo}
use Rattle.laws_subscriber.specs.Sound.{IsSound, StaysSound}
use Rattle.laws_subscriber.specs.Clocked.{IsClocked, StaysClocked}
use Rattle.mme_core.specs.FreshRuns.{AreInUse}
use Rattle.mme_core.specs.World.{each_after, fresh_subscribers}

pub each_in_use : StaysInUse → StaysSound → StaysClocked → (items : ℕ → Item) (n : ℕ) (ws : List SubscriberView) → AreInUse ws
    → AreInUse (each_after items n ws)
each_in_use used sound clocked items n [] h = tt
each_in_use used sound clocked items n (w ∷ ws) h = (
  used w.setting w.solo (items n ∷ []) h.0,
  sound w.setting w.solo (items n ∷ []) h.1,
  clocked w.setting w.solo (items n ∷ []) h.2,
  each_in_use used sound clocked items (n + 1) ws h.3,
)

pub fresh_in_use : IsInUse fresh_solo → ((s : Setting) → IsSound s fresh_solo) → IsClocked fresh_solo
    → (n : Network) (slot : ℕ) (ps : List Profile) (vs : List (List Vector)) → AreInUse (fresh_subscribers n slot ps vs)
fresh_in_use used sound clocked n slot [] vs = tt
fresh_in_use used sound clocked n slot (p ∷ ps) vs = (used, sound _, clocked, fresh_in_use used sound clocked n (slot + 1) ps vs)

-- of one of them
pub record IsInUseAt (w : SubscriberView) : Type 0 where
  pub used : IsInUse w.solo
  pub sound : IsSound w.setting w.solo
  pub clocked : IsClocked w.solo

pub in_use_at : (ws : List SubscriberView) (k : ℕ) (w : SubscriberView) → AreInUse ws → slice_get ws k ≡ Some w → IsInUseAt w
in_use_at [] k w h at = cc
in_use_at (x ∷ ws) zero w h at =
    let here : x ≡ w = cc in
    subst IsInUseAt here (record { used = h.0; sound = h.1; clocked = h.2 })
in_use_at (x ∷ ws) (suc k) w h at = in_use_at ws k w h.3 at
