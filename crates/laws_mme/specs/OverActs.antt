-- What a slot's machine sends and accepts over a list of its acts, whatever it is given meanwhile, and what of it is fresh, in the
-- words of runs over items (`IsFreshRun`).
use Rattle.std.specs.Prelude.{◌≤◌, ◌<◌, ℕ, List, [], ◌∷◌, ◌++◌, All, AllPairs, Option, Some, None, option_to_list, slice_get}
use Rattle.mme_types.specs.declared.network.Network.{Network}
use Rattle.mme_types.specs.declared.octets.Answer.{Answer}
use Rattle.mme_types.specs.declared.octets.Mark.{Mark}
use Rattle.emm_state.specs.declared.draft.Draft.{Draft}
use Rattle.emm_state.specs.declared.solo.Context.{Context}
use Rattle.emm_state.specs.declared.solo.Solo.{Solo}
use Rattle.emm_machine.specs.Freshness.{IsAhead, IsBefore, marks_of, next_down, next_place, next_up, place_made}
use Rattle.emm_machine.specs.SubscriberView.{SubscriberView}
use Rattle.mme_core.specs.Kept.{IsKept}
use Rattle.mme_core.specs.World.{World, subscriber_step}
use Rattle.laws_mme.specs.Acts.{Act}
use Rattle.laws_mme.specs.ActsAlone.{OwnAct, OwnItem, OwnProfile, OwnVector, own_acts, own_after}

-- ---- over a list of acts

-- what is gathered at an act, of the state before a step and of the step: nothing at a gift, nor while the slot isn't provisioned
abbrev pub at_act : {A : Type 0} → (Solo → Draft → List A) → Option SubscriberView → OwnAct → List A
at_act f None act = []
at_act f (Some x) (OwnItem item) = f x.solo (subscriber_step x item)
at_act f (Some x) (OwnVector v) = []
at_act f (Some x) (OwnProfile p) = []

-- and at each of a list, in a row
abbrev pub over_acts : {A : Type 0} → (Solo → Draft → List A) → Network → ℕ → Option SubscriberView → List OwnAct → List A
over_acts f n slot x [] = []
over_acts f n slot x (act ∷ acts) = at_act f x act ++ over_acts f n slot (own_after n slot x act) acts

-- the messages that are sent
abbrev pub answers_at : Solo → Draft → List Answer
answers_at solo d = d.sent

-- what they are sent under
abbrev pub sent_marks_at : Solo → Draft → List Mark
sent_marks_at solo d = marks_of d.sent

-- what is accepted under
abbrev pub accepted_marks_at : Solo → Draft → List Mark
accepted_marks_at solo d = option_to_list d.accepted

-- the places of the vectors that become contexts
abbrev pub places_made_at : Solo → Draft → List ℕ
places_made_at solo d = place_made solo.context d.solo.context (marks_of d.sent)

-- ---- what is fresh

-- of who isn't provisioned yet every pair may yet come
abbrev pub IsAheadOf : (Context → ℕ) → Option SubscriberView → Mark → Type 0
IsAheadOf next None m = Unit {0}
IsAheadOf next (Some x) m = IsAhead next x.solo m

-- the least place of a vector that may yet become a context
abbrev pub least_place : Option SubscriberView → ℕ
least_place None = 0
least_place (Some x) = next_place x.solo.phase x.solo.next_vector

pub record IsFreshOver (n : Network) (slot : ℕ) (x : Option SubscriberView) (acts : List OwnAct) : Type 0 where
  pub sent_ahead : All (IsAheadOf next_down x) (over_acts sent_marks_at n slot x acts)
  pub sent_once : AllPairs IsBefore (over_acts sent_marks_at n slot x acts)
  pub accepted_ahead : All (IsAheadOf next_up x) (over_acts accepted_marks_at n slot x acts)
  pub accepted_once : AllPairs IsBefore (over_acts accepted_marks_at n slot x acts)
  pub made_ahead : All (λ place. least_place x ≤ place) (over_acts places_made_at n slot x acts)
  pub made_once : AllPairs ◌<◌ (over_acts places_made_at n slot x acts)

-- the network, the machine and the acts of a slot: what a law over acts speaks of
abbrev pub OfSlot : (Network → ℕ → Option SubscriberView → List OwnAct → Type 0) → World → List Act → ℕ → Type 0
OfSlot Law w acts slot = Law w.sight.config.network slot (slice_get w.subscribers slot) (own_acts slot w acts)

-- over every list of acts of an MME, whoever is added and whatever is given meanwhile
abbrev pub ActsAreFresh : Type 0
ActsAreFresh = (w : World) (acts : List Act) (slot : ℕ) → IsKept w → OfSlot IsFreshOver w acts slot
