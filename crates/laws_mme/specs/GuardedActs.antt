-- What it takes to be let in, over the acts of a slot, whatever it is given meanwhile, in the words of runs over items
-- (`IsGuardedRun`).
use Rattle.std.specs.Prelude.{◌≡◌, ◌≢◌, ℕ, true, List, [], ◌∷◌, ◌++◌, All, slice_get, Option, Some, None, Ok}
use Rattle.std.specs.List.{AllZip}
use Rattle.s1ap_pdus.specs.declared.pdu.Pdu.{Pdu}
use Rattle.s1ap_pdus.specs.Pdus.{decoded}
use Rattle.identity_slots.specs.declared.profile.Vector.{Vector}
use Rattle.identity_slots.specs.Provisioned.{Provisioned}
use Rattle.mme_types.specs.declared.network.Network.{Network}
use Rattle.mme_types.specs.Events.{Item}
use Rattle.emm_state.specs.declared.draft.Draft.{Draft}
use Rattle.emm_state.specs.declared.solo.Context.{Context}
use Rattle.emm_state.specs.declared.solo.Phase.TheVariants.{Deregistered}
use Rattle.emm_state.specs.declared.solo.Solo.{Solo}
use Rattle.emm_machine.specs.SubscriberView.{SubscriberView}
use Rattle.laws_subscriber.specs.Keys.{HasKeyOf, has_radio_key}
use Rattle.laws_subscriber.specs.Marked.{IsFormUnder, IsMarked, protected_among}
use Rattle.laws_subscriber.specs.Proof.{Challenges, Completes, Responds}
use Rattle.laws_subscriber.specs.Sound.{is_past_proof}
use Rattle.mme_core.specs.declared.config.Config.{Config}
use Rattle.mme_core.specs.GuardedRuns.{GivesKeysToTheProved, LeavesTheRegistered}
use Rattle.mme_core.specs.Kept.{IsKept}
use Rattle.mme_core.specs.World.{World, fresh_world, subscriber_after, subscriber_step}
use Rattle.laws_mme.specs.Acts.{Act, acts_run}
use Rattle.laws_mme.specs.ActsAlone.{OwnAct, OwnItem, OwnProfile, OwnVector, own_acts, own_after, own_run_over}
use Rattle.laws_mme.specs.OverActs.{OfSlot, answers_at, over_acts, sent_marks_at}

-- ---- what a slot has

-- its vectors
abbrev pub vectors_in : Option SubscriberView → List Vector
vectors_in None = []
vectors_in (Some x) = x.setting.vectors

-- it isn't provisioned, or its phone is deregistered
abbrev pub IsAway : Option SubscriberView → Type 0
IsAway None = Unit {0}
IsAway (Some x) = x.solo.phase ≡ Deregistered

abbrev pub IsThere : Option SubscriberView → Type 0
IsThere None = ⊥
IsThere (Some x) = x.solo.phase ≢ Deregistered

-- the NAS messages with a security header among what is sent
abbrev pub forms_at : Solo → Draft → List (List ℕ)
forms_at solo d = protected_among d.sent

-- ---- the proof

-- at an item its machine challenges the phone by the vector at a place
abbrev pub ChallengesAt : ℕ → Vector → Option SubscriberView → Item → Type 0
ChallengesAt place v None item = ⊥
ChallengesAt place v (Some x) item = Challenges place v (subscriber_step x item)

-- after each of the items the phone is not deregistered
abbrev pub NeverAwayOver : Network → ℕ → Option SubscriberView → List OwnAct → Type 0
NeverAwayOver n slot x [] = Unit {0}
NeverAwayOver n slot x (OwnItem item ∷ acts) =
    IsThere (own_after n slot x (OwnItem item)) × NeverAwayOver n slot (own_after n slot x (OwnItem item)) acts
NeverAwayOver n slot x (OwnVector v ∷ acts) = NeverAwayOver n slot (own_after n slot x (OwnVector v)) acts
NeverAwayOver n slot x (OwnProfile p ∷ acts) = NeverAwayOver n slot (own_after n slot x (OwnProfile p)) acts

-- over the acts the phone has proved that it has the key of the vector at a place
pub record IsProvedOver (n : Network) (slot : ℕ) (x : Option SubscriberView) (acts : List OwnAct) (place : ℕ) : Type 0 where
  pub vector : Vector
  pub there : slice_get (vectors_in (own_run_over n slot x acts)) place ≡ Some vector
  pub before : List OwnAct
  pub challenge : Item
  pub between : List OwnAct
  pub response : Item
  pub waiting : List OwnAct
  pub completion : Item
  pub since : List OwnAct
  pub whole : acts ≡ before ++ OwnItem challenge ∷ between ++ OwnItem response ∷ waiting ++ OwnItem completion ∷ since
  pub challenged : ChallengesAt place vector (own_run_over n slot x before) challenge
  pub responded : Responds vector response
  pub completed : Completes vector completion
  pub throughout : NeverAwayOver n slot (own_run_over n slot x before)
      (OwnItem challenge ∷ between ++ OwnItem response ∷ waiting ++ OwnItem completion ∷ since)

-- who is past the proof has given it, with the key of the context that stands
abbrev pub IsProvedNow : Network → ℕ → Option SubscriberView → List OwnAct → SubscriberView → Type 0
IsProvedNow n slot x acts y = (c : Context) × (y.solo.context ≡ Some c) × IsProvedOver n slot x acts c.place

-- at an item of who is now `y`, a radio key goes only after the phone's proof that it has the key of that context
abbrev pub GivesKeysByProofOver : Network → ℕ → Option SubscriberView → List OwnAct → SubscriberView → Item → Type 0
GivesKeysByProofOver n slot x seen y item =
    All (λ a. (m : Pdu (List ℕ)) → decoded a.octets ≡ Ok m → has_radio_key m ≡ true
    → (c : Context) × ((subscriber_after y item).solo.context ≡ Some c) × HasKeyOf c m
    × IsProvedOver n slot x (seen ++ OwnItem item ∷ []) c.place)
    (subscriber_step y item).sent

pub record IsGuardedOver (n : Network) (slot : ℕ) (x : Option SubscriberView) (acts : List OwnAct) : Type 0 where
  -- every message that is sent decodes, and its NAS with a security header is the protected form under its mark, by the vectors
  -- that the slot has in the end
  pub marked : All (IsMarked (vectors_in (own_run_over n slot x acts))) (over_acts answers_at n slot x acts)
  -- those are, one for one and in order, the protected forms under the marks that are sent
  pub in_order : AllZip (IsFormUnder (vectors_in (own_run_over n slot x acts))) (over_acts sent_marks_at n slot x acts)
      (over_acts forms_at n slot x acts)
  -- at each place of the list
  pub proved : (seen unseen : List OwnAct) (y : SubscriberView) → acts ≡ seen ++ unseen → IsAway x
      → own_run_over n slot x seen ≡ Some y → is_past_proof y.solo.phase ≡ true → IsProvedNow n slot x seen y
  pub keys : (seen unseen : List OwnAct) (item : Item) (y : SubscriberView) → acts ≡ seen ++ OwnItem item ∷ unseen
      → own_run_over n slot x seen ≡ Some y → GivesKeysToTheProved y [] item
  pub keys_by_proof : (seen unseen : List OwnAct) (item : Item) (y : SubscriberView) → acts ≡ seen ++ OwnItem item ∷ unseen
      → IsAway x → own_run_over n slot x seen ≡ Some y → GivesKeysByProofOver n slot x seen y item
  pub unproved : (seen unseen : List OwnAct) (item : Item) (y : SubscriberView) → acts ≡ seen ++ OwnItem item ∷ unseen
      → own_run_over n slot x seen ≡ Some y → LeavesTheRegistered y [] item

-- over every list of acts of an MME, whoever is added and whatever is given meanwhile
abbrev pub ActsAreGuarded : Type 0
ActsAreGuarded = (w : World) (acts : List Act) (slot : ℕ) → IsKept w → OfSlot IsGuardedOver w acts slot

-- from the beginning on everybody who is past the proof has given it
abbrev pub EverybodyHasProved : Type 0
EverybodyHasProved =
    (config : Config) (p : Provisioned) (acts : List Act) (slot : ℕ) (y : SubscriberView)
    → slice_get (acts_run (fresh_world config p) acts).subscribers slot ≡ Some y → is_past_proof y.solo.phase ≡ true
    → IsProvedNow config.network slot (slice_get (fresh_world config p).subscribers slot) (own_acts slot (fresh_world config p) acts) y
