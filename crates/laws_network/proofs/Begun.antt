-- An MME begins in range; the steps of a slot; and what is so sent.
use Rattle.std.proofs.Common.{◌≡◌, ℕ, zero, suc, ◌+◌, ◌^◌, ◌<◌, ◌≤◌, false, List, [], ◌∷◌, ◌++◌, length, Some, None, refl, ap, subst, arith}
use Rattle.std.specs.Prelude.{slice_get}
use Rattle.std.specs.List.{AllByRecursion}
use Rattle.std.proofs.lemmas.List.{length-replicate}
use Rattle.std.proofs.lemmas.Option.{same_Some}
use Rattle.s1ap_causes.specs.declared.cause.Cause.{Cause}
use Rattle.s1ap_causes.specs.declared.cause.Cause.TheVariants.{RadioNetwork}
use Rattle.s1ap_causes.specs.declared.cause.RadioNetworkCause.TheVariants.{UnknownPairUeS1apId}
use Rattle.identity_slots.specs.declared.profile.Profile.{Profile}
use Rattle.identity_slots.specs.declared.profile.Vector.{Vector}
use Rattle.identity_slots.specs.Ids.{slots}
use Rattle.identity_slots.specs.Provisioned.{vectors_at}
use Rattle.mme_types.specs.declared.connection.Connection.{Connection}
use Rattle.mme_types.specs.declared.event.UeMessage.{UeMessage}
use Rattle.mme_types.specs.declared.network.Network.{Network}
use Rattle.mme_types.specs.declared.stations.StationState.TheVariants.{Down}
use Rattle.mme_types.specs.Answers.{answer_of}
use Rattle.mme_types.specs.Events.{Claim, Item}
use Rattle.mme_types.specs.Stations.{no_stations}
use Rattle.mme_signalling.specs.Pdus.{error_indication, is_extended}
use Rattle.emm_machine.specs.SubscriberView.{SubscriberView}
use Rattle.emm_machine.specs.Words.{fresh_solo}
use Rattle.stranger_machine.specs.declared.state.Stranger.TheVariants.{Waiting}
use Rattle.stranger_machine.specs.Turns.{as_kept, place_of}
use Rattle.mme_core.specs.Projection.{alone_after}
use Rattle.mme_core.specs.World.{fresh_subscribers, fresh_world, strangers_in}
use Rattle.laws_network.specs.Ranges.{ConnectionInRange, IsWritten, NetworkInRange, ProfileInRange, VectorInRange}
use Rattle.laws_network.specs.SubscriberRanges.{EachInRange, ItemInRange, MessageInRange, SoloInRange, StaysInRange}
use Rattle.laws_network.specs.Whole.{EveryMessageIsSent, TheProvedWereChallenged}
use Rattle.laws_network.specs.Answered.{IdentityAskedIsSent, RefusedIsSent, ReleasedIsSent, UnknownIsAnswered}
use Rattle.laws_network.specs.Received.{EntriesAreInRange, MessagesAreInRange}
use Rattle.laws_network.specs.WorldRanges.{StrangerInRange, SubscriberInRange, WorldInRange}
use Rattle.laws_network.specs.RangesInRuns.{AloneStepsAreInRange, BeginsInRange, ItemsAreInRange, StepInRange, StepsAreInRange, WorldStaysInRange, items_of_run, world_seen}
use Rattle.laws_network.specs.Told.{BeginnersAreTold, ChallengesAreSent, IsAnsweredWhole, IsToldWhole, SendersAreAnswered, WaitingAreTold}
use Rattle.laws_network.proofs.Along.{item_in_range, items_in_range, world_stays}
use Rattle.laws_network.proofs.Routed.{DestinationInRange, goes_in_range}

-- ---- the beginning

-- subscribers who were never seen, from a slot on
fresh_each : SoloInRange fresh_solo → (n : Network) (slot : ℕ) (ps : List Profile) (vs : List (List Vector)) → NetworkInRange n
    → slot + length ps ≤ slots
    → ((k : ℕ) (p : Profile) → slice_get ps k ≡ Some p → ProfileInRange p)
    → ((k place : ℕ) (v : Vector) → slice_get (vectors_at k vs) place ≡ Some v → VectorInRange v)
    → AllByRecursion SubscriberInRange (fresh_subscribers n slot ps vs)
fresh_each solo n slot [] vs network few profiles vectors = tt
fresh_each solo n slot (p ∷ ps) vs network few profiles vectors = (
  record { setting = record { network = network; profile = profiles 0 p refl; vectors = vectors slot; slot = omega (arith, few) }; solo = solo },
  fresh_each solo n (slot + 1) ps vs network (omega (arith, few)) (λ k x is. profiles (suc k) x is) vectors,
)

pub begins_in_range : SoloInRange fresh_solo → BeginsInRange
unfolding no_stations
begins_in_range solo config p h = record {
  network = h.network;
  stations = length-replicate 128 Down;
  rising = tt;
  strangers = λ id. tt;
  subscribers = fresh_each solo config.network 0 p.profiles p.vectors h.network (let few = h.few in omega (arith, few)) h.profiles h.vectors;
}

-- ---- the steps of a slot

subscriber_at : (xs : List SubscriberView) (slot : ℕ) (x : SubscriberView) → AllByRecursion SubscriberInRange xs
    → slice_get xs slot ≡ Some x → SubscriberInRange x
subscriber_at [] slot x h is = absurd (cc is)
subscriber_at (y ∷ xs) zero x h is = subst SubscriberInRange (same_Some y x is) h.0
subscriber_at (y ∷ xs) (suc slot) x h is = subscriber_at xs slot x h.1 is

step_of : StaysInRange → EveryMessageIsSent → (x : SubscriberView) (item : Item) → SubscriberInRange x → ItemInRange item
    → StepInRange x item
step_of kept sent x item h fits = record {
  setting = h.setting;
  before = h.solo;
  heard = fits;
  after = kept x.setting x.solo (item ∷ []) h.setting h.solo (fits, tt);
  whole = sent x.setting x.solo item h.setting h.solo fits;
}

each_front : (xs ys : List Item) → EachInRange (xs ++ ys) → EachInRange xs × EachInRange ys
each_front [] ys h = (tt, h)
each_front (x ∷ xs) ys h = let rest = each_front xs ys h.1 in ((h.0, rest.0), rest.1)

-- ---- what strangers are told

-- what the laws of answers_written and of written_messages say
pub record TellsStrangers : Type 0 where
  pub asked : IdentityAskedIsSent
  pub refusal : RefusedIsSent
  pub release : ReleasedIsSent
  pub unknown : UnknownIsAnswered
  pub indication : (id enb_ue_id : ℕ) (c : Cause) → id < 2 ^ 32 → enb_ue_id < 2 ^ 24 → is_extended c ≡ false
      → IsWritten (error_indication id enb_ue_id c)

told_whole : TellsStrangers → (k : Connection) → ConnectionInRange k → IsToldWhole k
told_whole tells k fits =
    record { asked = tells.asked k fits; refusal = λ nas brief. tells.refusal k nas fits brief; release = λ cause known. tells.release k cause fits known }

answered_whole : TellsStrangers → (m : UeMessage (List ℕ)) → MessageInRange m → IsAnsweredWhole m
answered_whole tells m fits =
    let w = tells.indication m.mme_ue_id m.enb_ue_id (RadioNetwork UnknownPairUeS1apId) fits.mme_ue_id fits.enb_ue_id refl in
    record { nobody = tells.unknown m m.body fits.mme_ue_id fits.enb_ue_id; elsewhere = (w.0, w.1, ap (answer_of m.station None) w.1) }

module _ (solo : SoloInRange fresh_solo) (kept : StaysInRange) (entries : EntriesAreInRange) (messages : MessagesAreInRange) where
  pub stays_in_range : WorldStaysInRange
  stays_in_range = world_stays entries messages kept

  pub items_are_in_range : ItemsAreInRange
  items_are_in_range w events slot h = items_in_range entries messages slot w.sight (strangers_in w) events h.stations h.strangers

  pub steps_in_range : EveryMessageIsSent → StepsAreInRange
  steps_in_range sent config p seen next slot x given at =
      let w = world_seen config p seen in
      let h : WorldInRange w = stays_in_range (fresh_world config p) seen (begins_in_range solo config p given) in
      step_of kept sent x _ (subscriber_at w.subscribers slot x h.subscribers at)
      (item_in_range entries messages slot w.sight (strangers_in w) next h.stations h.strangers)

  pub alone_steps_in_range : EveryMessageIsSent → AloneStepsAreInRange
  alone_steps_in_range sent config p events slot x before since item given at whole =
      let w = fresh_world config p in
      let h : WorldInRange w = begins_in_range solo config p given in
      let own = subscriber_at w.subscribers slot x h.subscribers at in
      let parts = each_front before (item ∷ since) (subst EachInRange whole (items_are_in_range w events slot h)) in
      step_of kept sent (alone_after x before) item (record { setting = own.setting; solo = kept x.setting x.solo before own.setting own.solo parts.0 }) parts.1.0

  pub challenges_sent : TheProvedWereChallenged → ChallengesAreSent
  challenges_sent challenged config p events slot x place given at proved =
      let w = fresh_world config p in
      let h : WorldInRange w = begins_in_range solo config p given in
      let own = subscriber_at w.subscribers slot x h.subscribers at in
      challenged x.setting x.solo (items_of_run config p events slot) place own.setting own.solo
      (items_are_in_range w events slot h) proved

  pub beginners_told : TellsStrangers → BeginnersAreTold
  beginners_told tells config p seen next id m given goes =
      let w = world_seen config p seen in
      let h : WorldInRange w = stays_in_range (fresh_world config p) seen (begins_in_range solo config p given) in
      let fits : ItemInRange (Claim id m) =
      subst DestinationInRange goes (goes_in_range entries messages w.sight next h.stations) in
      told_whole tells (place_of id (as_kept m)) (record { id = fits.0; enb_ue_id = fits.1.enb_ue_id })

  pub senders_answered : TellsStrangers → SendersAreAnswered
  senders_answered tells config p seen next m given goes =
      let w = world_seen config p seen in
      let h : WorldInRange w = stays_in_range (fresh_world config p) seen (begins_in_range solo config p given) in
      answered_whole tells m (subst DestinationInRange goes (goes_in_range entries messages w.sight next h.stations))

  pub waiting_told : TellsStrangers → WaitingAreTold
  waiting_told tells config p seen id k left repeats given at =
      let w = world_seen config p seen in
      let h : WorldInRange w = stays_in_range (fresh_world config p) seen (begins_in_range solo config p given) in
      let fits : StrangerInRange id (Some (Waiting k left repeats)) = subst (StrangerInRange id) at (h.strangers id) in
      told_whole tells (place_of id k) (record { id = fits.0; enb_ue_id = fits.1.enb_ue_id })
