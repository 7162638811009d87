-- What is so sent over a run: the challenge of whoever has proved itself, and whatever strangers are told.
use Rattle.std.specs.Prelude.{◌≡◌, ℕ, false, List, Some, slice_get}
use Rattle.s1ap_causes.specs.declared.cause.Cause.{Cause}
use Rattle.s1ap_causes.specs.declared.cause.Cause.TheVariants.{Nas, RadioNetwork}
use Rattle.s1ap_causes.specs.declared.cause.NasCause.TheVariants.{NormalRelease}
use Rattle.s1ap_causes.specs.declared.cause.RadioNetworkCause.TheVariants.{UnknownPairUeS1apId}
use Rattle.identity_slots.specs.Provisioned.{Provisioned}
use Rattle.mme_types.specs.declared.connection.Connection.{Connection}
use Rattle.mme_types.specs.declared.event.Entry.{Entry}
use Rattle.mme_types.specs.declared.event.UeMessage.{UeMessage}
use Rattle.mme_signalling.specs.Pdus.{downlink, error_indication, is_extended, release_command}
use Rattle.emm_machine.specs.Steps.{solo_after, solo_step}
use Rattle.emm_machine.specs.SubscriberView.{SubscriberView}
use Rattle.laws_subscriber.specs.Proof.{IsProved}
use Rattle.stranger_machine.specs.declared.state.KeptEntry.{KeptEntry}
use Rattle.stranger_machine.specs.declared.state.Stranger.TheVariants.{Waiting}
use Rattle.mme_signalling.specs.Messages.{identity_request}
use Rattle.stranger_machine.specs.Turns.{as_kept, identity_asked, place_of, refused, released, sent_to}
use Rattle.mme_routing.specs.Destinations.{Beginner, Stranger}
use Rattle.mme_core.specs.declared.config.Config.{Config}
use Rattle.mme_core.specs.declared.event.Event.{Event}
use Rattle.mme_core.specs.World.{fresh_world, happens, strangers_in}
use Rattle.laws_network.specs.Ranges.{IsBrief}
use Rattle.laws_network.specs.Whole.{ChallengeIsSent}
use Rattle.laws_network.specs.Answered.{AnswersWith, AnswersWithBoth, IsUnknownAnswered}
use Rattle.laws_network.specs.WorldRanges.{IsProvisionedInRange}
use Rattle.laws_network.specs.RangesInRuns.{items_of_run, world_seen}

-- ---- a subscriber

-- whoever has proved itself over a run was sent its challenge
abbrev pub ChallengesAreSent : Type 0
ChallengesAreSent =
    (config : Config) (p : Provisioned) (events : List Event) (slot : ℕ) (x : SubscriberView) (place : ℕ)
    → IsProvisionedInRange config p → slice_get (fresh_world config p).subscribers slot ≡ Some x
    → (proved : IsProved x.setting x.solo (items_of_run config p events slot) place)
    → ChallengeIsSent place proved.vector (solo_step x.setting (solo_after x.setting x.solo proved.before) proved.challenge)

-- ---- a stranger

-- what is told on an association is sent: IDENTITY REQUEST, a refusal with the release after it, and a release alone
pub record IsToldWhole (k : Connection) : Type 0 where
  pub asked : AnswersWith k.station (downlink k identity_request) (identity_asked k)
  pub refusal : (nas : List ℕ) → IsBrief 15000 nas
      → AnswersWithBoth k.station (downlink k nas) (release_command k.id k.enb_ue_id (Nas NormalRelease)) (refused k nas)
  pub release : (cause : Cause) → is_extended cause ≡ false
      → AnswersWith k.station (release_command k.id k.enb_ue_id cause) (released k cause)

-- and what answers a message: one with the id of nobody, or not from the association's own station and number
-- (TS 36.413 clause 10.6)
pub record IsAnsweredWhole (m : UeMessage (List ℕ)) : Type 0 where
  pub nobody : IsUnknownAnswered m m.body
  pub elsewhere : AnswersWith m.station (error_indication m.mme_ue_id m.enb_ue_id (RadioNetwork UnknownPairUeS1apId))
      (sent_to m.station (error_indication m.mme_ue_id m.enb_ue_id (RadioNetwork UnknownPairUeS1apId)))

-- whoever begins at an event of a run
abbrev pub BeginnersAreTold : Type 0
BeginnersAreTold =
    (config : Config) (p : Provisioned) (seen : List Event) (next : Event) (id : ℕ) (m : Entry (List ℕ))
    → IsProvisionedInRange config p → (happens (world_seen config p seen).sight next).destination ≡ Beginner id m
    → IsToldWhole (place_of id (as_kept m))

-- whoever sends a message to a stranger at one
abbrev pub SendersAreAnswered : Type 0
SendersAreAnswered =
    (config : Config) (p : Provisioned) (seen : List Event) (next : Event) (m : UeMessage (List ℕ))
    → IsProvisionedInRange config p → (happens (world_seen config p seen).sight next).destination ≡ Stranger m → IsAnsweredWhole m

-- and whoever waits after one
abbrev pub WaitingAreTold : Type 0
WaitingAreTold =
    (config : Config) (p : Provisioned) (seen : List Event) (id : ℕ) (k : KeptEntry) (left repeats : ℕ)
    → IsProvisionedInRange config p → strangers_in (world_seen config p seen) id ≡ Some (Waiting k left repeats)
    → IsToldWhole (place_of id k)
