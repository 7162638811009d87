-- A subscriber or a vector more for an MME that runs.
use Rattle.std.specs.Prelude.{ℕ, [], ◌∷◌, ◌++◌, length, Option, Some, None, if◌then◌else◌}
use Rattle.identity_slots.specs.declared.profile.Profile.{Profile}
use Rattle.identity_slots.specs.declared.profile.Vector.{Vector}
use Rattle.identity_slots.specs.declared.provision.ProvisionFault.{ProvisionFault}
use Rattle.identity_slots.specs.declared.provision.ProvisionFault.TheVariants.{Full}
use Rattle.mme_types.specs.declared.network.Network.{Network}
use Rattle.emm_machine.specs.SubscriberView.{SubscriberView}
use Rattle.mme_owners.specs.Given.{given_at, is_stocked_at}
use Rattle.mme_core.specs.Sight.{Sight}
use Rattle.mme_core.specs.World.{World, never_seen}

-- a subscriber who was never seen, and has no vectors
abbrev pub fresh_subscriber : Network → ℕ → Profile → SubscriberView
fresh_subscriber n slot p = never_seen n slot p []

-- one more is provisioned
abbrev pub sight_added : Profile → Sight → Sight
sight_added p s = record { config = s.config; clock = s.clock; stations = s.stations; profiles = s.profiles ++ p ∷ [] }

-- and has the next slot
abbrev pub world_added : Profile → World → World
world_added p w = record {
  sight = sight_added p w.sight;
  strangers = w.strangers;
  subscribers = w.subscribers ++ fresh_subscriber w.sight.config.network (length w.subscribers) p ∷ [];
}

-- the subscriber of a slot has the vector after all others
abbrev pub world_given : ℕ → Vector → World → World
world_given slot v w = record { sight = w.sight; strangers = w.strangers; subscribers = given_at slot v w.subscribers }

-- why a vector for a slot is refused, lack of memory apart
abbrev pub give_fault : ℕ → World → Option ProvisionFault
give_fault slot w = if is_stocked_at slot w.subscribers then Some Full else None
