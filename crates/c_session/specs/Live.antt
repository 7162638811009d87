-- A subscriber or a vector more for an MME that runs.
use Rattle.std.specs.Prelude.{ℕ, List, Option, Some, None, Result, Ok, Err}
use Rattle.identity_slots.specs.declared.provision.ProvisionFault.{ProvisionFault}
use Rattle.identity_slots.specs.Provisioned.{add_fault, slot_of_imsi}
use Rattle.mme_core.specs.World.{World}
use Rattle.mme_core.specs.Provisioning.{give_fault, world_added, world_given}
use Rattle.c_session.specs.declared.refusal.Refusal.{Refusal}
use Rattle.c_session.specs.declared.session.Session.{Session}
use Rattle.c_session.specs.Arguments.{imsi_of, profile_of, vector_of}
use Rattle.c_session.specs.Asked.{known}
use Rattle.c_session.specs.Refusals.{◌>>=◌, of_provision}
use Rattle.c_session.specs.Sessions.{with_world, world_in}

-- what the MME becomes, unless that is refused
abbrev pub provided : Session → World → Option ProvisionFault → Result Session Refusal
provided s world None = Ok (with_world s world)
provided s world (Some fault) = Err (of_provision fault)

-- a subscriber more
abbrev pub added_live : Session → List ℕ → ℕ → ℕ → ℕ → Result Session Refusal
added_live s imsi address gateway teid =
    profile_of imsi address gateway teid >>= (λ profile. world_in s.progress >>= (λ world.
    provided s (world_added profile world) (add_fault profile world.sight.profiles)))

-- a vector more for a subscriber
abbrev pub given_live : Session → List ℕ → List ℕ → List ℕ → List ℕ → List ℕ → Result Session Refusal
given_live s imsi rand autn xres kasme =
    imsi_of imsi >>= (λ i. vector_of rand autn xres kasme >>= (λ vector. world_in s.progress >>= (λ world.
    known (slot_of_imsi i world.sight.profiles) >>= (λ slot.
    provided s (world_given slot vector world) (give_fault slot world)))))
