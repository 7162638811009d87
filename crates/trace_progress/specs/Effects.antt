-- What each line of a trace leaves and writes.
use Rattle.std.specs.Prelude.{ℕ, zero, suc, nat_le, List, [], ◌++◌, length, Option, Some, None, Result, Ok, Err, if◌then◌else◌}
use Rattle.identity_slots.specs.declared.profile.Profile.{Profile}
use Rattle.identity_slots.specs.declared.profile.Vector.{Vector}
use Rattle.identity_slots.specs.declared.provision.ProvisionFault.{ProvisionFault}
use Rattle.identity_slots.specs.Provisioned.{Provisioned, add_fault, slot_of_imsi, vectors_at, with_profile, with_vector}
use Rattle.emm_machine.specs.declared.subscriber.States.{States}
use Rattle.mme_types.specs.declared.network.Network.{Network}
use Rattle.mme_core.specs.World.{World, fresh_world, reply, world_after}
use Rattle.mme_core.specs.Projection.{states_at}
use Rattle.mme_core.specs.declared.config.Config.{Config}
use Rattle.mme_core.specs.declared.event.Event.{Event}
use Rattle.mme_core.specs.declared.event.Event.TheVariants as event
use Rattle.mme_core.specs.declared.event.StepFault.{StepFault}
use Rattle.mme_core.specs.mme_answering.declared.out.Out.{Out}
use Rattle.trace_words.specs.Trace.{◌>>=◌}
use Rattle.trace_words.specs.declared.line.Line.{Line}
use Rattle.trace_words.specs.declared.line.Line.TheVariants.{Skip, Mme, Sub, Vec, Up, Lost, In, Tick, Data, Cancel, Show}
use Rattle.trace_words.specs.declared.fault.TraceFault.{TraceFault}
use Rattle.trace_words.specs.declared.fault.TraceFault.TheVariants.{Order, Provision}
use Rattle.trace_progress.specs.declared.progress.Progress.{Progress}
use Rattle.trace_progress.specs.declared.progress.Progress.TheVariants.{Nothing, Provisioning, Running}
use Rattle.trace_answers.specs.Words.{states_text}
use Rattle.trace_progress.specs.Replies.{reply_text}

-- what a line leaves and writes, or its fault
abbrev pub Effect : Type 0
Effect = Result (Progress × List ℕ) TraceFault

-- ---- provisioning

-- what an MME is made of; its clock starts at 0
abbrev pub config_of : Network → Config
config_of network = record { network = network; clock = 0 }

abbrev pub nobody : Provisioned
nobody = record { profiles = []; vectors = [] }

abbrev pub configured : Progress → Network → Effect
configured Nothing network = Ok (Provisioning (config_of network) nobody, [])
configured (Provisioning config provisioned) network = Err Order
configured (Running world) network = Err Order

-- a subscriber more, unless that is refused
abbrev pub with_subscriber : Config → Provisioned → Profile → Option ProvisionFault → Effect
with_subscriber config provisioned profile None = Ok (Provisioning config (with_profile profile provisioned), [])
with_subscriber config provisioned profile (Some fault) = Err Provision

abbrev pub subscriber_added : Progress → Profile → Effect
subscriber_added Nothing profile = Err Order
subscriber_added (Provisioning config provisioned) profile =
    with_subscriber config provisioned profile (add_fault profile provisioned.profiles)
subscriber_added (Running world) profile = Err Order

-- a vector more for the subscriber of this slot, who has 64 at most
abbrev pub with_vector_at : Config → Provisioned → Vector → Option ℕ → Effect
with_vector_at config provisioned vector None = Err Provision
with_vector_at config provisioned vector (Some slot) =
    if nat_le 64 (length (vectors_at slot provisioned.vectors)) then Err Provision
    else Ok (Provisioning config (with_vector slot vector provisioned), [])

abbrev pub vector_given : Progress → List ℕ → Vector → Effect
vector_given Nothing imsi vector = Err Order
vector_given (Provisioning config provisioned) imsi vector =
    with_vector_at config provisioned vector (slot_of_imsi imsi provisioned.profiles)
vector_given (Running world) imsi vector = Err Order

-- ---- events

-- the MME that a line speaks to: the first such line makes it
abbrev pub running : Progress → Result World TraceFault
running Nothing = Err Order
running (Provisioning config provisioned) = Ok (fresh_world config provisioned)
running (Running world) = Ok world

abbrev pub left : World × List ℕ → Effect
left done = Ok (Running done.0, done.1)

-- what an event that is answered so leaves; a refused one changes nothing
abbrev pub left_by : World → Event → Result (List Out) StepFault → World
left_by world event (Ok outs) = world_after world event
left_by world event (Err fault) = world

abbrev pub event_played : World → Event → World × List ℕ
event_played world event = (left_by world event (reply world event), reply_text (reply world event))

abbrev pub happened : Progress → Event → Effect
happened progress event = running progress >>= (λ world. left (event_played world event))

abbrev pub with_text_before : List ℕ → World × List ℕ → World × List ℕ
with_text_before text done = (done.0, text ++ done.1)

-- one tick, and then the others unless it is refused
abbrev pub tick_then : World → Result (List Out) StepFault → (World → World × List ℕ) → World × List ℕ
tick_then world (Ok outs) others = with_text_before (reply_text (Ok outs)) (others (world_after world event.Tick))
tick_then world (Err fault) others = (world, reply_text (Err fault))

-- n ticks, up to the first that is refused
unfoldable pub ticked : ℕ → World → World × List ℕ
ticked zero world = (world, [])
ticked (suc n) world = tick_then world (reply world event.Tick) (λ after. ticked n after)

abbrev pub ticks_passed : Progress → ℕ → Effect
ticks_passed progress n = running progress >>= (λ world. left (ticked n world))

-- ---- what is asked

abbrev pub states_in : World → Option ℕ → Option States
states_in world None = None
states_in world (Some slot) = states_at slot world

abbrev pub states_of_imsi : List ℕ → World → Option States
states_of_imsi imsi world = states_in world (slot_of_imsi imsi world.sight.profiles)

abbrev pub states_shown : List ℕ → World → Option States → Effect
states_shown imsi world None = Err Provision
states_shown imsi world (Some states) = Ok (Running world, states_text imsi states)

abbrev pub shown : Progress → List ℕ → Effect
shown progress imsi = running progress >>= (λ world. states_shown imsi world (states_of_imsi imsi world))

-- ---- lines

-- a station sends these octets; a slice's value has besides the place that it is lent from, which no definition looks at
abbrev pub in_event : ℕ → List ℕ → Event
in_event e octets = event.In e (record { ref_ptr = (0, 0); now = octets })

unfoldable pub effect_of : Progress → Line → Effect
effect_of progress Skip = Ok (progress, [])
effect_of progress (Mme network) = configured progress network
effect_of progress (Sub profile) = subscriber_added progress profile
effect_of progress (Vec imsi vector) = vector_given progress imsi vector
effect_of progress (Up e) = happened progress (event.Up e)
effect_of progress (Lost e) = happened progress (event.Lost e)
effect_of progress (In e octets) = happened progress (in_event e octets)
effect_of progress (Tick n) = ticks_passed progress n
effect_of progress (Data imsi) = happened progress (event.Data imsi)
effect_of progress (Cancel imsi) = happened progress (event.Cancel imsi)
effect_of progress (Show imsi) = shown progress imsi
