-- What each call makes of a session.
use Rattle.std.specs.Prelude.{◌≡◌, ◌⊎◌, ℕ, List, [], ◌∷◌, length, replicate, Option, Some, None, Result, Ok, Err}
use Rattle.emm_machine.specs.declared.subscriber.States.{States}
use Rattle.mme_answering.specs.declared.out.Out.{Out}
use Rattle.mme_core.specs.declared.event.Event.{Event}
use Rattle.mme_core.specs.declared.event.Event.TheVariants as event
use Rattle.mme_core.specs.declared.event.StepFault.{StepFault}
use Rattle.mme_core.specs.World.{World, events_taken, replies, replies_given, reply, world_after, world_run}
use Rattle.mme_core.specs.Faults.{HasEachFault}
use Rattle.trace_words.specs.declared.line.Line.{Line}
use Rattle.trace_words.specs.declared.line.Line.TheVariants.{Skip, Mme, Sub, Vec, Up, Lost, In, Tick, Data, Cancel, Show}
use Rattle.trace_words.specs.declared.fault.TraceFault.{TraceFault}
use Rattle.trace_words.specs.Trace.{line_of}
use Rattle.trace_progress.specs.declared.progress.Progress.{Progress}
use Rattle.trace_progress.specs.declared.progress.Progress.TheVariants.{Nothing, Provisioning, Running}
use Rattle.trace_progress.specs.Acts.{IsIdle}
use Rattle.trace_progress.specs.Effects.{Effect, configured, in_event, running, states_of_imsi, subscriber_added, vector_given}
use Rattle.c_session.specs.declared.refusal.Refusal.{Refusal}
use Rattle.c_session.specs.declared.refusal.Refusal.TheVariants as refusals
use Rattle.c_session.specs.declared.session.Session.{Session}
use Rattle.c_session.specs.Arguments.{imsi_of, network_of, profile_of, station_of, ticks_of, vector_of}
use Rattle.c_session.specs.Refusals.{◌>>=◌, of_field, of_line, of_step}

-- nothing is provisioned, and nothing has happened
abbrev pub nothing : Session
nothing = record { progress = Nothing; replies = [] }

-- ---- what a call leaves, by its answer: what is wanted of it, or all as it was, where that is refused or memory ran out

abbrev pub Leaves : Result Session Refusal → Session → Result (Unit {0}) Refusal → Session → Type 0
Leaves (Ok after) old (Ok _) new = new ≡ after
Leaves (Ok after) old (Err refusal) new = (refusal ≡ refusals.NoMemory) × (new ≡ old)
Leaves (Err fault) old (Ok _) new = ⊥
Leaves (Err fault) old (Err refusal) new = (refusal ≡ fault) × (new ≡ old)

-- ---- provisioning

-- what provisioning makes of a session
abbrev pub with_effect : Session → Effect → Result Session Refusal
with_effect s (Ok done) = Ok (record { progress = done.0; replies = s.replies })
with_effect s (Err fault) = Err (of_line fault)

-- the provisioning begins
abbrev pub begun : Session → List ℕ → ℕ → ℕ → List ℕ → ℕ → ℕ → Result Session Refusal
begun s plmn group code apn down up =
    network_of plmn group code apn down up >>= (λ network. with_effect s (configured s.progress network))

-- a subscriber more
abbrev pub added : Session → List ℕ → ℕ → ℕ → ℕ → Result Session Refusal
added s imsi address gateway teid =
    profile_of imsi address gateway teid >>= (λ profile. with_effect s (subscriber_added s.progress profile))

-- a vector more for a subscriber
abbrev pub given : Session → List ℕ → List ℕ → List ℕ → List ℕ → List ℕ → Result Session Refusal
given s imsi rand autn xres kasme =
    imsi_of imsi >>= (λ i. vector_of rand autn xres kasme >>= (λ vector. with_effect s (vector_given s.progress i vector)))

-- ---- the start

-- the MME runs
abbrev pub with_world : Session → World → Session
with_world s world = record { progress = Running world; replies = s.replies }

abbrev pub started : Session → Result Session Refusal
started s = of_field (running s.progress) >>= (λ world. Ok (with_world s world))

-- what is left where memory ran out while the MME was made: nothing is provisioned
abbrev pub lost : Session → Session
lost s = record { progress = Nothing; replies = s.replies }

-- memory ran out while the MME was made: none ran before
abbrev pub IsLost : Session → Session → Type 0
IsLost old new = IsIdle old.progress × (new ≡ lost old)

-- what the start leaves
abbrev pub Starts : Result Session Refusal → Session → Result (Unit {0}) Refusal → Session → Type 0
Starts (Ok after) old (Ok _) new = new ≡ after
Starts (Ok after) old (Err refusal) new = (refusal ≡ refusals.Lost) × IsLost old new
Starts (Err fault) old (Ok _) new = ⊥
Starts (Err fault) old (Err refusal) new = (refusal ≡ fault) × (new ≡ old)

-- ---- events

-- the MME that runs
abbrev pub world_in : Progress → Result World Refusal
world_in Nothing = Err refusals.NoMme
world_in (Provisioning config provisioned) = Err refusals.NoMme
world_in (Running world) = Ok world

-- what an event with that reply leaves
abbrev pub replied : World → Event → Result (List Out) StepFault → Result Session Refusal
replied world event (Ok outs) = Ok (record { progress = Running (world_after world event); replies = Ok outs ∷ [] })
replied world event (Err fault) = Err (of_step fault)

abbrev pub happened : Session → Event → Result Session Refusal
happened s event = world_in s.progress >>= (λ world. replied world event (reply world event))

abbrev pub up : Session → ℕ → Result Session Refusal
up s station = station_of station >>= (λ e. happened s (event.Up e))

abbrev pub down : Session → ℕ → Result Session Refusal
down s station = station_of station >>= (λ e. happened s (event.Lost e))

abbrev pub heard : Session → ℕ → List ℕ → Result Session Refusal
heard s station octets = station_of station >>= (λ e. happened s (in_event e octets))

abbrev pub data_waits : Session → List ℕ → Result Session Refusal
data_waits s imsi = imsi_of imsi >>= (λ i. happened s (event.Data i))

abbrev pub cancelled : Session → List ℕ → Result Session Refusal
cancelled s imsi = imsi_of imsi >>= (λ i. happened s (event.Cancel i))

-- ---- ticks

-- n ticks
abbrev pub ticks : ℕ → List Event
ticks n = replicate n event.Tick

-- what events leave, each with its reply; one that was refused for lack of memory has changed nothing
pub record RanFrom (world : World) (events : List Event) (new : Session) : Type 0 where
  pub count : length new.replies ≡ length events
  pub said : replies_given new.replies ≡ replies world (events_taken events new.replies)
  pub faults : HasEachFault world events new.replies
  pub after : new.progress ≡ Running (world_run world (events_taken events new.replies))

-- what ticks on that MME leave: there is room for the replies, or nothing happens
abbrev pub Runs : Result World Refusal → ℕ → Session → Result (Unit {0}) Refusal → Session → Type 0
Runs (Ok world) count old (Ok _) new = RanFrom world (ticks count) new
Runs (Ok world) count old (Err refusal) new = (refusal ≡ refusals.NoMemory) × (new ≡ old)
Runs (Err fault) count old (Ok _) new = ⊥
Runs (Err fault) count old (Err refusal) new = (refusal ≡ fault) × (new ≡ old)

-- the MME whose ticks are counted
abbrev pub ticking : Session → ℕ → Result World Refusal
ticking s count = ticks_of count >>= (λ n. world_in s.progress)

-- ---- lines

-- what is asked of an MME is there, or it isn't
abbrev pub asked : Session → Option States → Result Session Refusal
asked s None = Err refusals.Provision
asked s (Some states) = Ok s

abbrev pub shown : Session → List ℕ → Result Session Refusal
shown s imsi = world_in s.progress >>= (λ world. asked s (states_of_imsi imsi world))

-- what follows once the MME runs, or why it doesn't run; an MME that runs isn't lost
abbrev pub OnceStarted : Result Session Refusal → (Session → Result (Unit {0}) Refusal → Session → Type 0) → Session
    → Result (Unit {0}) Refusal → Session → Type 0
OnceStarted (Ok s) P old result new = P s result new ⊎ ((result ≡ Err refusals.Lost) × IsLost old new)
OnceStarted (Err fault) P old result new = (result ≡ Err fault) × (new ≡ old)

-- what a line of a trace leaves
abbrev pub Acts : Line → Session → Result (Unit {0}) Refusal → Session → Type 0
Acts Skip old result new = Leaves (Ok old) old result new
Acts (Mme network) old result new = Leaves (with_effect old (configured old.progress network)) old result new
Acts (Sub profile) old result new = Leaves (with_effect old (subscriber_added old.progress profile)) old result new
Acts (Vec imsi vector) old result new = Leaves (with_effect old (vector_given old.progress imsi vector)) old result new
Acts (Up e) old result new = OnceStarted (started old) (λ s. Leaves (happened s (event.Up e)) s) old result new
Acts (Lost e) old result new = OnceStarted (started old) (λ s. Leaves (happened s (event.Lost e)) s) old result new
Acts (In e octets) old result new = OnceStarted (started old) (λ s. Leaves (happened s (in_event e octets)) s) old result new
Acts (Tick n) old result new = OnceStarted (started old) (λ s. Runs (world_in s.progress) n s) old result new
Acts (Data imsi) old result new = OnceStarted (started old) (λ s. Leaves (happened s (event.Data imsi)) s) old result new
Acts (Cancel imsi) old result new = OnceStarted (started old) (λ s. Leaves (happened s (event.Cancel imsi)) s) old result new
Acts (Show imsi) old result new = OnceStarted (started old) (λ s. Leaves (shown s imsi) s) old result new

-- what a text that is read so leaves
abbrev pub ActsRead : Result Line TraceFault → Session → Result (Unit {0}) Refusal → Session → Type 0
ActsRead (Ok line) old result new = Acts line old result new
ActsRead (Err fault) old result new = (result ≡ Err (of_line fault)) × (new ≡ old)

-- what a line of a trace leaves, given without its LF; or memory ran out, and all is as it was
abbrev pub Plays : List ℕ → Session → Result (Unit {0}) Refusal → Session → Type 0
Plays text old result new = ((result ≡ Err refusals.NoMemory) × (new ≡ old)) ⊎ ActsRead (line_of text) old result new
