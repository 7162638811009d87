-- What a trace says: the MME that its provisioning makes, and the events from there on.
use Rattle.std.specs.Prelude.{ℕ, zero, suc, Bool, true, false, List, [], ◌∷◌, ◌++◌, Option, Some, None, Result, Ok, Err, option_map, if◌then◌else◌}
use Rattle.mme_core.specs.World.{World, world_run}
use Rattle.mme_core.specs.declared.event.Event.{Event}
use Rattle.mme_core.specs.declared.event.Event.TheVariants as event
use Rattle.trace_words.specs.Trace.{line_of}
use Rattle.trace_words.specs.declared.line.Line.{Line}
use Rattle.trace_words.specs.declared.line.Line.TheVariants.{Skip, Mme, Sub, Vec, Up, Lost, In, Tick, Data, Cancel, Show}
use Rattle.trace_words.specs.declared.fault.TraceFault.{TraceFault}
use Rattle.trace_progress.specs.declared.progress.Progress.{Progress}
use Rattle.trace_progress.specs.declared.progress.Progress.TheVariants.{Nothing}
use Rattle.trace_progress.specs.Effects.{Effect, effect_of, in_event, running, states_of_imsi}
use Rattle.trace_progress.specs.Text.{lines_of}

-- ---- events

-- n ticks; after one that is refused all are refused, and none of these changes the MME
abbrev pub seconds : ℕ → List Event
seconds zero = []
seconds (suc n) = event.Tick ∷ seconds n

-- the events that a line says, to an MME that runs; none where the line has a fault there: provisioning comes too late, and a
-- question about nobody has no answer
abbrev pub line_events : World → Line → Option (List Event)
line_events w Skip = Some []
line_events w (Mme network) = None
line_events w (Sub profile) = None
line_events w (Vec imsi vector) = None
line_events w (Up e) = Some (event.Up e ∷ [])
line_events w (Lost e) = Some (event.Lost e ∷ [])
line_events w (In e octets) = Some (in_event e octets ∷ [])
line_events w (Tick n) = Some (seconds n)
line_events w (Data imsi) = Some (event.Data imsi ∷ [])
line_events w (Cancel imsi) = Some (event.Cancel imsi ∷ [])
line_events w (Show imsi) = option_map (λ states. []) (states_of_imsi imsi w)

-- nor where it can't be read
abbrev pub text_events : World → Result Line TraceFault → Option (List Event)
text_events w (Ok line) = line_events w line
text_events w (Err fault) = None

-- the events of a line, and of those after it, which find the MME as its own leave it; one with a fault is the last
abbrev pub then_events : World → Option (List Event) → (World → List Event) → List Event
then_events w None others = []
then_events w (Some events) others = events ++ others (world_run w events)

-- the events of lines, up to the first line that has a fault
abbrev pub events_in : World → List (List ℕ) → List Event
events_in w [] = []
events_in w (text ∷ texts) = then_events w (text_events w (line_of text)) (λ after. events_in after texts)

-- ---- a whole trace

-- an MME, and what happens to it
pub record Run : Type 0 where
  pub mme : World
  pub events : List Event

-- a line of provisioning, or a comment
abbrev pub is_provisioning : Line → Bool
is_provisioning Skip = true
is_provisioning (Mme network) = true
is_provisioning (Sub profile) = true
is_provisioning (Vec imsi vector) = true
is_provisioning _ = false

-- the run that begins with these lines, by the MME that is made of what is provisioned
abbrev pub begun : Result World TraceFault → List (List ℕ) → Option Run
begun (Ok w) texts = Some (record { mme = w; events = events_in w texts })
begun (Err fault) texts = None

-- goes on after a line of provisioning, unless that has a fault
abbrev pub once_provisioned : Effect → (Progress → Option Run) → Option Run
once_provisioned (Ok done) others = others done.0
once_provisioned (Err fault) others = None

-- from one line on: it is of provisioning, or the run begins with it
abbrev pub begins_at : Progress → Result Line TraceFault → List (List ℕ) → (Progress → Option Run) → Option Run
begins_at progress (Ok line) texts others =
    if is_provisioning line then once_provisioned (effect_of progress line) others else begun (running progress) texts
begins_at progress (Err fault) texts others = None

-- the run begins with the first event or question; there is none where a line before it has a fault, or the trace ends there
abbrev pub run_from : Progress → List (List ℕ) → Option Run
run_from progress [] = None
run_from progress (text ∷ texts) = begins_at progress (line_of text) (text ∷ texts) (λ new. run_from new texts)

-- of a whole trace
abbrev pub run_of : List ℕ → Option Run
run_of octets = run_from Nothing (lines_of octets)
