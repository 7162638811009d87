-- What the MME, stations and phones send by turns, and what is printed of it.
use Rattle.std.specs.Prelude.{◌≡◌, ℕ, ◌-◌, ◌<◌, ◌==◌, nat_lt, if◌then◌else◌, List, [], ◌∷◌, ◌++◌, length, take, Option, Some, None, Result, Ok, Err}
use Rattle.std.specs.Result.{result_ok}
use Rattle.mme_core.specs.World.{World, reply}
use Rattle.mme_core.specs.declared.event.Event.{Event}
use Rattle.mme_core.specs.mme_answering.declared.out.Out.{Out}
use Rattle.trace_words.specs.declared.fault.TraceFault.{TraceFault}
use Rattle.trace_words.specs.declared.line.Line.TheVariants.{In}
use Rattle.trace_words.specs.Trace.{line_text}
use Rattle.trace_progress.specs.declared.progress.Progress.{Progress}
use Rattle.trace_progress.specs.declared.progress.Progress.TheVariants.{Running}
use Rattle.trace_progress.specs.Effects.{in_event, left_by, running}
use Rattle.sim_crowd.specs.declared.crowd.Crowd.{Crowd}
use Rattle.sim_crowd.specs.Hearing.{Delivered, delivering}
use Rattle.sim_crowd.specs.Uplinks.{UplinkView}
use Rattle.sim_printing.specs.Printed.{dropped_line}
use Rattle.sim_printing.specs.Shown.{with_reply}
use Rattle.sim_lines.specs.declared.script.Script.{Script}

-- how far the trace has got, the stations and phones, and what is printed
pub record Scene : Type 0 where
  pub progress : Progress
  pub crowd : Crowd
  pub page : List ℕ

-- the scene of a script that is played, and of its output
abbrev pub scene_of : Script → List ℕ → Scene
scene_of script page = record { progress = script.progress; crowd = script.crowd; page = page }

abbrev pub with_crowd : Crowd → Scene → Scene
with_crowd c s = record s { crowd = c }

-- ---- the MME's turn

-- what it sends, or None where it refuses the event, and the scene then
pub record Sending : Type 0 where
  pub sent : Option (List Out)
  pub scene : Scene

abbrev pub sending_as : Option (List Out) → Scene → Sending
sending_as sent s = record { sent = sent; scene = s }

-- nothing happens
abbrev pub no_sending : Scene → Sending
no_sending s = sending_as None s

abbrev pub sending_of : Result World TraceFault → Event → List ℕ → Scene → Sending
sending_of (Err fault) event line s = no_sending s
sending_of (Ok world) event line s = record {
  sent = result_ok (reply world event);
  scene = record {
    progress = Running (left_by world event (reply world event));
    crowd = s.crowd;
    page = with_reply line (reply world event) s.page;
  };
}

-- an event happens, which is printed as this line with its answers
unfoldable pub sending : Event → List ℕ → Scene → Sending
sending event line s = sending_of (running s.progress) event line s

abbrev pub uplink_of : ℕ → List ℕ → UplinkView
uplink_of n octets = record { station = n; octets = octets }

-- a station's message comes; one whose line would be longer than the longest doesn't
unfoldable pub message_sending : UplinkView → Scene → Sending
message_sending u s =
    if nat_lt 40000 (length (line_text (In u.station u.octets))) then no_sending s
    else sending (in_event u.station u.octets) (line_text (In u.station u.octets)) s

-- ---- the turn of stations and phones

abbrev pub delivered_then : Delivered → (Crowd → Delivered) → Delivered
delivered_then d more = record { sent = d.sent ++ (more d.crowd).sent; crowd = (more d.crowd).crowd }

-- messages of the MME are delivered, one after another
abbrev pub delivering_each : List Out → Crowd → Delivered
delivering_each [] c = record { sent = []; crowd = c }
delivering_each (out ∷ outs) c =
    delivered_then (delivering out.station out.octets c) (λ d. delivering_each outs d)

-- what the MME sent is delivered, if it sent something
abbrev pub delivering_sent : Option (List Out) → Crowd → Delivered
delivering_sent None c = record { sent = []; crowd = c }
delivering_sent (Some outs) c = delivering_each outs c

-- what stations and phones send then, and the scene
pub record Turned : Type 0 where
  pub sent : List UplinkView
  pub scene : Scene

abbrev pub turned_by : Delivered → Scene → Turned
turned_by d s = record { sent = d.sent; scene = with_crowd d.crowd s }

-- they answer what the MME sent
abbrev pub answering : Sending → Turned
answering x = turned_by (delivering_sent x.sent x.scene.crowd) x.scene

abbrev pub turned_then : Turned → (Scene → Turned) → Turned
turned_then t more = record { sent = t.sent ++ (more t.scene).sent; scene = (more t.scene).scene }

-- a station's message comes, and what the MME answers is answered
abbrev pub message_turn : UplinkView → Scene → Turned
message_turn u s = answering (message_sending u s)

-- messages of stations, one after another
abbrev pub turns : List UplinkView → Scene → Turned
turns [] s = record { sent = []; scene = s }
turns (u ∷ us) s = turned_then (message_turn u s) (λ t. turns us t)

-- ---- a queue of messages

-- the most that are played after a line, or after a tick
unfoldable pub most_answers : ℕ
most_answers = 64

-- the number of those that are left out is printed, if there are any
abbrev pub with_dropped : ℕ → Scene → Scene
with_dropped n s = if n == 0 then s else record s { page = s.page ++ dropped_line n }

-- the messages of a queue are played in order, and after them what is answered to each, up to the most
pub record PlaysQueue (queue : List UplinkView) (old new : Scene) : Type 0 where
  -- the queue, with all that came to it
  pub all : List UplinkView
  pub whole : all ≡ queue ++ (turns (take most_answers all) old).sent
  -- what is played had come before its turn
  pub in_turn : (k : ℕ) → k < most_answers → k < length all → k < length (queue ++ (turns (take k all) old).sent)
  pub left : new ≡ with_dropped (length all - most_answers) (turns (take most_answers all) old).scene

-- what the MME sent is answered, and the answers are played
abbrev pub PlaysAnswers : Sending → Scene → Type 0
PlaysAnswers x new = PlaysQueue (answering x).sent (answering x).scene new
