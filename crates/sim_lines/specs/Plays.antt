-- What the acts and lines of a script make of the scene, where memory isn't refused.
use Rattle.std.specs.Prelude.{◌≡◌, ◌⊎◌, ℕ, zero, suc, ◌<◌, Bool, true, false, is_some, IsSome, IsNone, List, [], ◌++◌, Result, Ok, Err}
use Rattle.mme_core.specs.World.{World}
use Rattle.mme_core.specs.declared.event.Event.TheVariants as event
use Rattle.trace_words.specs.declared.line.Line.{Line}
use Rattle.trace_words.specs.declared.line.Line.TheVariants as trace
use Rattle.trace_words.specs.declared.fault.TraceFault.{TraceFault}
use Rattle.trace_words.specs.Trace.{line_text}
use Rattle.trace_progress.specs.declared.progress.Progress.TheVariants.{Running}
use Rattle.trace_progress.specs.Effects.{effect_of, running, states_of_imsi}
use Rattle.trace_words.specs.declared.act.ScriptAct.{ScriptAct}
use Rattle.trace_words.specs.declared.act.ScriptAct.TheVariants.{Station, Up, Raw, Radio, Phone}
use Rattle.trace_words.specs.declared.script_line.ScriptLine.{ScriptLine}
use Rattle.trace_words.specs.declared.script_line.ScriptLine.TheVariants.{Trace, Act}
use Rattle.trace_words.specs.Script.{script_line_of}
use Rattle.sim_crowd.specs.declared.acted.Acted.{Acted}
use Rattle.sim_crowd.specs.declared.acted.Acted.TheVariants.{Skipped, Silent, Sends}
use Rattle.sim_crowd.specs.declared.crowd.Crowd.{Crowd}
use Rattle.sim_crowd.specs.Acting.{Outcome, acting, acting_there, adding_station, setting_up}
use Rattle.sim_crowd.specs.Crowds.{in_network, with_phone_for, with_station_left, with_vector_given}
use Rattle.sim_crowd.specs.Stations.{site_of}
use Rattle.sim_crowd.specs.Uplinks.{UplinkView}
use Rattle.sim_printing.specs.Printed.{skipped_line}
use Rattle.sim_printing.specs.Shown.{with_line, with_states}
use Rattle.sim_lines.specs.Turns.{PlaysAnswers, PlaysQueue, Scene, Sending, Turned, answering, message_sending, no_sending, sending, sending_as, turned_then, uplink_of, with_crowd}

-- ---- what comes of an act

-- a message is played, with what is answered to it
abbrev pub PlaysMessage : UplinkView → Scene → Scene → Type 0
PlaysMessage u old new = PlaysAnswers (message_sending u old) new

-- it is told that an act can't be done
abbrev pub with_skipped : Scene → Scene
with_skipped s = record s { page = s.page ++ skipped_line }

abbrev pub PlaysActed : Acted → Scene → Scene → Type 0
PlaysActed Skipped old new = new ≡ with_skipped old
PlaysActed Silent old new = new ≡ old
PlaysActed (Sends u) old new = PlaysMessage u old new

abbrev pub PlaysOutcome : Outcome → Scene → Scene → Type 0
PlaysOutcome o old new = PlaysActed o.acted (with_crowd o.crowd old) new

-- ---- a station connects, and is set up

-- what the MME sends where a station does so, if it does
abbrev pub acted_sending : Acted → Scene → Sending
acted_sending Skipped s = no_sending s
acted_sending Silent s = no_sending s
acted_sending (Sends u) s = message_sending u s

abbrev pub outcome_sending : Outcome → Scene → Sending
outcome_sending o s = acted_sending o.acted (with_crowd o.crowd s)

-- the station asks to be set up
abbrev pub set_up_sending : ℕ → Scene → Sending
set_up_sending n s = outcome_sending (setting_up n s.crowd) s

-- its connection comes first, and both are answered before an answer is played
abbrev pub connecting : ℕ → Scene → Turned
connecting n s =
    turned_then (answering (sending (event.Up n) (line_text (trace.Up n)) s)) (λ t. answering (set_up_sending n t))

abbrev pub PlaysConnection : Bool → ℕ → Scene → Scene → Type 0
PlaysConnection false n old new = new ≡ with_skipped old
PlaysConnection true n old new = PlaysQueue (connecting n old).sent (connecting n old).scene new

-- if there is such a station
abbrev pub PlaysUp : ℕ → Scene → Scene → Type 0
PlaysUp n old new = PlaysConnection (is_some (site_of n old.crowd.stations)) n old new

-- ---- acts

abbrev pub PlaysAct : ScriptAct → Scene → Scene → Type 0
PlaysAct (Station line) old new = PlaysOutcome (adding_station line old.crowd) old new
PlaysAct (Up n) old new = PlaysUp n old new
PlaysAct (Raw n octets) old new = PlaysMessage (uplink_of n octets) old new
PlaysAct (Radio word imsi place) old new = PlaysOutcome (acting_there word imsi place old.crowd) old new
PlaysAct (Phone word imsi) old new = PlaysOutcome (acting word imsi old.crowd) old new

-- ---- events

-- the station is as new once its connection is lost, and so it is when the MME's messages come
abbrev pub losing : ℕ → Sending → Sending
losing n x = sending_as x.sent (with_crowd (with_station_left n x.scene.crowd) x.scene)

abbrev pub PlaysLoss : ℕ → Scene → Scene → Type 0
PlaysLoss n old new = PlaysAnswers (losing n (sending (event.Lost n) (line_text (trace.Lost n)) old)) new

-- a second passes
abbrev pub tick_sending : Scene → Sending
tick_sending s = sending event.Tick (line_text (trace.Tick 1)) s

-- so many, none of them refused; what is answered to each is played before the next
abbrev pub TakesTicks : ℕ → Scene → Scene → Type 0
TakesTicks zero old new = new ≡ old
TakesTicks (suc n) old new =
    (mid : Scene) × TakesTicks n old mid × IsSome (tick_sending mid).sent × PlaysAnswers (tick_sending mid) new

-- fewer, and then one that is refused
abbrev pub StopsTicks : ℕ → Scene → Scene → Type 0
StopsTicks count old new =
    (n : ℕ) × (mid : Scene) × (n < count) × TakesTicks n old mid × IsNone (tick_sending mid).sent
    × (new ≡ (tick_sending mid).scene)

-- all, or up to the first that is refused
abbrev pub PlaysTicks : ℕ → Scene → Scene → Type 0
PlaysTicks count old new = TakesTicks count old new ⊎ StopsTicks count old new

-- ---- what is provisioned, and what is asked

-- the line is taken, and printed as it was read
pub record PlaysProvision (line : Line) (text : List ℕ) (crowd : Crowd) (old new : Scene) : Type 0 where
  pub taken : effect_of old.progress line ≡ Ok (new.progress, [])
  pub crowd_is : new.crowd ≡ crowd
  pub page_is : new.page ≡ with_line text old.page

abbrev pub shown_by : Result World TraceFault → List ℕ → List ℕ → Scene → Scene
shown_by (Err fault) imsi text s = s
shown_by (Ok world) imsi text s = record {
  progress = Running world;
  crowd = s.crowd;
  page = with_states text imsi (states_of_imsi imsi world) s.page;
}

-- a subscriber is shown
abbrev pub showing : List ℕ → List ℕ → Scene → Scene
showing imsi text s = shown_by (running s.progress) imsi text s

-- ---- lines

-- a line that is read as in a trace, by its text
abbrev pub PlaysLine : Line → List ℕ → Scene → Scene → Type 0
PlaysLine trace.Skip text old new = new ≡ old
PlaysLine (trace.Mme network) text old new =
    PlaysProvision (trace.Mme network) text (in_network network.plmn old.crowd) old new
PlaysLine (trace.Sub profile) text old new =
    PlaysProvision (trace.Sub profile) text (with_phone_for profile.imsi old.crowd) old new
PlaysLine (trace.Vec imsi vector) text old new =
    PlaysProvision (trace.Vec imsi vector) text (with_vector_given imsi vector old.crowd) old new
PlaysLine (trace.Up n) text old new = PlaysUp n old new
PlaysLine (trace.Lost n) text old new = PlaysLoss n old new
PlaysLine (trace.In n octets) text old new = PlaysMessage (uplink_of n octets) old new
PlaysLine (trace.Tick n) text old new = PlaysTicks n old new
PlaysLine (trace.Data imsi) text old new = PlaysAnswers (sending (event.Data imsi) text old) new
PlaysLine (trace.Cancel imsi) text old new = PlaysAnswers (sending (event.Cancel imsi) text old) new
PlaysLine (trace.Show imsi) text old new = new ≡ showing imsi text old

abbrev pub PlaysSaid : Result ScriptLine TraceFault → List ℕ → Scene → Scene → Type 0
PlaysSaid (Ok (Trace line)) text old new = PlaysLine line text old new
PlaysSaid (Ok (Act act)) text old new = PlaysAct act old new
PlaysSaid (Err fault) text old new = ⊥

-- a line of a script, without its LF
abbrev pub PlaysText : List ℕ → Scene → Scene → Type 0
PlaysText text old new = PlaysSaid (script_line_of text) text old new
