-- The whole lines of a text, played one after another, and what is written of them.
use Rattle.std.specs.Prelude.{◌≡◌, ◌⊎◌, ℕ, zero, suc, ◌+◌, ◌<◌, ◌≤◌, Bool, true, false, List, [], ◌∷◌, ◌++◌, length, take, Result, Ok, Err}
use Rattle.mme_core.specs.declared.event.Event.{Event}
use Rattle.mme_core.specs.declared.event.Event.TheVariants as event
use Rattle.mme_core.specs.World.{World, reply, world_after}
use Rattle.mme_answering.specs.declared.out.Out.{Out}
use Rattle.trace_words.specs.Trace.{◌>>=◌, line_of}
use Rattle.trace_words.specs.declared.fault.TraceFault.{TraceFault}
use Rattle.trace_words.specs.declared.line.Line.{Line}
use Rattle.trace_words.specs.declared.line.Line.TheVariants.{Skip, Mme, Sub, Vec, Up, Lost, In, Tick, Data, Cancel, Show}
use Rattle.trace_answers.specs.Words.{answers_of}
use Rattle.trace_progress.specs.declared.progress.Progress.{Progress}
use Rattle.trace_progress.specs.declared.progress.Progress.TheVariants.{Nothing}
use Rattle.trace_progress.specs.Acts.{IsIdle}
use Rattle.trace_progress.specs.Effects.{Effect, event_played, in_event, left, running, shown, ticked}
use Rattle.trace_progress.specs.Replies.{reply_text}
use Rattle.trace_progress.specs.Text.{breaks, line_effect, lines_of, play, prepended}
use Rattle.c_session.specs.declared.refusal.Refusal.{Refusal}
use Rattle.c_session.specs.declared.refusal.Refusal.TheVariants as refusals
use Rattle.c_session.specs.declared.said.LineStop.{LineStop}
use Rattle.c_session.specs.declared.said.Short.{Short}
use Rattle.c_session.specs.declared.session.Session.{Session}
use Rattle.c_session.specs.declared.text.Stop.{Stop}
use Rattle.c_session.specs.Kept.{Reply}
use Rattle.c_session.specs.Refusals.{of_line}

-- the whole lines of a text, each of which ends with its LF; what comes after the last LF is none of them
abbrev pub whole_lines : List ℕ → List (List ℕ)
whole_lines text = take (breaks text) (lines_of text)

-- ---- lines that are played

-- the same, with what was written before
abbrev pub with_front : List ℕ → Effect → Effect
with_front front (Ok done) = Ok (done.0, front ++ done.1)
with_front front (Err fault) = Err fault

-- what lines leave and write, one after another, or the fault of the first that has one
unfoldable pub lines_effect : Progress → List (List ℕ) → Effect
lines_effect progress [] = Ok (progress, [])
lines_effect progress (text ∷ texts) = line_effect progress text >>= (λ done. with_front done.1 (lines_effect done.0 texts))

-- lines are played, and this is what they leave and write: it is what a run prints of them, which goes on from there with whatever
-- lines come after them
pub record ArePlayed (old : Progress) (lines : List (List ℕ)) (new : Progress) (written : List ℕ) : Type 0 where
  pub leave : lines_effect old lines ≡ Ok (new, written)
  pub print : (number : ℕ) (others : List (List ℕ))
      → play old number (lines ++ others) ≡ prepended written (play new (number + length lines) others)

-- these octets are added to those before, and all stay within that room
abbrev pub Adds : ℕ → List ℕ → List ℕ → List ℕ → Type 0
Adds room before written after = (after ≡ before ++ written) × (length before ≤ room → length after ≤ room)

-- ---- one event

-- why octets aren't added to those before: there is no memory, or no room for them
abbrev pub IsFor : Refusal → ℕ → List ℕ → List ℕ → Type 0
IsFor refusal room before octets =
    (refusal ≡ refusals.NoMemory) ⊎ ((refusal ≡ refusals.NoRoom) × (room < length before + length octets))

-- an event that isn't answered wasn't taken, or it was, and its answers are the replies
abbrev pub IsLeft : Bool → World → Event → World → List Reply → Type 0
IsLeft false world event after replies = after ≡ world
IsLeft true world event after replies =
    (outs : List Out) × (reply world event ≡ Ok outs) × (after ≡ world_after world event) × (replies ≡ Ok outs ∷ [])

abbrev pub IsShort : World → Event → Short → ℕ → List ℕ → World → List Reply → Type 0
IsShort world event short room said after replies =
    IsFor short.refusal room said (reply_text (reply world event)) × IsLeft short.unsaid world event after replies

-- where the line stops at such an event, after so many that were taken and answered
abbrev pub stopped : Short → ℕ → LineStop
stopped short taken = record { taken = taken; unsaid = short.unsaid; refusal = short.refusal }

-- where a line stops of which nothing is done
abbrev pub undone : Refusal → LineStop
undone refusal = record { taken = 0; unsaid = false; refusal = refusal }

-- the same of what a step of provisioning answered
abbrev pub silent : Result (Unit {0}) Refusal → Result (Unit {0}) LineStop
silent (Ok _) = Ok tt
silent (Err refusal) = Err (undone refusal)

-- ---- the events of a line

-- the first n events of a line that has one
abbrev pub once : World → Event → ℕ → World × List ℕ
once world event zero = (world, [])
once world event (suc n) = event_played world event

-- what the first n events of a line leave and write, of which `first` says it for the MME that the line speaks to
abbrev pub first_taken : Progress → (World → ℕ → World × List ℕ) → ℕ → Effect
first_taken progress first n = running progress >>= (λ world. left (first world n))

-- the same of each line, of a question as of one event; with none of them the MME runs, where the line is for one
abbrev pub first_events : Progress → Line → ℕ → Effect
first_events progress Skip n = Ok (progress, [])
first_events progress (Mme network) n = Ok (progress, [])
first_events progress (Sub profile) n = Ok (progress, [])
first_events progress (Vec imsi vector) n = Ok (progress, [])
first_events progress (Up e) n = first_taken progress (λ world. once world (event.Up e)) n
first_events progress (Lost e) n = first_taken progress (λ world. once world (event.Lost e)) n
first_events progress (In e octets) n = first_taken progress (λ world. once world (in_event e octets)) n
first_events progress (Tick count) n = first_taken progress (λ world m. ticked m world) n
first_events progress (Data imsi) n = first_taken progress (λ world. once world (event.Data imsi)) n
first_events progress (Cancel imsi) n = first_taken progress (λ world. once world (event.Cancel imsi)) n
first_events progress (Show imsi) zero = first_taken progress (λ world n. (world, [])) 0
first_events progress (Show imsi) (suc n) = shown progress imsi

-- how many events a line has, a question for one
abbrev pub events_in : Line → ℕ
events_in Skip = 0
events_in (Mme network) = 0
events_in (Sub profile) = 0
events_in (Vec imsi vector) = 0
events_in (Up e) = 1
events_in (Lost e) = 1
events_in (In e octets) = 1
events_in (Tick count) = count
events_in (Data imsi) = 1
events_in (Cancel imsi) = 1
events_in (Show imsi) = 1

abbrev pub events_of : Result Line TraceFault → ℕ
events_of (Ok line) = events_in line
events_of (Err fault) = 0

-- the first events of a line that is read
abbrev pub first_of_text : Progress → List ℕ → ℕ → Effect
first_of_text progress text n = line_of text >>= (λ line. first_events progress line n)

-- ---- where a line stops

-- the event that isn't answered wasn't taken, or it was: then it left this, and its answers, which aren't written, are the replies
abbrev pub IsPassed : {A : Type 0} → Bool → A → A → A → List ℕ → List Reply → Type 0
IsPassed false before after leaves next replies = leaves ≡ before
IsPassed true before after leaves next replies =
    (leaves ≡ after) × ((outs : List Out) × (replies ≡ Ok outs ∷ []) × (next ≡ answers_of outs))

-- the events that were taken and answered, of an MME that runs, and what the next one, which isn't answered, leaves and writes
pub record HasPassed (first : ℕ → World × List ℕ) (most : ℕ) (stop : LineStop) (room : ℕ) (said : List ℕ) (world : World)
    (replies : List Reply) (written : List ℕ) : Type 0 where
  pub before : World
  pub after : World
  pub next : List ℕ
  pub within : stop.taken < most
  pub passed : first stop.taken ≡ (before, written)
  pub coming : first (stop.taken + 1) ≡ (after, written ++ next)
  pub why : IsFor stop.refusal room said next
  pub leaves : IsPassed stop.unsaid before after world next replies

-- the same of a line
pub record IsCut (first : ℕ → Effect) (most : ℕ) (stop : LineStop) (room : ℕ) (said : List ℕ) (new : Session)
    (written : List ℕ) : Type 0 where
  pub before : Progress
  pub after : Progress
  pub next : List ℕ
  pub within : stop.taken < most
  pub passed : first stop.taken ≡ Ok (before, written)
  pub coming : first (stop.taken + 1) ≡ Ok (after, written ++ next)
  pub why : IsFor stop.refusal room said next
  pub leaves : IsPassed stop.unsaid before after new.progress next new.replies

-- no event was taken, and nothing is written
abbrev pub IsUndone : LineStop → List ℕ → Type 0
IsUndone stop written = (stop.taken ≡ 0) × (stop.unsaid ≡ false) × (written ≡ [])

-- the line has a fault, as in a run; the MME may have been started for the question that nobody can answer
pub record HasFault (effect : Effect) (first : ℕ → Effect) (old : Session) (stop : LineStop) (new : Session) (written : List ℕ)
    : Type 0 where
  pub fault : TraceFault
  pub why : stop.refusal ≡ of_line fault
  pub owed : effect ≡ Err fault
  pub undone : IsUndone stop written
  pub leaves : (new.progress ≡ old.progress) ⊎ (first 0 ≡ Ok (new.progress, []))

-- memory ran out, and nothing has changed
pub record IsUntaken (old : Session) (stop : LineStop) (new : Session) (written : List ℕ) : Type 0 where
  pub why : stop.refusal ≡ refusals.NoMemory
  pub undone : IsUndone stop written
  pub same : new.progress ≡ old.progress

-- memory ran out while the MME was made, where none ran: nothing is provisioned any more
pub record IsLostThere (old : Session) (stop : LineStop) (new : Session) (written : List ℕ) : Type 0 where
  pub why : stop.refusal ≡ refusals.Lost
  pub undone : IsUndone stop written
  pub idle : IsIdle old.progress
  pub nothing : new.progress ≡ Nothing

-- why a line isn't played to its end, and what it has left and written
abbrev pub StopsAt : Effect → (ℕ → Effect) → ℕ → Session → LineStop → ℕ → List ℕ → Session → List ℕ → Type 0
StopsAt effect first most old stop room said new written =
    HasFault effect first old stop new written
    ⊎ (IsUntaken old stop new written ⊎ (IsLostThere old stop new written ⊎ IsCut first most stop room said new written))

-- what a line leaves and writes, or where it stops
abbrev pub Says : Effect → (ℕ → Effect) → ℕ → Session → ℕ → List ℕ → Result (Unit {0}) LineStop → Session → List ℕ → Type 0
Says effect first most old room said (Ok _) new said' =
    (written : List ℕ) × (effect ≡ Ok (new.progress, written)) × Adds room said written said'
Says effect first most old room said (Err stop) new said' =
    (written : List ℕ) × StopsAt effect first most old stop room said' new written × Adds room said written said'

-- the same of what an MME does that runs
abbrev pub WorldSays : World × List ℕ → (ℕ → World × List ℕ) → ℕ → ℕ → List ℕ → Result (Unit {0}) LineStop → World → List Reply
    → List ℕ → Type 0
WorldSays all first most room said (Ok _) world replies said' =
    (written : List ℕ) × (all ≡ (world, written)) × Adds room said written said'
WorldSays all first most room said (Err stop) world replies said' =
    (written : List ℕ) × HasPassed first most stop room said' world replies written × Adds room said written said'

-- ---- the lines of a text

abbrev pub line_stop : Stop → LineStop
line_stop stop = record { taken = stop.taken; unsaid = stop.unsaid; refusal = stop.refusal }

-- the lines before that one are played, and it isn't played to its end
pub record StopsIn (lines : List (List ℕ)) (old : Session) (stop : Stop) (room : ℕ) (said : List ℕ) (new : Session)
    (written : List ℕ) : Type 0 where
  pub before : List (List ℕ)
  pub line : List ℕ
  pub others : List (List ℕ)
  pub parted : lines ≡ before ++ line ∷ others
  pub count : length before ≡ stop.lines
  pub mid : Session
  pub first : List ℕ
  pub second : List ℕ
  pub played : ArePlayed old.progress before mid.progress first
  pub stops : StopsAt (line_effect mid.progress line) (first_of_text mid.progress line) (events_of (line_of line)) mid
      (line_stop stop) room said new second
  pub joined : written ≡ first ++ second

-- the whole lines of a text are played, so many, or up to where they stop
abbrev pub PlaysText : List ℕ → Session → ℕ → List ℕ → Result ℕ Stop → Session → List ℕ → Type 0
PlaysText text old room said (Ok count) new said' =
    (written : List ℕ) × ArePlayed old.progress (whole_lines text) new.progress written × (count ≡ length (whole_lines text))
    × Adds room said written said'
PlaysText text old room said (Err stop) new said' =
    (written : List ℕ) × StopsIn (whole_lines text) old stop room said' new written × Adds room said written said'
