-- An MME from the provisioning lines of a trace.
use Rattle.std.specs.Prelude.{◌≡◌, ◌⊎◌, ℕ, ◌+◌, ◌-◌, ◌≤◌, ◌==◌, List, [], ◌∷◌, length, take, Result, Ok, Err, IsOk}
use Rattle.std.specs.List.{slice_split}
use Rattle.trace_words.specs.declared.line.Line.{Line}
use Rattle.trace_words.specs.declared.line.Line.TheVariants.{Skip, Mme, Sub, Vec, Up, Lost, In, Tick, Data, Cancel, Show}
use Rattle.trace_words.specs.Trace.{line_of}
use Rattle.trace_progress.specs.Effects.{configured, subscriber_added, vector_given}
use Rattle.c_session.specs.declared.refusal.Refusal.{Refusal}
use Rattle.c_session.specs.declared.refusal.Refusal.TheVariants as refusals
use Rattle.c_session.specs.declared.lines.LinesFault.{LinesFault}
use Rattle.c_session.specs.declared.session.Session.{Session}
use Rattle.c_session.specs.Refusals.{◌>>=◌, of_field}
use Rattle.c_session.specs.Sessions.{nothing, started, with_effect}

-- what a provisioning line makes of a session; a line of an event or a question is out of order
abbrev pub provisioned_by : Session → Line → Result Session Refusal
provisioned_by s Skip = Ok s
provisioned_by s (Mme network) = with_effect s (configured s.progress network)
provisioned_by s (Sub profile) = with_effect s (subscriber_added s.progress profile)
provisioned_by s (Vec imsi vector) = with_effect s (vector_given s.progress imsi vector)
provisioned_by s (Up e) = Err refusals.Order
provisioned_by s (Lost e) = Err refusals.Order
provisioned_by s (In e octets) = Err refusals.Order
provisioned_by s (Tick n) = Err refusals.Order
provisioned_by s (Data imsi) = Err refusals.Order
provisioned_by s (Cancel imsi) = Err refusals.Order
provisioned_by s (Show imsi) = Err refusals.Order

abbrev pub provisioned_from : Session → List ℕ → Result Session Refusal
provisioned_from s text = of_field (line_of text) >>= provisioned_by s

-- the refusal of the line of that number
abbrev pub at_line : ℕ → Result Session Refusal → Result Session LinesFault
at_line number (Ok s) = Ok s
at_line number (Err refusal) = Err (record { line = number; refusal = refusal })

abbrev pub then_lines : Result Session LinesFault → (Session → Result Session LinesFault) → Result Session LinesFault
then_lines (Ok s) others = others s
then_lines (Err fault) others = Err fault

-- the lines of a text, which are parted by LF: after its last LF there is one more, which may be empty
abbrev pub all_lines : List ℕ → List (List ℕ)
all_lines text = slice_split (λ c. c == 10) text

-- what a session after N lines is once it has taken these, or the first line that isn't taken
unfoldable pub provisioned_after : ℕ → Session → List (List ℕ) → Result Session LinesFault
provisioned_after number s [] = Ok s
provisioned_after number s (text ∷ texts) =
    then_lines (at_line (number + 1) (provisioned_from s text)) (λ after. provisioned_after (number + 1) after texts)

-- what these lines provision, or the first that isn't taken
abbrev pub provisioned_of : List (List ℕ) → Result Session LinesFault
provisioned_of lines = provisioned_after 0 nothing lines

-- the session that the lines of a text make, which starts after the last of them, or the first line that isn't taken
abbrev pub made_of : List ℕ → Result Session LinesFault
made_of text = then_lines (provisioned_of (all_lines text)) (λ s. at_line (length (all_lines text)) (started s))

-- ---- memory ran out

-- memory was refused at one of these lines, which the fault names; those before it were taken, and provisioned what is left
pub record IsShortAt (lines : List (List ℕ)) (fault : LinesFault) (left : Session) : Type 0 where
  pub memory : fault.refusal ≡ refusals.NoMemory
  pub first : 1 ≤ fault.line
  pub last : fault.line ≤ length lines
  pub before : provisioned_of (take (fault.line - 1) lines) ≡ Ok left

-- the lines of a text make an MME, and memory was refused while it was made, after the last line, which the fault names
pub record IsLostAt (text : List ℕ) (fault : LinesFault) : Type 0 where
  pub lost : fault.refusal ≡ refusals.Lost
  pub line : fault.line ≡ length (all_lines text)
  pub made : IsOk (made_of text)

-- memory was refused at a line of a text, or while the MME of all of them was made; and this is left of the session
abbrev pub IsOfMemory : List ℕ → LinesFault → Session → Type 0
IsOfMemory text fault left = IsShortAt (all_lines text) fault left ⊎ IsLostAt text fault

-- memory was refused at a line of a text, before which all were taken, or while the MME of all of them was made
abbrev pub IsShortOf : List ℕ → LinesFault → Type 0
IsShortOf text fault = (left : Session) × IsOfMemory text fault left
