-- What the call that plays a text makes of a handle, and what it writes.
use Rattle.std.specs.Prelude.{◌≡◌, ℕ, ◌≤◌, Bool, true, false, List, [], ◌++◌, drop, length, Option, Some, None, Result, Ok, Err}
use Rattle.c_session.specs.declared.session.Session.{Session}
use Rattle.c_session.specs.declared.text.Stop.{Stop}
use Rattle.c_session.specs.Refusals.{number_of}
use Rattle.c_session.specs.Sessions.{nothing}
use Rattle.c_session.specs.Texts.{PlaysText}
use Rattle.mme_c.specs.declared.texts.TextPlayed.{TextPlayed}

-- in an empty handle nothing is provisioned
abbrev pub session_of : Option Session → Session
session_of None = nothing
session_of (Some s) = s

-- the answer of the call
abbrev pub text_answer : Result ℕ Stop → ℕ
text_answer (Ok lines) = 0
text_answer (Err stop) = number_of stop.refusal

abbrev pub one_if_unsaid : Bool → ℕ
one_if_unsaid true = 1
one_if_unsaid false = 0

-- what it writes of the lines, whose answers have that many octets
abbrev pub text_played : Result ℕ Stop → ℕ → TextPlayed
text_played (Ok lines) answers = record { lines = lines; taken = 0; unsaid = 0; length = answers }
text_played (Err stop) answers = record {
  lines = stop.lines;
  taken = stop.taken;
  unsaid = one_if_unsaid stop.unsaid;
  length = answers;
}

-- the whole lines of a text are played, or up to where they stop; their answers stand at the start of the buffer, whose rest stays
pub record IsPlayed (s : Session) (text buffer : List ℕ) (answer : ℕ) (after : Session) (played : TextPlayed) (buffer' : List ℕ)
    : Type 0 where
  pub result : Result ℕ Stop
  pub answers : List ℕ
  pub plays : PlaysText text s (length buffer) [] result after answers
  pub number : answer ≡ text_answer result
  pub told : played ≡ text_played result (length answers)
  pub within : length answers ≤ length buffer
  pub written : buffer' ≡ answers ++ drop (length answers) buffer

-- the same of a handle; an empty one holds a session then, or there was no memory for it (4), and nothing is written
abbrev pub IsText : Option Session → List ℕ → TextPlayed → List ℕ → ℕ → Option Session → TextPlayed → List ℕ → Type 0
IsText None text played buffer answer None played' buffer' = (answer ≡ 4) × (played' ≡ played) × (buffer' ≡ buffer)
IsText None text played buffer answer (Some after) played' buffer' = IsPlayed nothing text buffer answer after played' buffer'
IsText (Some s) text played buffer answer None played' buffer' = ⊥
IsText (Some s) text played buffer answer (Some after) played' buffer' = IsPlayed s text buffer answer after played' buffer'
