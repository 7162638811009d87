-- What is seen of a state.
use Rattle.std.specs.Prelude.{ℕ, ◌==◌, Bool, true, false, replicate, Option, Some, None, is_some}
use Rattle.std.specs.List.{list_any}
use Rattle.esm_machine.specs.Requests.{inactive}
use Rattle.emm_state.specs.declared.solo.Asked.{Asked}
use Rattle.emm_state.specs.declared.solo.Countdown.{Countdown}
use Rattle.emm_state.specs.declared.solo.Phase.{Phase}
use Rattle.emm_state.specs.declared.solo.Phase.TheVariants as phases
use Rattle.emm_state.specs.declared.solo.Repeat.{Repeat}
use Rattle.emm_state.specs.declared.solo.Repeat.TheVariants as repeats
use Rattle.emm_state.specs.declared.solo.Solo.{Solo}
use Rattle.emm_machine.specs.declared.subscriber.EmmState.{EmmState}
use Rattle.emm_machine.specs.declared.subscriber.EmmState.TheVariants.{Deregistered, CommonProcedureInitiated, Registered, DeregisteredInitiated}
use Rattle.emm_machine.specs.declared.subscriber.EcmState.{EcmState}
use Rattle.emm_machine.specs.declared.subscriber.EcmState.TheVariants.{Idle, Connected}
use Rattle.emm_machine.specs.declared.subscriber.States.{States}

-- the EMM state (TS 24.301 clause 5.1.3.4)
abbrev pub emm_of : Phase → EmmState
emm_of phases.Deregistered = Deregistered
emm_of phases.Authenticating = CommonProcedureInitiated
emm_of phases.SecurityMode = CommonProcedureInitiated
emm_of phases.EsmInformation = CommonProcedureInitiated
emm_of phases.Accepting = CommonProcedureInitiated
emm_of phases.Updating = CommonProcedureInitiated
emm_of phases.Registered = Registered
emm_of phases.Detaching = DeregisteredInitiated

-- the ECM state (TS 23.401 clause 4.6.3)
abbrev pub ecm_of : Bool → EcmState
ecm_of true = Connected
ecm_of false = Idle

abbrev pub states_of : Solo → States
states_of s = record { emm = emm_of s.phase; ecm = ecm_of (is_some s.connection); esm = s.bearer.state }

-- the ticks left of a procedure
abbrev pub procedure_left : Option Countdown → Option ℕ
procedure_left None = None
procedure_left (Some c) = Some c.left

-- whether the paging to repeat goes to a station
abbrev pub pages_in : Option Repeat → ℕ → Bool
pages_in (Some (repeats.Paging es)) station = list_any (λ e. e == station) es
pages_in (Some (repeats.Nas protection nas)) station = false
pages_in None station = false

-- nothing was asked for
abbrev pub not_asked : Asked
not_asked = record { capability = replicate 2 0; combined_attach = false; initial_update = false }

-- a subscriber who was never seen
abbrev pub fresh_solo : Solo
fresh_solo = record {
  phase = phases.Deregistered;
  connection = None;
  context = None;
  associations = 0;
  tmsis = 0;
  tmsi = None;
  next_vector = 0;
  tai = record { plmn = replicate 3 0; tac = replicate 2 0 };
  asked = not_asked;
  bearer = inactive;
  repeat = None;
  procedure = None;
  reachable = None;
}
