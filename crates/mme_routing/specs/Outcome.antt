-- What comes of what a station sends.
use Rattle.std.specs.Prelude.{ℕ, List, [], Option, Some, None}
use Rattle.s1ap_causes.specs.declared.cause.Cause.{Cause}
use Rattle.s1ap_causes.specs.declared.cause.Cause.TheVariants.{Protocol}
use Rattle.s1ap_causes.specs.declared.cause.ProtocolCause.TheVariants.{MessageNotCompatible}
use Rattle.s1ap_pdus.specs.declared.pdu.Pdu.{Pdu}
use Rattle.s1ap_pdus.specs.declared.pdu.Pdu.TheVariants as pdu
use Rattle.mme_types.specs.declared.octets.Answer.{Answer}
use Rattle.mme_types.specs.declared.stations.StationState.{StationState}
use Rattle.stranger_machine.specs.declared.turn.Notice.TheVariants.{Gone}
use Rattle.stranger_machine.specs.Turns.{sent_to}
use Rattle.mme_routing.specs.Destinations.{Destination, Nobody, Everyone}

-- the station's new state, if it has one, what is sent for it, and where the event goes
pub record Outcome : Type 0 where
  pub state : Option StationState
  pub sent : List Answer
  pub destination : Destination

abbrev pub answered : List Answer → Outcome
answered sent = record { state = None; sent = sent; destination = Nobody }

abbrev pub goes_to : Destination → Outcome
goes_to d = record { state = None; sent = []; destination = d }

-- the associations of a station end, with what is sent for it
abbrev pub begins_anew : ℕ → Option StationState → List Answer → Outcome
begins_anew e state sent = record { state = state; sent = sent; destination = Everyone (Gone e) }

-- an ERROR INDICATION without ids
abbrev pub indication : Cause → Pdu (List ℕ)
indication cause = pdu.ErrorIndication (record { mme_ue_id = None; enb_ue_id = None; cause = Some cause })

-- a message that the state of the station doesn't take
abbrev pub not_compatible : ℕ → Outcome
not_compatible e = answered (sent_to e (indication (Protocol MessageNotCompatible)))
