-- What one stranger does at an event, and what it sends.
use Rattle.std.specs.Prelude.{ℕ, List, ◌++◌, Option, Some, None}
use Rattle.s1ap_causes.specs.declared.cause.Cause.{Cause}
use Rattle.s1ap_causes.specs.declared.cause.Cause.TheVariants.{Nas}
use Rattle.s1ap_causes.specs.declared.cause.NasCause.TheVariants.{NormalRelease}
use Rattle.s1ap_pdus.specs.declared.pdu.Pdu.{Pdu}
use Rattle.s1ap_pdus.specs.Pdus.{encoded}
use Rattle.mme_types.specs.declared.event.Entry.{Entry}
use Rattle.mme_types.specs.declared.octets.Answer.{Answer}
use Rattle.mme_types.specs.declared.connection.Connection.{Connection}
use Rattle.mme_types.specs.declared.stations.StationState.{StationState}
use Rattle.mme_types.specs.Answers.{answer_of}
use Rattle.mme_signalling.specs.Messages.{identity_request}
use Rattle.mme_signalling.specs.Pdus.{downlink, release_command}
use Rattle.mme_types.specs.Events.{Item, item_of}
use Rattle.stranger_machine.specs.declared.state.KeptEntry.{KeptEntry}
use Rattle.stranger_machine.specs.declared.state.Stranger.{Stranger}
use Rattle.stranger_machine.specs.declared.turn.After.{After}
use Rattle.stranger_machine.specs.declared.turn.After.TheVariants as after
use Rattle.stranger_machine.specs.declared.turn.Call.{Call as CallInCode}
use Rattle.stranger_machine.specs.declared.turn.Turn.{Turn as TurnInCode}

-- a subscriber that a stranger calls, and with what
pub record Call : Type 0 where
  pub slot : ℕ
  pub item : Item

-- the stranger after an event, what it sends, and whom it calls; a stranger that is none is closed
pub record Turn : Type 0 where
  pub stranger : Option Stranger
  pub sent : List Answer
  pub call : Option Call

-- it stays, and sends these
abbrev pub stays : Option Stranger → List Answer → Turn
stays s sent = record { stranger = s; sent = sent; call = None }

-- it is closed after these
abbrev pub closing : List Answer → Turn
closing sent = record { stranger = None; sent = sent; call = None }

abbrev pub also_calling : Option Call → Turn → Turn
also_calling call t = record t { call = call }

-- ---- what is sent

abbrev pub sent_to : ℕ → Pdu (List ℕ) → List Answer
sent_to station message = answer_of station None (encoded message)

-- an INITIAL UE MESSAGE as it is kept, and as it was
abbrev pub as_kept : Entry (List ℕ) → KeptEntry
as_kept m = record { station = m.station; enb_ue_id = m.enb_ue_id; nas = m.nas; tai = m.tai }

abbrev pub as_entry : KeptEntry → Entry (List ℕ)
as_entry k = record { station = k.station; enb_ue_id = k.enb_ue_id; nas = k.nas; tai = k.tai }

-- the association of a stranger
abbrev pub place_of : ℕ → KeptEntry → Connection
place_of id k = record { id = id; station = k.station; enb_ue_id = k.enb_ue_id }

unfoldable pub released : Connection → Cause → List Answer
released k cause = sent_to k.station (release_command k.id k.enb_ue_id cause)

-- the NAS message, plain, and a release
unfoldable pub refused : Connection → List ℕ → List Answer
refused k nas = sent_to k.station (downlink k nas) ++ released k (Nas NormalRelease)

-- IDENTITY REQUEST
unfoldable pub identity_asked : Connection → List Answer
identity_asked k = sent_to k.station (downlink k identity_request)

-- ---- what functions of the code returned

abbrev pub after_of : After → Option Stranger → Option Stranger
after_of after.Stays s = s
after_of after.Closed s = None
after_of (after.Is x) s = Some x

-- a call is the same for all stations
abbrev pub call_of : List StationState → Option CallInCode → Option Call
call_of stations None = None
call_of stations (Some c) = Some (record { slot = c.slot; item = item_of c.event stations })

abbrev pub turn_of : List StationState → Option Stranger → TurnInCode → Turn
turn_of stations s t = record { stranger = after_of t.after s; sent = t.sent; call = call_of stations t.call }
