-- What an ESM message that comes after the attach is answered with.
use Rattle.std.specs.Prelude.{ℕ, ◌/◌, nat_lt, Bool, List, length, slice_index, Option, Result, Ok, Err, if◌then◌else◌, Vec}
use Rattle.std.specs.Global.{Global}
use Rattle.nas_elements.specs.declared.fault.NasFault.{NasFault}
use Rattle.nas_elements.specs.declared.fault.NasFault.TheVariants as faults
use Rattle.nas_messages.specs.declared.esm_types.Esm.{Esm}
use Rattle.nas_messages.specs.declared.esm_types.EsmBody.{EsmBody}
use Rattle.nas_messages.specs.declared.esm_types.EsmBody.TheVariants.{ActivateRequest, ActivateAccept, ActivateReject, ConnectivityRequest, ConnectivityReject, DisconnectRequest, DisconnectReject, InformationRequest, InformationResponse, EsmStatus}
use Rattle.nas_messages.specs.EsmMessages.{decoded_esm}
use Rattle.esm_machine.specs.declared.cause.EsmCause.TheVariants.{RequestRejected, InvalidMandatory, UnknownType, NotCompatible}
use Rattle.esm_machine.specs.declared.reaction.Reaction.{Reaction}
use Rattle.esm_machine.specs.declared.reaction.Reaction.TheVariants.{Nothing, Informed, Answer}
use Rattle.esm_machine.specs.declared.request.Request.{Request}
use Rattle.esm_machine.specs.Sent.{connectivity_reject, disconnect_reject, status}
use Rattle.esm_machine.specs.Sessions.{Session, is_transaction_of}

-- a reaction without where its octets lie in memory
abbrev pub reaction_lists : Reaction (Vec ℕ Global) → Reaction (List ℕ)
reaction_lists Nothing = Nothing
reaction_lists Informed = Informed
reaction_lists (Answer octets) = Answer octets.items

-- ESM INFORMATION RESPONSE: what was asked for, in the right transaction; another transaction is
-- ignored while it is awaited (TS 24.301 clauses 6.6.1.2.3 and 7.3.1)
abbrev pub informed : Option Request → Bool → ℕ → ℕ → Reaction (List ℕ)
informed request waiting bearer transaction =
    if waiting then (if is_transaction_of request transaction then Informed else Nothing)
    else Answer (status NotCompatible bearer transaction)

-- by what a message says (TS 24.301 clauses 6.5.1.4, 6.5.2.4, 6.7 and 7.4): a message that only the network sends is of no known
-- type
abbrev pub reaction_to : Option Request → Bool → ℕ → ℕ → EsmBody (List ℕ) → Reaction (List ℕ)
reaction_to request waiting bearer transaction (ActivateRequest m) = Answer (status UnknownType bearer transaction)
reaction_to request waiting bearer transaction ActivateAccept = Answer (status NotCompatible bearer transaction)
reaction_to request waiting bearer transaction (ActivateReject cause) = Answer (status UnknownType bearer transaction)
reaction_to request waiting bearer transaction (ConnectivityRequest request_type pdn_type information) =
    Answer (connectivity_reject RequestRejected transaction)
reaction_to request waiting bearer transaction (ConnectivityReject cause) = Answer (status UnknownType bearer transaction)
reaction_to request waiting bearer transaction (DisconnectRequest linked) = Answer (disconnect_reject transaction)
reaction_to request waiting bearer transaction (DisconnectReject cause) = Answer (status UnknownType bearer transaction)
reaction_to request waiting bearer transaction InformationRequest = Answer (status UnknownType bearer transaction)
reaction_to request waiting bearer transaction InformationResponse = informed request waiting bearer transaction
reaction_to request waiting bearer transaction (EsmStatus cause) = Nothing

-- where octets are no message (TS 24.301 clauses 7.2, 7.4 and 7.5.1)
abbrev pub reaction_to_fault : ℕ → ℕ → NasFault → Reaction (List ℕ)
reaction_to_fault bearer transaction faults.TooShort = Nothing
reaction_to_fault bearer transaction faults.Mandatory = Answer (status InvalidMandatory bearer transaction)
reaction_to_fault bearer transaction faults.UnknownType = Answer (status UnknownType bearer transaction)
reaction_to_fault bearer transaction faults.OptionalPart = Answer (status InvalidMandatory bearer transaction)
reaction_to_fault bearer transaction faults.NoMemory = Nothing

abbrev pub reaction_by : Session → Bool → List ℕ → Result (Esm (List ℕ)) NasFault → Reaction (List ℕ)
reaction_by session waiting octets (Ok m) = reaction_to session.request waiting m.bearer m.transaction m.body
reaction_by session waiting octets (Err fault) = reaction_to_fault (slice_index octets 0 / 16) (slice_index octets 1) fault

-- what is too short for a message type is ignored (TS 24.301 clause 7.2)
unfoldable pub reaction : Session → Bool → List ℕ → Reaction (List ℕ)
reaction session waiting octets =
    if nat_lt (length octets) 3 then Nothing else reaction_by session waiting octets (decoded_esm octets)
