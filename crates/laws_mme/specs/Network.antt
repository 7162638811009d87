-- The NAS messages that a network sends (TS 24.301 clauses 8.2 and 8.3), and that those which the machine builds are such.
use Rattle.std.specs.Prelude.{◌≡◌, ℕ, Bool, true, false, nat_lt, List, [], ◌∷◌, length, Option, Some, Result, Ok, Err}
use Rattle.std.proofs.Common.{refl}
use Rattle.nas_elements.specs.Capability.{replayed}
use Rattle.nas_elements.specs.Codes.{no_bearer}
use Rattle.nas_elements.specs.Identities.{guti_octets, tai_list_octets}
use Rattle.nas_elements.specs.Timers.{t3412_octet}
use Rattle.nas_elements.specs.declared.fault.NasFault.{NasFault}
use Rattle.nas_elements.specs.declared.fault.NasFault.TheVariants as faults
use Rattle.nas_messages.specs.declared.emm_types.Emm.{Emm}
use Rattle.nas_messages.specs.declared.emm_types.Emm.TheVariants as emm
use Rattle.nas_messages.specs.declared.esm_types.Esm.{Esm}
use Rattle.nas_messages.specs.declared.esm_types.EsmBody.{EsmBody}
use Rattle.nas_messages.specs.declared.esm_types.EsmBody.TheVariants as bodies
use Rattle.nas_messages.specs.EsmMessages.{decoded_esm, encoded_esm}
use Rattle.nas_messages.specs.Messages.{encoded_emm}
use Rattle.esm_machine.specs.declared.cause.EsmCause.{EsmCause}
use Rattle.esm_machine.specs.declared.cause.EsmCause.TheVariants.{LastDisconnection}
use Rattle.esm_machine.specs.Causes.{esm_cause_code}
use Rattle.esm_machine.specs.declared.reaction.Reaction.{Reaction}
use Rattle.esm_machine.specs.declared.reaction.Reaction.TheVariants as reactions
use Rattle.esm_machine.specs.declared.request.Request.{Request}
use Rattle.esm_machine.specs.Reactions.{informed, reaction, reaction_by, reaction_to, reaction_to_fault}
use Rattle.esm_machine.specs.Sent.{connectivity_reject, disconnect_reject, information_request, status}
use Rattle.esm_machine.specs.Sessions.{Session, is_transaction_of, transaction_of}
use Rattle.mme_types.specs.declared.network.Network.{Network}
use Rattle.mme_signalling.specs.declared.cause.EmmCause.{EmmCause}
use Rattle.mme_signalling.specs.declared.messages.Grant.{Grant}
use Rattle.mme_signalling.specs.Causes.{emm_cause_code}
use Rattle.mme_signalling.specs.Messages.{attach_accept, attach_reject, authentication_reject, authentication_request, cause_of_combined, detach_accept, emm_status, guti, network_detach, security_mode_command, service_reject, tai_list, update_accept, update_reject}
use Rattle.laws_subscriber.specs.Choices.{either}

-- ---- the messages that a network sends

-- of mobility management (TS 24.301 clause 8.2)
abbrev pub is_emm_of_network : Emm (List ℕ) → Bool
is_emm_of_network (emm.AttachAccept m) = true
is_emm_of_network (emm.AttachReject m) = true
is_emm_of_network (emm.AuthenticationRequest m) = true
is_emm_of_network emm.AuthenticationReject = true
is_emm_of_network (emm.SecurityModeCommand m) = true
is_emm_of_network (emm.TrackingAreaUpdateAccept m) = true
is_emm_of_network (emm.TrackingAreaUpdateReject cause) = true
is_emm_of_network (emm.ServiceReject cause) = true
is_emm_of_network emm.NetworkDetach = true
is_emm_of_network emm.DetachAccept = true
is_emm_of_network (emm.EmmStatus cause) = true
is_emm_of_network _ = false

-- of session management (TS 24.301 clause 8.3)
abbrev pub is_esm_of_network : EsmBody (List ℕ) → Bool
is_esm_of_network (bodies.ActivateRequest m) = true
is_esm_of_network (bodies.ConnectivityReject cause) = true
is_esm_of_network (bodies.DisconnectReject cause) = true
is_esm_of_network bodies.InformationRequest = true
is_esm_of_network (bodies.EsmStatus cause) = true
is_esm_of_network _ = false

-- the written form of one of these
pub data IsOfNetwork (nas : List ℕ) : Type 0 where
  IsEmm : (m : Emm (List ℕ)) → nas ≡ encoded_emm m → is_emm_of_network m ≡ true → IsOfNetwork nas
  IsEsm : (m : Esm (List ℕ)) → nas ≡ encoded_esm m → is_esm_of_network m.body ≡ true → IsOfNetwork nas

-- ---- what is built is so

pub of_attach_reject : (cause : EmmCause) (esm : Option (List ℕ)) → IsOfNetwork (attach_reject cause esm)
unfolding attach_reject
of_attach_reject cause esm = IsEmm (emm.AttachReject (record { cause = emm_cause_code cause; esm = esm })) refl refl

pub of_authentication_request : (ksi : ℕ) (rand autn : List ℕ) → IsOfNetwork (authentication_request ksi rand autn)
unfolding authentication_request
of_authentication_request ksi rand autn =
    IsEmm (emm.AuthenticationRequest (record { ksi = ksi; rand = rand; autn = autn })) refl refl

pub of_authentication_reject : IsOfNetwork authentication_reject
unfolding authentication_reject
of_authentication_reject = IsEmm emm.AuthenticationReject refl refl

pub of_security_mode_command : (ksi : ℕ) (capability : List ℕ) → IsOfNetwork (security_mode_command ksi capability)
unfolding security_mode_command
of_security_mode_command ksi capability =
    IsEmm (emm.SecurityModeCommand (record { ksi = ksi; capability = replayed capability })) refl refl

pub of_attach_accept : (n : Network) (g : Grant) (esm : List ℕ) → IsOfNetwork (attach_accept n g esm)
unfolding attach_accept
of_attach_accept n g esm =
    IsEmm (emm.AttachAccept (record {
      tai_list = tai_list g.tai;
      esm = esm;
      guti = Some (guti_octets (guti n g.tmsi));
      cause = cause_of_combined g.combined;
    }))
    refl refl

pub of_update_accept : (n : Network) (g : Grant) → IsOfNetwork (update_accept n g)
unfolding update_accept
of_update_accept n g =
    IsEmm (emm.TrackingAreaUpdateAccept (record {
      timer = Some (t3412_octet ∷ []);
      guti = Some (guti_octets (guti n g.tmsi));
      tai_list = Some (tai_list_octets (tai_list g.tai));
      cause = cause_of_combined g.combined;
    }))
    refl refl

pub of_update_reject : (cause : EmmCause) → IsOfNetwork (update_reject cause)
unfolding update_reject
of_update_reject cause = IsEmm (emm.TrackingAreaUpdateReject (emm_cause_code cause)) refl refl

pub of_service_reject : (cause : EmmCause) → IsOfNetwork (service_reject cause)
unfolding service_reject
of_service_reject cause = IsEmm (emm.ServiceReject (emm_cause_code cause)) refl refl

pub of_detach_accept : IsOfNetwork detach_accept
unfolding detach_accept
of_detach_accept = IsEmm emm.DetachAccept refl refl

pub of_network_detach : IsOfNetwork network_detach
unfolding network_detach
of_network_detach = IsEmm emm.NetworkDetach refl refl

pub of_emm_status : (cause : EmmCause) → IsOfNetwork (emm_status cause)
unfolding emm_status
of_emm_status cause = IsEmm (emm.EmmStatus (emm_cause_code cause)) refl refl

pub of_information_request : (session : Session) → IsOfNetwork (information_request session)
unfolding information_request
of_information_request session =
    IsEsm (record { bearer = no_bearer; transaction = transaction_of session.request; body = bodies.InformationRequest }) refl refl

of_status : (cause : EsmCause) (bearer transaction : ℕ) → IsOfNetwork (status cause bearer transaction)
unfolding status
of_status cause bearer transaction =
    IsEsm (record { bearer = bearer; transaction = transaction; body = bodies.EsmStatus (esm_cause_code cause) }) refl refl

of_connectivity_reject : (cause : EsmCause) (transaction : ℕ) → IsOfNetwork (connectivity_reject cause transaction)
unfolding connectivity_reject
of_connectivity_reject cause transaction =
    IsEsm (record { bearer = no_bearer; transaction = transaction; body = bodies.ConnectivityReject (esm_cause_code cause) }) refl refl

of_disconnect_reject : (transaction : ℕ) → IsOfNetwork (disconnect_reject transaction)
unfolding disconnect_reject
of_disconnect_reject transaction =
    IsEsm (record { bearer = no_bearer; transaction = transaction; body = bodies.DisconnectReject (esm_cause_code LastDisconnection) }) refl refl

-- ---- and what answers an ESM message

abbrev pub AnswersOfNetwork : Reaction (List ℕ) → Type 0
AnswersOfNetwork (reactions.Answer octets) = IsOfNetwork octets
AnswersOfNetwork _ = Unit {0}

informed_answers : (request : Option Request) (waiting : Bool) (bearer transaction : ℕ)
    → AnswersOfNetwork (informed request waiting bearer transaction)
informed_answers request true bearer transaction = either AnswersOfNetwork (is_transaction_of request transaction) tt tt
informed_answers request false bearer transaction = of_status _ bearer transaction

body_answers : (request : Option Request) (waiting : Bool) (bearer transaction : ℕ) (body : EsmBody (List ℕ))
    → AnswersOfNetwork (reaction_to request waiting bearer transaction body)
body_answers request waiting bearer transaction (bodies.ActivateRequest m) = of_status _ bearer transaction
body_answers request waiting bearer transaction bodies.ActivateAccept = of_status _ bearer transaction
body_answers request waiting bearer transaction (bodies.ActivateReject cause) = of_status _ bearer transaction
body_answers request waiting bearer transaction (bodies.ConnectivityRequest request_type pdn_type information) =
    of_connectivity_reject _ transaction
body_answers request waiting bearer transaction (bodies.ConnectivityReject cause) = of_status _ bearer transaction
body_answers request waiting bearer transaction (bodies.DisconnectRequest linked) = of_disconnect_reject transaction
body_answers request waiting bearer transaction (bodies.DisconnectReject cause) = of_status _ bearer transaction
body_answers request waiting bearer transaction bodies.InformationRequest = of_status _ bearer transaction
body_answers request waiting bearer transaction bodies.InformationResponse = informed_answers request waiting bearer transaction
body_answers request waiting bearer transaction (bodies.EsmStatus cause) = tt

fault_answers : (bearer transaction : ℕ) (fault : NasFault) → AnswersOfNetwork (reaction_to_fault bearer transaction fault)
fault_answers bearer transaction faults.TooShort = tt
fault_answers bearer transaction faults.Mandatory = of_status _ bearer transaction
fault_answers bearer transaction faults.UnknownType = of_status _ bearer transaction
fault_answers bearer transaction faults.OptionalPart = of_status _ bearer transaction
fault_answers bearer transaction faults.NoMemory = tt

read_answers : (session : Session) (waiting : Bool) (octets : List ℕ) (r : Result (Esm (List ℕ)) NasFault)
    → AnswersOfNetwork (reaction_by session waiting octets r)
read_answers session waiting octets (Ok m) = body_answers session.request waiting m.bearer m.transaction m.body
read_answers session waiting octets (Err fault) = fault_answers _ _ fault

pub of_reaction : (session : Session) (waiting : Bool) (octets : List ℕ) → AnswersOfNetwork (reaction session waiting octets)
unfolding reaction
of_reaction session waiting octets =
    either AnswersOfNetwork (nat_lt (length octets) 3) tt (read_answers session waiting octets (decoded_esm octets))
