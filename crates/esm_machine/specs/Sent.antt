-- The messages that are sent to a phone.
use Rattle.std.specs.Prelude.{ℕ, Bool, List, [], ◌∷◌, Option, Some, None, if◌then◌else◌}
use Rattle.nas_messages.specs.declared.esm_types.Esm.{Esm}
use Rattle.nas_messages.specs.declared.esm_types.EsmBody.TheVariants as bodies
use Rattle.nas_elements.specs.Codes.{default_bearer, no_bearer}
use Rattle.nas_messages.specs.EsmMessages.{encoded_esm}
use Rattle.esm_machine.specs.declared.cause.EsmCause.{EsmCause}
use Rattle.esm_machine.specs.declared.cause.EsmCause.TheVariants.{LastDisconnection, OnlyIpv4}
use Rattle.esm_machine.specs.Causes.{esm_cause_code}
use Rattle.esm_machine.specs.Sessions.{Session, transaction_of, is_dual}

-- PDN CONNECTIVITY REJECT (TS 24.301 clauses 6.5.1.4 and 8.3.19)
unfoldable pub connectivity_reject : EsmCause → ℕ → List ℕ
connectivity_reject cause transaction =
    encoded_esm (record { bearer = no_bearer; transaction = transaction; body = bodies.ConnectivityReject (esm_cause_code cause) })

-- PDN DISCONNECT REJECT: the connection is the phone's only one (TS 24.301 clauses 6.5.2.4 and 8.3.21)
unfoldable pub disconnect_reject : ℕ → List ℕ
disconnect_reject transaction =
    encoded_esm
    (record { bearer = no_bearer; transaction = transaction; body = bodies.DisconnectReject (esm_cause_code LastDisconnection) })

-- ESM STATUS with the bearer and the transaction of what was received (TS 24.301 clauses 6.7 and 8.3.15)
unfoldable pub status : EsmCause → ℕ → ℕ → List ℕ
status cause bearer transaction =
    encoded_esm (record { bearer = bearer; transaction = transaction; body = bodies.EsmStatus (esm_cause_code cause) })

-- ESM INFORMATION REQUEST in the transaction of the request that was taken (TS 24.301 clauses 6.6.1.2.2 and 8.3.13)
unfoldable pub information_request : Session → List ℕ
information_request session =
    encoded_esm (record { bearer = no_bearer; transaction = transaction_of session.request; body = bodies.InformationRequest })

-- the ESM cause where IPv4v6 was asked for, since the address is of IPv4 alone (TS 24.301 clause 6.5.1.3)
abbrev pub address_cause : Bool → Option (List ℕ)
address_cause dual = if dual then Some (esm_cause_code OnlyIpv4 ∷ []) else None

-- ACTIVATE DEFAULT EPS BEARER CONTEXT REQUEST for the default bearer, in the transaction of the request that was taken, with the
-- APN's one label and an IPv4 address (TS 24.301 clauses 6.4.1.2 and 8.3.6)
abbrev pub activation_message : Session → List ℕ → List ℕ → Esm (List ℕ)
activation_message session apn address = record {
  bearer = default_bearer;
  transaction = transaction_of session.request;
  body = bodies.ActivateRequest (record { apn = apn; address = address; cause = address_cause (is_dual session.request) });
}

unfoldable pub activation : Session → List ℕ → List ℕ → List ℕ
activation session apn address = encoded_esm (activation_message session apn address)
