-- What octets of a phone ask for, and whether they accept a bearer.
use Rattle.std.specs.Prelude.{ℕ, Bool, true, false, List, Option, Some, None, Result, Ok, Err}
use Rattle.nas_elements.specs.declared.fault.NasFault.{NasFault}
use Rattle.nas_messages.specs.declared.esm_types.Esm.{Esm}
use Rattle.nas_messages.specs.declared.esm_types.EsmBody.{EsmBody}
use Rattle.nas_messages.specs.declared.esm_types.EsmBody.TheVariants.{ActivateRequest, ActivateAccept, ActivateReject, ConnectivityRequest, ConnectivityReject, DisconnectRequest, DisconnectReject, InformationRequest, InformationResponse, EsmStatus}
use Rattle.nas_messages.specs.EsmMessages.{decoded_esm}
use Rattle.esm_machine.specs.declared.reading.Connectivity.{Connectivity}

-- ---- PDN CONNECTIVITY REQUEST (TS 24.301 clause 8.3.20)

abbrev pub asked_in : ℕ → EsmBody (List ℕ) → Option Connectivity
asked_in transaction (ActivateRequest m) = None
asked_in transaction ActivateAccept = None
asked_in transaction (ActivateReject cause) = None
asked_in transaction (ConnectivityRequest request_type pdn_type information) =
    Some (record { transaction = transaction; pdn_type = pdn_type; information = information })
asked_in transaction (ConnectivityReject cause) = None
asked_in transaction (DisconnectRequest linked) = None
asked_in transaction (DisconnectReject cause) = None
asked_in transaction InformationRequest = None
asked_in transaction InformationResponse = None
asked_in transaction (EsmStatus cause) = None

abbrev pub asked_by : Result (Esm (List ℕ)) NasFault → Option Connectivity
asked_by (Ok m) = asked_in m.transaction m.body
asked_by (Err fault) = None

-- what octets ask for: none where they are no PDN CONNECTIVITY REQUEST
unfoldable pub asked : List ℕ → Option Connectivity
asked octets = asked_by (decoded_esm octets)

-- ---- ACTIVATE DEFAULT EPS BEARER CONTEXT ACCEPT (TS 24.301 clause 8.3.4)

abbrev pub is_accept_in : EsmBody (List ℕ) → Bool
is_accept_in (ActivateRequest m) = false
is_accept_in ActivateAccept = true
is_accept_in (ActivateReject cause) = false
is_accept_in (ConnectivityRequest request_type pdn_type information) = false
is_accept_in (ConnectivityReject cause) = false
is_accept_in (DisconnectRequest linked) = false
is_accept_in (DisconnectReject cause) = false
is_accept_in InformationRequest = false
is_accept_in InformationResponse = false
is_accept_in (EsmStatus cause) = false

abbrev pub is_accept_by : Result (Esm (List ℕ)) NasFault → Bool
is_accept_by (Ok m) = is_accept_in m.body
is_accept_by (Err fault) = false

-- whether octets are that message, for any bearer and transaction
unfoldable pub is_accept : List ℕ → Bool
is_accept octets = is_accept_by (decoded_esm octets)
