-- What becomes of a bearer.
use Rattle.std.specs.Prelude.{ℕ, ◌<◌, ◌^◌, ◌==◌, List, length, Option, Some, None, if◌then◌else◌, Vec}
use Rattle.std.specs.Global.{Global}
use Rattle.nas_elements.specs.Codes.{pdn_type_ipv4v6, pdn_type_ipv6}
use Rattle.esm_machine.specs.declared.bearer.BearerState.TheVariants.{Inactive, ActivePending, Active}
use Rattle.esm_machine.specs.declared.cause.EsmCause.TheVariants.{RequestRejected, OnlyIpv4}
use Rattle.esm_machine.specs.declared.reading.Connectivity.{Connectivity}
use Rattle.esm_machine.specs.declared.request.Request.{Request}
use Rattle.esm_machine.specs.declared.request.Requested.{Requested}
use Rattle.esm_machine.specs.declared.request.Requested.TheVariants.{Unreadable, Refused, Taken}
use Rattle.esm_machine.specs.Reading.{asked, is_accept}
use Rattle.esm_machine.specs.Sent.{connectivity_reject}
use Rattle.esm_machine.specs.Sessions.{Session}

-- an answer without where its octets lie in memory
abbrev pub requested_lists : Requested (Vec ℕ Global) → Requested (List ℕ)
requested_lists Unreadable = Unreadable
requested_lists (Refused octets) = Refused octets.items
requested_lists Taken = Taken

-- octets of an answer may stand in an element of any length field
abbrev pub FitsElement : Requested (List ℕ) → Type 0
FitsElement Unreadable = Unit {0}
FitsElement (Refused octets) = length octets < 2 ^ 16
FitsElement Taken = Unit {0}

-- ---- no request, and no message sent

abbrev pub inactive : Session
inactive = record { state = Inactive; request = None }

-- ---- the connectivity request of an attach (TS 24.301 clauses 6.5.1.3 and 6.5.1.4)

-- what is kept of one that asks for IPv4, alone or with IPv6
abbrev pub request_taken : Connectivity → Request
request_taken wanted = record {
  transaction = wanted.transaction;
  dual = wanted.pdn_type == pdn_type_ipv4v6;
  information = wanted.information;
}

-- the request that was taken before, and what is asked for now
abbrev pub requested_after : Option Request → Option Connectivity → Requested (List ℕ)
requested_after before None = Unreadable
requested_after None (Some wanted) =
    if wanted.pdn_type == pdn_type_ipv6 then Refused (connectivity_reject OnlyIpv4 wanted.transaction) else Taken
requested_after (Some first) (Some wanted) = Refused (connectivity_reject RequestRejected wanted.transaction)

unfoldable pub requested : Session → List ℕ → Requested (List ℕ)
requested session octets = requested_after session.request (asked octets)

abbrev pub request_after : Option Request → Option Connectivity → Option Request
request_after before None = before
request_after None (Some wanted) = if wanted.pdn_type == pdn_type_ipv6 then None else Some (request_taken wanted)
request_after (Some first) (Some wanted) = Some first

unfoldable pub after_request : Session → List ℕ → Session
after_request session octets = record session { request = request_after session.request (asked octets) }

-- ---- the activation of the bearer (TS 24.301 clauses 6.4.1.2 and 6.4.1.3)

abbrev pub activated : Session → Session
activated session = record session { state = ActivePending }

abbrev pub accepted_by : Session → List ℕ → Session
accepted_by session octets = if is_accept octets then record session { state = Active } else session
