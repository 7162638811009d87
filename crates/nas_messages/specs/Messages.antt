-- EMM messages as values, and the octets that spell them.
use Rattle.std.specs.Prelude.{◌≡◌, ℕ, ◌<◌, ◌≤◌, ◌==◌, ◌&&◌, nat_lt, if◌then◌else◌, List, [], ◌∷◌, length, drop, slice_index, Option, Some, None, Result, Ok, Err}
use Rattle.std.specs.Borrow.{Bor}
use Rattle.nas_elements.specs.declared.fault.NasFault.{NasFault}
use Rattle.nas_elements.specs.declared.fault.NasFault.TheVariants.{TooShort, UnknownType}
use Rattle.nas_elements.specs.Faults.{◌>>>◌}
use Rattle.nas_elements.specs.Rows.{RowValue, SpellsRow, RowFault, read_row, write_row, RowFits}
use Rattle.nas_elements.specs.Seen.{octets_of}
use Rattle.nas_messages.specs.declared.emm_types.Emm.{Emm}
use Rattle.nas_messages.specs.declared.emm_types.Emm.TheVariants as emm
use Rattle.nas_messages.specs.declared.emm_types.EmmType.{EmmType}
use Rattle.nas_messages.specs.declared.emm_types.EmmType.TheVariants.{AttachRequest, AttachAccept, AttachComplete, AttachReject, DetachRequest, NetworkDetach, DetachAccept, TrackingAreaUpdateRequest, TrackingAreaUpdateAccept, TrackingAreaUpdateComplete, TrackingAreaUpdateReject, ServiceReject, AuthenticationRequest, AuthenticationResponse, AuthenticationReject, IdentityRequest, IdentityResponse, AuthenticationFailure, SecurityModeCommand, SecurityModeComplete, SecurityModeReject, EmmStatus}
use Rattle.nas_messages.specs.declared.emm_types.Direction.{Direction}
use Rattle.nas_messages.specs.declared.emm_types.Direction.TheVariants.{Uplink, Downlink}
use Rattle.nas_elements.specs.Codes.{emm_discriminator, service_request_head}
use Rattle.nas_messages.specs.Formats.{row_of}

-- ---- a message without where it lies in memory

abbrev pub lists : Emm (Bor (List ℕ)) → Emm (List ℕ)
lists (emm.AttachRequest m) =
    emm.AttachRequest
    (record { attach_type = m.attach_type; ksi = m.ksi; identity = m.identity; capability = m.capability.now; esm = m.esm.now })
lists (emm.AttachAccept m) =
    emm.AttachAccept (record { tai_list = m.tai_list; esm = m.esm.now; guti = octets_of m.guti; cause = octets_of m.cause })
lists (emm.AttachComplete esm) = emm.AttachComplete esm.now
lists (emm.AttachReject m) = emm.AttachReject (record { cause = m.cause; esm = octets_of m.esm })
lists (emm.DetachRequest m) = emm.DetachRequest m
lists emm.NetworkDetach = emm.NetworkDetach
lists emm.DetachAccept = emm.DetachAccept
lists (emm.TrackingAreaUpdateRequest m) = emm.TrackingAreaUpdateRequest m
lists (emm.TrackingAreaUpdateAccept m) =
    emm.TrackingAreaUpdateAccept
    (record { timer = octets_of m.timer; guti = octets_of m.guti; tai_list = octets_of m.tai_list; cause = octets_of m.cause })
lists emm.TrackingAreaUpdateComplete = emm.TrackingAreaUpdateComplete
lists (emm.TrackingAreaUpdateReject cause) = emm.TrackingAreaUpdateReject cause
lists (emm.ServiceReject cause) = emm.ServiceReject cause
lists (emm.AuthenticationRequest m) = emm.AuthenticationRequest (record { ksi = m.ksi; rand = m.rand.now; autn = m.autn.now })
lists (emm.AuthenticationResponse res) = emm.AuthenticationResponse res.now
lists emm.AuthenticationReject = emm.AuthenticationReject
lists emm.IdentityRequest = emm.IdentityRequest
lists (emm.IdentityResponse identity) = emm.IdentityResponse identity
lists (emm.AuthenticationFailure cause) = emm.AuthenticationFailure cause
lists (emm.SecurityModeCommand m) = emm.SecurityModeCommand (record { ksi = m.ksi; capability = m.capability.now })
lists emm.SecurityModeComplete = emm.SecurityModeComplete
lists (emm.SecurityModeReject cause) = emm.SecurityModeReject cause
lists (emm.EmmStatus cause) = emm.EmmStatus cause
lists (emm.ServiceRequest octets) = emm.ServiceRequest octets

-- ---- a message by its type and its row's values, and back

abbrev pub named : (t : EmmType) → RowValue (row_of t) → Emm (List ℕ)
named AttachRequest (((attach_type, ksi), (identity, (capability, (esm, _)))), _) =
    emm.AttachRequest (record { attach_type = attach_type; ksi = ksi; identity = identity; capability = capability; esm = esm })
named AttachAccept ((_, (_, (tai_list, (esm, _)))), (guti, (cause, _))) =
    emm.AttachAccept (record { tai_list = tai_list; esm = esm; guti = guti; cause = cause })
named AttachComplete ((esm, _), _) = emm.AttachComplete esm
named AttachReject ((cause, _), (esm, _)) = emm.AttachReject (record { cause = cause; esm = esm })
named DetachRequest ((((detach_type, switch_off), ksi), (identity, _)), _) =
    emm.DetachRequest (record { detach_type = detach_type; switch_off = switch_off; ksi = ksi; identity = identity })
named NetworkDetach v = emm.NetworkDetach
named DetachAccept v = emm.DetachAccept
named TrackingAreaUpdateRequest ((((update_type, active), ksi), (guti, _)), _) =
    emm.TrackingAreaUpdateRequest (record { update_type = update_type; active = active; ksi = ksi; guti = guti })
named TrackingAreaUpdateAccept (_, (timer, (guti, (tai_list, (cause, _))))) =
    emm.TrackingAreaUpdateAccept (record { timer = timer; guti = guti; tai_list = tai_list; cause = cause })
named TrackingAreaUpdateComplete v = emm.TrackingAreaUpdateComplete
named TrackingAreaUpdateReject ((cause, _), _) = emm.TrackingAreaUpdateReject cause
named ServiceReject ((cause, _), _) = emm.ServiceReject cause
named AuthenticationRequest (((ksi, _), (rand, (autn, _))), _) =
    emm.AuthenticationRequest (record { ksi = ksi; rand = rand; autn = autn })
named AuthenticationResponse ((res, _), _) = emm.AuthenticationResponse res
named AuthenticationReject v = emm.AuthenticationReject
named IdentityRequest v = emm.IdentityRequest
named IdentityResponse ((identity, _), _) = emm.IdentityResponse identity
named AuthenticationFailure ((cause, _), _) = emm.AuthenticationFailure cause
named SecurityModeCommand ((_, ((ksi, _), (capability, _))), _) =
    emm.SecurityModeCommand (record { ksi = ksi; capability = capability })
named SecurityModeComplete v = emm.SecurityModeComplete
named SecurityModeReject ((cause, _), _) = emm.SecurityModeReject cause
named EmmStatus ((cause, _), _) = emm.EmmStatus cause

-- a type, and the values of its row
abbrev pub Typed : Type 0
Typed = (t : EmmType) × RowValue (row_of t)

-- SERVICE REQUEST alone has no type
abbrev pub typed : Emm (List ℕ) → Option Typed
typed (emm.AttachRequest m) = Some (AttachRequest, (((m.attach_type, m.ksi), (m.identity, (m.capability, (m.esm, tt)))), tt))
typed (emm.AttachAccept m) = Some (AttachAccept, (((tt, tt), (tt, (m.tai_list, (m.esm, tt)))), (m.guti, (m.cause, tt))))
typed (emm.AttachComplete esm) = Some (AttachComplete, ((esm, tt), tt))
typed (emm.AttachReject m) = Some (AttachReject, ((m.cause, tt), (m.esm, tt)))
typed (emm.DetachRequest m) = Some (DetachRequest, ((((m.detach_type, m.switch_off), m.ksi), (m.identity, tt)), tt))
typed emm.NetworkDetach = Some (NetworkDetach, (((tt, tt), tt), tt))
typed emm.DetachAccept = Some (DetachAccept, (tt, tt))
typed (emm.TrackingAreaUpdateRequest m) = Some (TrackingAreaUpdateRequest, ((((m.update_type, m.active), m.ksi), (m.guti, tt)), tt))
typed (emm.TrackingAreaUpdateAccept m) =
    Some (TrackingAreaUpdateAccept, (((tt, tt), tt), (m.timer, (m.guti, (m.tai_list, (m.cause, tt))))))
typed emm.TrackingAreaUpdateComplete = Some (TrackingAreaUpdateComplete, (tt, tt))
typed (emm.TrackingAreaUpdateReject cause) = Some (TrackingAreaUpdateReject, ((cause, tt), tt))
typed (emm.ServiceReject cause) = Some (ServiceReject, ((cause, tt), tt))
typed (emm.AuthenticationRequest m) = Some (AuthenticationRequest, (((m.ksi, tt), (m.rand, (m.autn, tt))), tt))
typed (emm.AuthenticationResponse res) = Some (AuthenticationResponse, ((res, tt), tt))
typed emm.AuthenticationReject = Some (AuthenticationReject, (tt, tt))
typed emm.IdentityRequest = Some (IdentityRequest, (((tt, tt), tt), tt))
typed (emm.IdentityResponse identity) = Some (IdentityResponse, ((identity, tt), tt))
typed (emm.AuthenticationFailure cause) = Some (AuthenticationFailure, ((cause, tt), tt))
typed (emm.SecurityModeCommand m) = Some (SecurityModeCommand, ((tt, ((m.ksi, tt), (m.capability, tt))), tt))
typed emm.SecurityModeComplete = Some (SecurityModeComplete, (tt, tt))
typed (emm.SecurityModeReject cause) = Some (SecurityModeReject, ((cause, tt), tt))
typed (emm.EmmStatus cause) = Some (EmmStatus, ((cause, tt), tt))
typed (emm.ServiceRequest octets) = None

-- ---- types (TS 24.301 clause 9.8)

abbrev pub code_of : EmmType → ℕ
code_of AttachRequest = 0x41
code_of AttachAccept = 0x42
code_of AttachComplete = 0x43
code_of AttachReject = 0x44
code_of DetachRequest = 0x45
code_of NetworkDetach = 0x45
code_of DetachAccept = 0x46
code_of TrackingAreaUpdateRequest = 0x48
code_of TrackingAreaUpdateAccept = 0x49
code_of TrackingAreaUpdateComplete = 0x4a
code_of TrackingAreaUpdateReject = 0x4b
code_of ServiceReject = 0x4e
code_of AuthenticationRequest = 0x52
code_of AuthenticationResponse = 0x53
code_of AuthenticationReject = 0x54
code_of IdentityRequest = 0x55
code_of IdentityResponse = 0x56
code_of AuthenticationFailure = 0x5c
code_of SecurityModeCommand = 0x5d
code_of SecurityModeComplete = 0x5e
code_of SecurityModeReject = 0x5f
code_of EmmStatus = 0x60

-- one code is two messages: a phone's DETACH REQUEST and the network's
abbrev pub detach_of : Direction → EmmType
detach_of Uplink = DetachRequest
detach_of Downlink = NetworkDetach

unfoldable pub type_of : Direction → ℕ → Option EmmType
type_of direction code =
    if code == 0x41 then Some AttachRequest
    else if code == 0x42 then Some AttachAccept
    else if code == 0x43 then Some AttachComplete
    else if code == 0x44 then Some AttachReject
    else if code == 0x45 then Some (detach_of direction)
    else if code == 0x46 then Some DetachAccept
    else if code == 0x48 then Some TrackingAreaUpdateRequest
    else if code == 0x49 then Some TrackingAreaUpdateAccept
    else if code == 0x4a then Some TrackingAreaUpdateComplete
    else if code == 0x4b then Some TrackingAreaUpdateReject
    else if code == 0x4e then Some ServiceReject
    else if code == 0x52 then Some AuthenticationRequest
    else if code == 0x53 then Some AuthenticationResponse
    else if code == 0x54 then Some AuthenticationReject
    else if code == 0x55 then Some IdentityRequest
    else if code == 0x56 then Some IdentityResponse
    else if code == 0x5c then Some AuthenticationFailure
    else if code == 0x5d then Some SecurityModeCommand
    else if code == 0x5e then Some SecurityModeComplete
    else if code == 0x5f then Some SecurityModeReject
    else if code == 0x60 then Some EmmStatus
    else None

-- ---- spelling

abbrev pub SpellsTyped : Direction → Option Typed → List ℕ → Type 0
SpellsTyped direction None os = ⊥
SpellsTyped direction (Some m) os =
    (type_of direction (code_of m.0) ≡ Some m.0) × (rest : List ℕ) × (os ≡ 7 ∷ code_of m.0 ∷ rest) × SpellsRow (row_of m.0) m.1 rest

-- SERVICE REQUEST: four octets, the first c7
abbrev pub IsService : List ℕ → Type 0
IsService os = (length os ≡ 4) × (slice_index os 0 ≡ service_request_head)

abbrev pub SpellsEmm : Direction → Emm (List ℕ) → List ℕ → Type 0
SpellsEmm direction (emm.ServiceRequest octets) os = (os ≡ octets) × (length os ≡ 4) × (slice_index os 0 ≡ service_request_head)
SpellsEmm direction m os = SpellsTyped direction (typed m) os

-- ---- reading: too short, the type, the mandatory part, the optional part

unfoldable pub read_typed : EmmType → List ℕ → Result (Emm (List ℕ)) NasFault
read_typed t os = read_row (row_of t) os >>> λ v. Ok (named t v)

abbrev pub by_type : Option EmmType → List ℕ → Result (Emm (List ℕ)) NasFault
by_type None os = Err UnknownType
by_type (Some t) os = read_typed t os

unfoldable pub decoded_emm : Direction → List ℕ → Result (Emm (List ℕ)) NasFault
decoded_emm direction os =
    if nat_lt (length os) 2 then Err TooShort
    else if slice_index os 0 == emm_discriminator then by_type (type_of direction (slice_index os 1)) (drop 2 os)
    else if slice_index os 0 == service_request_head && length os == 4 then Ok (emm.ServiceRequest os)
    else Err UnknownType

-- what a function of the code returned
abbrev pub seen : Result (Emm (Bor (List ℕ))) NasFault → Result (Emm (List ℕ)) NasFault
seen (Ok m) = Ok (lists m)
seen (Err e) = Err e

-- ---- when each fault comes

-- discriminator 7, a type of this direction, and octets after them
abbrev pub HasType : Direction → List ℕ → EmmType → List ℕ → Type 0
HasType direction os t rest = (os ≡ 7 ∷ code_of t ∷ rest) × (type_of direction (code_of t) ≡ Some t)

abbrev pub HasFault : Direction → List ℕ → NasFault → Type 0
HasFault direction os TooShort = length os < 2
HasFault direction os UnknownType =
    (2 ≤ length os) × ((t : EmmType) (rest : List ℕ) → HasType direction os t rest → ⊥) × (IsService os → ⊥)
HasFault direction os fault = (t : EmmType) × (rest : List ℕ) × HasType direction os t rest × RowFault (row_of t) rest fault

-- ---- writing

abbrev pub write_typed : Option Typed → List ℕ
write_typed None = []
write_typed (Some m) = 7 ∷ code_of m.0 ∷ write_row (row_of m.0) m.1

abbrev pub encoded_emm : Emm (List ℕ) → List ℕ
encoded_emm (emm.ServiceRequest octets) = octets
encoded_emm m = write_typed (typed m)

abbrev pub FitsTyped : Option Typed → Type 0
FitsTyped None = ⊥
FitsTyped (Some m) = RowFits (row_of m.0) m.1

-- every part has a length that its length field and its row allow, and small numbers are small
abbrev pub IsWritable : Emm (List ℕ) → Type 0
IsWritable (emm.ServiceRequest octets) = IsService octets
IsWritable m = FitsTyped (typed m)

-- a message that this side may send
abbrev pub GoesTyped : Direction → Option Typed → Type 0
GoesTyped direction None = Unit {0}
GoesTyped direction (Some m) = type_of direction (code_of m.0) ≡ Some m.0

abbrev pub Goes : Direction → Emm (List ℕ) → Type 0
Goes direction m = GoesTyped direction (typed m)
