-- NAS messages by their types, and in their parts.
use Rattle.std.specs.Prelude.{ℕ, ◌==◌, List, Option, Some, None, Result, Ok, Err, if◌then◌else◌}
use Rattle.std.specs.Int.{from_be_bytes, w32}
use Rattle.nas_elements.specs.declared.fault.NasFault.{NasFault}
use Rattle.nas_messages.specs.declared.emm_types.Direction.{Direction}
use Rattle.nas_messages.specs.declared.emm_types.Direction.TheVariants.{Uplink, Downlink}
use Rattle.nas_messages.specs.declared.emm_types.Emm.{Emm}
use Rattle.nas_messages.specs.declared.emm_types.Emm.TheVariants as emm
use Rattle.nas_messages.specs.declared.protection.Protected.{Protected}
use Rattle.nas_messages.specs.Messages.{decoded_emm}
use Rattle.nas_messages.specs.Protection.{header_code, split}
use Rattle.c_codecs.specs.declared.fault.CodecFault.{CodecFault}
use Rattle.c_codecs.specs.declared.fault.CodecFault.TheVariants.{BadNumber, NotProtected}
use Rattle.c_codecs.specs.declared.nas.NasParts.{NasParts}
use Rattle.c_codecs.specs.Faults.{◌>>=◌, of_nas}

-- the direction of a number: 0 from the phone, 1 to it
abbrev pub direction_of : ℕ → Result Direction CodecFault
direction_of number = if number == 0 then Ok Uplink else (if number == 1 then Ok Downlink else Err BadNumber)

-- the message type (TS 24.301 clause 9.8); of SERVICE REQUEST, which has none, the first octet
abbrev pub type_code : Emm (List ℕ) → ℕ
type_code (emm.AttachRequest m) = 0x41
type_code (emm.AttachAccept m) = 0x42
type_code (emm.AttachComplete esm) = 0x43
type_code (emm.AttachReject m) = 0x44
type_code (emm.DetachRequest m) = 0x45
type_code emm.NetworkDetach = 0x45
type_code emm.DetachAccept = 0x46
type_code (emm.TrackingAreaUpdateRequest m) = 0x48
type_code (emm.TrackingAreaUpdateAccept m) = 0x49
type_code emm.TrackingAreaUpdateComplete = 0x4a
type_code (emm.TrackingAreaUpdateReject cause) = 0x4b
type_code (emm.ServiceReject cause) = 0x4e
type_code (emm.AuthenticationRequest m) = 0x52
type_code (emm.AuthenticationResponse res) = 0x53
type_code emm.AuthenticationReject = 0x54
type_code emm.IdentityRequest = 0x55
type_code (emm.IdentityResponse identity) = 0x56
type_code (emm.AuthenticationFailure cause) = 0x5c
type_code (emm.SecurityModeCommand m) = 0x5d
type_code emm.SecurityModeComplete = 0x5e
type_code (emm.SecurityModeReject cause) = 0x5f
type_code (emm.EmmStatus cause) = 0x60
type_code (emm.ServiceRequest octets) = 0xc7

abbrev pub typed : Result (Emm (List ℕ)) NasFault → Result ℕ CodecFault
typed (Ok m) = Ok (type_code m)
typed (Err fault) = Err (of_nas fault)

-- the type of the message that octets are, if that direction sends them
abbrev pub nas_type : List ℕ → ℕ → Result ℕ CodecFault
nas_type octets direction = direction_of direction >>= (λ d. typed (decoded_emm d octets))

abbrev pub parted : Option (Protected (List ℕ)) → Result NasParts CodecFault
parted None = Err NotProtected
parted (Some p) = Ok (record { header = header_code p.header; mac = from_be_bytes w32 p.mac; sequence = p.sequence })

-- the parts of octets in the protected form
abbrev pub nas_parts : List ℕ → Result NasParts CodecFault
nas_parts octets = parted (split octets)
