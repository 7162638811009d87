-- What a phone's NAS message is to the machine.
use Rattle.std.specs.Prelude.{ℕ, ◌≤◌, ◌%◌, ◌==◌, ◌||◌, Bool, true, false, if◌then◌else◌, List, [], ◌∷◌, length, Option, Some, None, Result, Ok, Err}
use Rattle.std.specs.Borrow.{Bor}
use Rattle.nas_elements.specs.declared.fault.NasFault.{NasFault}
use Rattle.nas_messages.specs.declared.emm_types.AttachRequest.{AttachRequest}
use Rattle.nas_messages.specs.declared.emm_types.Direction.TheVariants.{Uplink}
use Rattle.nas_messages.specs.declared.emm_types.Emm.{Emm}
use Rattle.nas_messages.specs.declared.emm_types.Emm.TheVariants as emm
use Rattle.nas_messages.specs.declared.protection.Protected.{Protected}
use Rattle.nas_messages.specs.declared.protection.SecurityHeader.{SecurityHeader}
use Rattle.nas_messages.specs.declared.protection.SecurityHeader.TheVariants.{IntegrityProtected, IntegrityProtectedCiphered, NewContext, NewContextCiphered}
use Rattle.nas_elements.specs.Codes.{combined_attach, combined_update, combined_update_with_attach, esm_discriminator}
use Rattle.nas_messages.specs.Messages.{decoded_emm}
use Rattle.nas_messages.specs.Protection.{split}
use Rattle.mme_signalling.specs.declared.heard.Heard.{Heard}
use Rattle.mme_signalling.specs.declared.heard.Heard.TheVariants as heards

-- without where its octets lie in memory
abbrev pub request_lists : AttachRequest (Bor (List ℕ)) → AttachRequest (List ℕ)
request_lists m =
    record { attach_type = m.attach_type; ksi = m.ksi; identity = m.identity; capability = m.capability.now; esm = m.esm.now }

abbrev pub heard_lists : Heard (Bor (List ℕ)) → Heard (List ℕ)
heard_lists (heards.AttachRequest combined capability esm) = heards.AttachRequest combined capability esm.now
heard_lists (heards.DetachRequest switch_off) = heards.DetachRequest switch_off
heard_lists (heards.TrackingAreaUpdateRequest combined) = heards.TrackingAreaUpdateRequest combined
heard_lists (heards.ServiceRequest octets) = heards.ServiceRequest octets
heard_lists (heards.AuthenticationResponse res) = heards.AuthenticationResponse res.now
heard_lists (heards.AuthenticationFailure cause) = heards.AuthenticationFailure cause
heard_lists heards.SecurityModeComplete = heards.SecurityModeComplete
heard_lists heards.SecurityModeReject = heards.SecurityModeReject
heard_lists (heards.AttachComplete esm) = heards.AttachComplete esm.now
heard_lists heards.TrackingAreaUpdateComplete = heards.TrackingAreaUpdateComplete
heard_lists heards.DetachAccept = heards.DetachAccept
heard_lists heards.Unasked = heards.Unasked
heard_lists heards.Other = heards.Other
heard_lists (heards.Unreadable fault) = heards.Unreadable fault

-- combined attaches and updates (TS 24.301 clauses 9.9.3.11 and 9.9.3.14)
abbrev pub is_combined_attach : ℕ → Bool
is_combined_attach attach_type = attach_type == combined_attach

abbrev pub is_combined_update : ℕ → Bool
is_combined_update update_type = update_type == combined_update || update_type == combined_update_with_attach

-- what an ATTACH REQUEST asks for
abbrev pub attach_of : AttachRequest (List ℕ) → Heard (List ℕ)
attach_of m = heards.AttachRequest (is_combined_attach m.attach_type) m.capability m.esm

-- its capability has the length of one
abbrev pub AttachFits : List ℕ → Type 0
AttachFits capability = (2 ≤ length capability) × (length capability ≤ 13)

abbrev pub sorted : Emm (List ℕ) → Heard (List ℕ)
sorted (emm.AttachRequest m) = attach_of m
sorted (emm.AttachAccept m) = heards.Other
sorted (emm.AttachComplete esm) = heards.AttachComplete esm
sorted (emm.AttachReject m) = heards.Other
sorted (emm.DetachRequest m) = heards.DetachRequest m.switch_off
sorted emm.NetworkDetach = heards.Other
sorted emm.DetachAccept = heards.DetachAccept
sorted (emm.TrackingAreaUpdateRequest m) = heards.TrackingAreaUpdateRequest (is_combined_update m.update_type)
sorted (emm.TrackingAreaUpdateAccept m) = heards.Other
sorted emm.TrackingAreaUpdateComplete = heards.TrackingAreaUpdateComplete
sorted (emm.TrackingAreaUpdateReject cause) = heards.Other
sorted (emm.ServiceReject cause) = heards.Other
sorted (emm.AuthenticationRequest m) = heards.Other
sorted (emm.AuthenticationResponse res) = heards.AuthenticationResponse res
sorted emm.AuthenticationReject = heards.Other
sorted emm.IdentityRequest = heards.Other
sorted (emm.IdentityResponse identity) = heards.Unasked
sorted (emm.AuthenticationFailure cause) = heards.AuthenticationFailure cause
sorted (emm.SecurityModeCommand m) = heards.Other
sorted emm.SecurityModeComplete = heards.SecurityModeComplete
sorted (emm.SecurityModeReject cause) = heards.SecurityModeReject
sorted (emm.EmmStatus cause) = heards.Unasked
sorted (emm.ServiceRequest octets) = heards.ServiceRequest octets

abbrev pub heard_of : Result (Emm (List ℕ)) NasFault → Heard (List ℕ)
heard_of (Ok m) = sorted m
heard_of (Err fault) = heards.Unreadable fault

unfoldable pub heard : List ℕ → Heard (List ℕ)
heard octets = heard_of (decoded_emm Uplink octets)

-- protected under a context that is in use (TS 24.301 clause 9.3.1)
abbrev pub is_initial_header : SecurityHeader → Bool
is_initial_header IntegrityProtected = true
is_initial_header IntegrityProtectedCiphered = true
is_initial_header NewContext = false
is_initial_header NewContextCiphered = false

abbrev pub inner_octets : List ℕ → Option (Protected (List ℕ)) → List ℕ
inner_octets octets None = octets
inner_octets octets (Some p) = if is_initial_header p.header then p.message else octets

-- the octets by which an INITIAL UE MESSAGE is known: those after the header, where it is protected under a context
unfoldable pub initial_octets : List ℕ → List ℕ
initial_octets octets = inner_octets octets (split octets)

-- a message of session management
unfoldable pub is_esm : List ℕ → Bool
is_esm [] = false
is_esm (first ∷ rest) = first % 16 == esm_discriminator
