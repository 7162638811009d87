-- A NAS message that a phone sends: what is written of a value of the profile, as which it is decoded.
use Rattle.std.specs.Prelude.{◌≡◌, ◌⊎◌, ℕ, ◌<◌, Bool, true, false, List, Option, Some, None, Ok}
use Rattle.per_streams.specs.Octet.{AreBytes}
use Rattle.nas_messages.specs.declared.emm_types.Direction.TheVariants.{Uplink}
use Rattle.nas_messages.specs.declared.emm_types.Emm.{Emm}
use Rattle.nas_messages.specs.declared.emm_types.Emm.TheVariants as emm
use Rattle.nas_messages.specs.declared.esm_types.Esm.{Esm}
use Rattle.nas_messages.specs.declared.esm_types.EsmBody.{EsmBody}
use Rattle.nas_messages.specs.declared.esm_types.EsmBody.TheVariants as esm
use Rattle.nas_messages.specs.declared.protection.Protected.{Protected}
use Rattle.nas_messages.specs.EsmMessages.{IsWritableEsm, decoded_esm, encoded_esm}
use Rattle.nas_messages.specs.Messages.{Goes, IsWritable, decoded_emm, encoded_emm}
use Rattle.nas_messages.specs.Protection.{protected_form, split}
use Rattle.laws_network.specs.Ranges.{IsBrief}

-- ---- session management (TS 24.301 clause 8.3)

-- the messages that go from a phone to the network
abbrev pub session_goes_up : EsmBody (List ℕ) → Bool
session_goes_up esm.ActivateAccept = true
session_goes_up (esm.ActivateReject cause) = true
session_goes_up (esm.ConnectivityRequest request_type pdn_type information) = true
session_goes_up (esm.DisconnectRequest linked) = true
session_goes_up esm.InformationResponse = true
session_goes_up (esm.EsmStatus cause) = true
session_goes_up _ = false

-- one of them: octets that are written of it and decoded as it, at most 200
pub record IsSessionOf (m : Esm (List ℕ)) (os : List ℕ) : Type 0 where
  pub up : session_goes_up m.body ≡ true
  pub writable : IsWritableEsm m
  pub written : os ≡ encoded_esm m
  pub read : decoded_esm os ≡ Ok m
  pub brief : IsBrief 200 os

abbrev pub IsSession : List ℕ → Type 0
IsSession os = (m : Esm (List ℕ)) × IsSessionOf m os

-- ---- mobility management (TS 24.301 clause 8.2)

-- the session management that stands in a message, where it has some
abbrev pub HasSession : Emm (List ℕ) → Type 0
HasSession (emm.AttachRequest m) = IsSession m.esm
HasSession (emm.AttachComplete esm) = IsSession esm
HasSession _ = Unit {0}

-- the messages that go from a phone to the network
abbrev pub goes_up : Emm (List ℕ) → Bool
goes_up (emm.AttachRequest m) = true
goes_up (emm.AttachComplete esm) = true
goes_up (emm.DetachRequest m) = true
goes_up emm.DetachAccept = true
goes_up (emm.TrackingAreaUpdateRequest m) = true
goes_up emm.TrackingAreaUpdateComplete = true
goes_up (emm.AuthenticationResponse res) = true
goes_up (emm.AuthenticationFailure cause) = true
goes_up (emm.IdentityResponse who) = true
goes_up emm.SecurityModeComplete = true
goes_up (emm.SecurityModeReject cause) = true
goes_up (emm.EmmStatus cause) = true
goes_up (emm.ServiceRequest octets) = true
goes_up _ = false

-- one of them: octets that are written of it and decoded as it, at most 1,000
pub record IsMobilityOf (m : Emm (List ℕ)) (os : List ℕ) : Type 0 where
  pub up : goes_up m ≡ true
  pub writable : IsWritable m
  pub goes : Goes Uplink m
  pub written : os ≡ encoded_emm m
  pub read : decoded_emm Uplink os ≡ Ok m
  pub brief : IsBrief 1000 os
  pub within : HasSession m

abbrev pub IsMobility : List ℕ → Type 0
IsMobility os = (m : Emm (List ℕ)) × IsMobilityOf m os

-- ---- the protected form (TS 24.301 clause 9.1)

-- the parts into which it is split; the message in it is one of mobility or session management
pub record IsFormOf (p : Protected (List ℕ)) (os : List ℕ) : Type 0 where
  pub mac : AreBytes 4 p.mac
  pub sequence : p.sequence < 256
  pub message : IsMobility p.message ⊎ IsSession p.message
  pub written : os ≡ protected_form p
  pub read : split os ≡ Some p

abbrev pub IsForm : List ℕ → Type 0
IsForm os = (p : Protected (List ℕ)) × IsFormOf p os

-- where something is sent
abbrev pub IsFormIf : Option (List ℕ) → Type 0
IsFormIf None = Unit {0}
IsFormIf (Some os) = IsForm os

-- ---- either

-- plain, or in the protected form
abbrev pub IsPhoneNas : List ℕ → Type 0
IsPhoneNas os = IsMobility os ⊎ IsForm os

abbrev pub IsPhoneNasIf : Option (List ℕ) → Type 0
IsPhoneNasIf None = Unit {0}
IsPhoneNasIf (Some os) = IsPhoneNas os
