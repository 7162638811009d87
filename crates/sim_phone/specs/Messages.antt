-- The NAS messages that a phone sends, before they are protected.
use Rattle.std.specs.Prelude.{ℕ, Bool, false, List, [], ◌∷◌, None}
use Rattle.nas_elements.specs.declared.identity.Guti.{Guti}
use Rattle.nas_elements.specs.declared.identity.MobileIdentity.{MobileIdentity}
use Rattle.nas_messages.specs.declared.emm_types.Emm.TheVariants as emm
use Rattle.nas_messages.specs.declared.esm_types.EsmBody.TheVariants as esm
use Rattle.nas_messages.specs.Messages.{encoded_emm}
use Rattle.nas_messages.specs.EsmMessages.{encoded_esm}
use Rattle.sim_phone.specs.declared.registration.Registration.{Registration}

-- nothing is kept of a registration
abbrev pub unregistered : Registration
unregistered = record { challenge = None; context = None; guti = None }

-- PDN CONNECTIVITY REQUEST of transaction 1: an initial request, for IPv4; the flag asks that ESM information be asked for
abbrev pub connectivity_octets : Bool → List ℕ
connectivity_octets information =
    encoded_esm (record { bearer = 0; transaction = 1; body = esm.ConnectivityRequest 1 1 information })

-- no key set (TS 24.301 clause 9.9.3.21)
abbrev pub no_key_set : ℕ
no_key_set = 7

-- EEA0, EEA1, EEA2; EIA1, EIA2
abbrev pub capability_octets : List ℕ
capability_octets = 0xe0 ∷ 0x60 ∷ []

-- ATTACH REQUEST, an EPS attach
unfoldable pub attach_octets : MobileIdentity → Bool → List ℕ
attach_octets who information = encoded_emm (emm.AttachRequest (record {
  attach_type = 1;
  ksi = no_key_set;
  identity = who;
  capability = capability_octets;
  esm = connectivity_octets information;
}))

-- a GUTI of the network 208 93, group 1, code 2
abbrev pub foreign_guti : Guti
foreign_guti = record { plmn = record { octets = 0x02 ∷ 0xf8 ∷ 0x39 ∷ [] }; group = 0 ∷ 1 ∷ []; code = 2; tmsi = 0x12345678 }

-- TRACKING AREA UPDATE REQUEST, a TA updating
unfoldable pub update_octets : ℕ → Guti → List ℕ
update_octets ksi guti =
    encoded_emm (emm.TrackingAreaUpdateRequest (record { update_type = 0; active = false; ksi = ksi; guti = guti }))

-- DETACH REQUEST, an EPS detach
unfoldable pub detach_octets : MobileIdentity → Bool → ℕ → List ℕ
detach_octets who switch_off ksi =
    encoded_emm (emm.DetachRequest (record { detach_type = 1; switch_off = switch_off; ksi = ksi; identity = who }))

unfoldable pub identity_octets_of : MobileIdentity → List ℕ
identity_octets_of who = encoded_emm (emm.IdentityResponse who)

unfoldable pub response_octets : List ℕ → List ℕ
response_octets res = encoded_emm (emm.AuthenticationResponse res)

-- synch failure is 21, MAC failure 20 (TS 24.301 clause 9.9.3.9)
unfoldable pub failure_octets : List ℕ
failure_octets = encoded_emm (emm.AuthenticationFailure 20)

unfoldable pub mode_complete_octets : List ℕ
mode_complete_octets = encoded_emm emm.SecurityModeComplete

-- ATTACH COMPLETE with ACTIVATE DEFAULT EPS BEARER CONTEXT ACCEPT of the bearer 5
unfoldable pub attach_complete_octets : List ℕ
attach_complete_octets =
    encoded_emm (emm.AttachComplete (encoded_esm (record { bearer = 5; transaction = 0; body = esm.ActivateAccept })))

unfoldable pub update_complete_octets : List ℕ
update_complete_octets = encoded_emm emm.TrackingAreaUpdateComplete

unfoldable pub detach_accept_octets : List ℕ
detach_accept_octets = encoded_emm emm.DetachAccept

-- ESM INFORMATION RESPONSE of the transaction of the request
unfoldable pub information_octets : ℕ → List ℕ
information_octets transaction = encoded_esm (record { bearer = 0; transaction = transaction; body = esm.InformationResponse })
