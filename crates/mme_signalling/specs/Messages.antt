-- The NAS messages that the machine sends.
use Rattle.std.specs.Prelude.{ℕ, Bool, List, [], ◌∷◌, slice_index, Option, Some, None, if◌then◌else◌}
use Rattle.mme_types.specs.s1ap_elements.declared.phone.Tai.{Tai}
use Rattle.nas_elements.specs.Capability.{replayed}
use Rattle.nas_elements.specs.Identities.{guti_octets, plmn_from_s1ap, tai_list_octets}
use Rattle.nas_elements.specs.declared.identity.Guti.{Guti}
use Rattle.nas_elements.specs.declared.identity.TaiList.{TaiList}
use Rattle.nas_messages.specs.declared.emm_types.Emm.TheVariants as emm
use Rattle.nas_messages.specs.Messages.{encoded_emm}
use Rattle.nas_elements.specs.Timers.{t3412_octet}
use Rattle.mme_types.specs.declared.network.Network.{Network}
use Rattle.mme_signalling.specs.declared.cause.EmmCause.{EmmCause}
use Rattle.mme_signalling.specs.declared.cause.EmmCause.TheVariants.{CsDomainNotAvailable}
use Rattle.mme_signalling.specs.declared.messages.Grant.{Grant}
use Rattle.mme_signalling.specs.Causes.{emm_cause_code}

-- the GUTI of an M-TMSI (TS 23.003 clause 2.8)
abbrev pub guti : Network → ℕ → Guti
guti n tmsi = record {
  plmn = record { octets = plmn_from_s1ap n.plmn };
  group = n.group;
  code = slice_index n.code 0;
  tmsi = tmsi;
}

-- the one tracking area that a phone is registered in
abbrev pub tai_list : Tai → TaiList
tai_list tai = record { plmn = record { octets = plmn_from_s1ap tai.plmn }; tac = tai.tac }

-- a combined request is granted for EPS services only
abbrev pub cause_of_combined : Bool → Option (List ℕ)
cause_of_combined combined = if combined then Some (emm_cause_code CsDomainNotAvailable ∷ []) else None

unfoldable pub attach_reject : EmmCause → Option (List ℕ) → List ℕ
attach_reject cause esm = encoded_emm (emm.AttachReject (record { cause = emm_cause_code cause; esm = esm }))

unfoldable pub authentication_request : ℕ → List ℕ → List ℕ → List ℕ
authentication_request ksi rand autn = encoded_emm (emm.AuthenticationRequest (record { ksi = ksi; rand = rand; autn = autn }))

unfoldable pub authentication_reject : List ℕ
authentication_reject = encoded_emm emm.AuthenticationReject

-- for the IMSI (TS 24.301 clause 8.2.18)
unfoldable pub identity_request : List ℕ
identity_request = encoded_emm emm.IdentityRequest

unfoldable pub security_mode_command : ℕ → List ℕ → List ℕ
security_mode_command ksi capability =
    encoded_emm (emm.SecurityModeCommand (record { ksi = ksi; capability = replayed capability }))

unfoldable pub attach_accept : Network → Grant → List ℕ → List ℕ
attach_accept n g esm =
    encoded_emm (emm.AttachAccept
    (record {
      tai_list = tai_list g.tai;
      esm = esm;
      guti = Some (guti_octets (guti n g.tmsi));
      cause =
          cause_of_combined g.combined;
    }))

-- with T3412
unfoldable pub update_accept : Network → Grant → List ℕ
update_accept n g =
    encoded_emm (emm.TrackingAreaUpdateAccept (record {
      timer = Some (t3412_octet ∷ []);
      guti = Some (guti_octets (guti n g.tmsi));
      tai_list = Some (tai_list_octets (tai_list g.tai));
      cause = cause_of_combined g.combined;
    }))

unfoldable pub update_reject : EmmCause → List ℕ
update_reject cause = encoded_emm (emm.TrackingAreaUpdateReject (emm_cause_code cause))

unfoldable pub service_reject : EmmCause → List ℕ
service_reject cause = encoded_emm (emm.ServiceReject (emm_cause_code cause))

unfoldable pub detach_accept : List ℕ
detach_accept = encoded_emm emm.DetachAccept

unfoldable pub network_detach : List ℕ
network_detach = encoded_emm emm.NetworkDetach

unfoldable pub emm_status : EmmCause → List ℕ
emm_status cause = encoded_emm (emm.EmmStatus (emm_cause_code cause))
