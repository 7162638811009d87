-- Whom an INITIAL UE MESSAGE names, by its octets and the provisioning alone.
use Rattle.std.specs.Prelude.{ℕ, ◌==◌, ◌&&◌, Bool, bytes_eq, slice_index, List, Option, Some, None, Result, Ok, Err, if◌then◌else◌}
use Rattle.std.specs.Int.{from_be_bytes, w32}
use Rattle.identity_slots.specs.declared.profile.Profile.{Profile}
use Rattle.identity_slots.specs.Provisioned.{slot_of_id, slot_of_imsi}
use Rattle.nas_elements.specs.declared.fault.NasFault.{NasFault}
use Rattle.nas_elements.specs.declared.identity.Guti.{Guti}
use Rattle.nas_elements.specs.declared.identity.MobileIdentity.{MobileIdentity}
use Rattle.nas_elements.specs.declared.identity.MobileIdentity.TheVariants.{Imsi, Temporary}
use Rattle.nas_elements.specs.Identities.{plmn_from_s1ap}
use Rattle.nas_messages.specs.declared.emm_types.Direction.TheVariants.{Uplink}
use Rattle.nas_messages.specs.declared.emm_types.Emm.{Emm}
use Rattle.nas_messages.specs.declared.emm_types.Emm.TheVariants as emm
use Rattle.nas_messages.specs.Messages.{decoded_emm}
use Rattle.s1ap_elements.specs.declared.phone.STmsi.{STmsi}
use Rattle.mme_types.specs.declared.network.Network.{Network}
use Rattle.mme_signalling.specs.Hearing.{initial_octets}

-- a GUTI that this MME gave (TS 23.003 clause 2.8): its network, group and code
abbrev pub is_own : Network → Guti → Bool
is_own n g = bytes_eq g.plmn.octets (plmn_from_s1ap n.plmn) && bytes_eq g.group n.group && g.code == slice_index n.code 0

abbrev pub slot_of_guti : Network → List Profile → Guti → Option ℕ
slot_of_guti n ps g = if is_own n g then slot_of_id g.tmsi ps else None

abbrev pub slot_of_identity : Network → List Profile → MobileIdentity → Option ℕ
slot_of_identity n ps (Imsi digits) = slot_of_imsi digits ps
slot_of_identity n ps (Temporary g) = slot_of_guti n ps g

abbrev pub slot_of_s_tmsi : Network → List Profile → Option STmsi → Option ℕ
slot_of_s_tmsi n ps None = None
slot_of_s_tmsi n ps (Some t) = if bytes_eq t.code n.code then slot_of_id (from_be_bytes w32 t.m_tmsi) ps else None

-- by a message: of its identity, and for SERVICE REQUEST, which has none, of the S-TMSI beside it
abbrev pub slot_of_message : Network → List Profile → Option STmsi → Emm (List ℕ) → Option ℕ
slot_of_message n ps t (emm.AttachRequest m) = slot_of_identity n ps m.identity
slot_of_message n ps t (emm.DetachRequest m) = slot_of_identity n ps m.identity
slot_of_message n ps t (emm.TrackingAreaUpdateRequest m) = slot_of_guti n ps m.guti
slot_of_message n ps t (emm.ServiceRequest octets) = slot_of_s_tmsi n ps t
slot_of_message n ps t _ = None

abbrev pub slot_by : Network → List Profile → Option STmsi → Result (Emm (List ℕ)) NasFault → Option ℕ
slot_by n ps t (Ok m) = slot_of_message n ps t m
slot_by n ps t (Err fault) = None

-- the slot that is named, or nobody's: the message is foreign
unfoldable pub named_slot : Network → List Profile → List ℕ → Option STmsi → Option ℕ
named_slot n ps nas t = slot_by n ps t (decoded_emm Uplink (initial_octets nas))
