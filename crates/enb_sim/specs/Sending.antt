-- The S1AP messages that a station sends.
use Rattle.std.specs.Prelude.{ℕ, List, [], ◌∷◌, Option, None}
use Rattle.s1ap_causes.specs.declared.cause.Cause.TheVariants.{RadioNetwork}
use Rattle.s1ap_causes.specs.declared.cause.RadioNetworkCause.TheVariants.{UserInactivity}
use Rattle.s1ap_elements.specs.declared.phone.RrcCause.TheVariants.{MoSignalling}
use Rattle.s1ap_elements.specs.declared.phone.STmsi.{STmsi}
use Rattle.s1ap_elements.specs.declared.phone.UeIdPair.{UeIdPair}
use Rattle.s1ap_elements.specs.declared.station.EnbId.TheVariants.{Macro}
use Rattle.s1ap_elements.specs.declared.station.PagingDrx.TheVariants.{Frames128}
use Rattle.s1ap_pdus.specs.declared.pdu.Pdu.{Pdu}
use Rattle.s1ap_pdus.specs.declared.pdu.Pdu.TheVariants as pdu
use Rattle.enb_sim.specs.declared.profile.StationProfile.{StationProfile}
use Rattle.enb_sim.specs.Profile.{area_of, cell_of, phone_capabilities, tunnel_of}

-- S1 SETUP REQUEST: without a name, one tracking area with the one network, and a paging cycle of 128 frames
unfoldable pub setup_pdu : StationProfile → Pdu (List ℕ)
setup_pdu s = pdu.S1SetupRequest (record {
  station = record { plmn = s.plmn; id = Macro s.macro_id };
  name = None;
  supported_tas = record { tac = s.tac; plmns = s.plmn ∷ [] } ∷ [];
  paging_drx = Frames128;
})

unfoldable pub initial_pdu : StationProfile → ℕ → List ℕ → Option STmsi → Pdu (List ℕ)
initial_pdu s enb_ue_id nas s_tmsi = pdu.InitialUeMessage (record {
  enb_ue_id = enb_ue_id;
  nas = nas;
  tai = area_of s;
  cell = cell_of s;
  rrc_cause = MoSignalling;
  s_tmsi = s_tmsi;
})

unfoldable pub uplink_pdu : StationProfile → UeIdPair → List ℕ → Pdu (List ℕ)
uplink_pdu s pair nas =
    pdu.UplinkNasTransport
    (record { mme_ue_id = pair.mme_ue_id; enb_ue_id = pair.enb_ue_id; nas = nas; cell = cell_of s; tai = area_of s })

-- PATH SWITCH REQUEST for the default bearer
unfoldable pub switch_pdu : StationProfile → UeIdPair → Pdu (List ℕ)
switch_pdu s pair = pdu.PathSwitchRequest (record {
  enb_ue_id = pair.enb_ue_id;
  erabs = record { value = tunnel_of s 5 pair.enb_ue_id } ∷ [];
  source_mme_ue_id = pair.mme_ue_id;
  cell = cell_of s;
  tai = area_of s;
  capabilities = phone_capabilities;
})

-- UE CONTEXT RELEASE REQUEST
unfoldable pub release_pdu : UeIdPair → Pdu (List ℕ)
release_pdu pair =
    pdu.UeContextReleaseRequest
    (record { mme_ue_id = pair.mme_ue_id; enb_ue_id = pair.enb_ue_id; cause = RadioNetwork UserInactivity })

-- INITIAL CONTEXT SETUP RESPONSE for a bearer
unfoldable pub context_pdu : StationProfile → UeIdPair → ℕ → Pdu (List ℕ)
context_pdu s pair id = pdu.InitialContextSetupResponse (record {
  mme_ue_id = pair.mme_ue_id;
  enb_ue_id = pair.enb_ue_id;
  erabs = record { value = tunnel_of s id pair.enb_ue_id } ∷ [];
})

-- UE CONTEXT RELEASE COMPLETE
unfoldable pub complete_pdu : UeIdPair → Pdu (List ℕ)
complete_pdu pair = pdu.UeContextReleaseComplete (record { mme_ue_id = pair.mme_ue_id; enb_ue_id = pair.enb_ue_id })
