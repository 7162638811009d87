-- Each message that a station sends is short, where what it is built of is in range.
use Rattle.std.proofs.Common.{◌≡◌, ℕ, ◌^◌, ◌<◌, ◌≤◌, List, length, Option, Some, None, refl, arith}
use Rattle.std.proofs.lemmas.Bool.{and_from}
use Rattle.s1ap_elements.specs.declared.phone.STmsi.{STmsi}
use Rattle.s1ap_elements.specs.declared.phone.UeIdPair.{UeIdPair}
use Rattle.s1ap_elements.specs.Bearers.{typed_erab_tunnel}
use Rattle.s1ap_elements.specs.Formats.{erab_tunnel, eutran_cgi, tai}
use Rattle.s1ap_elements.specs.Phones.{typed_eutran_cgi, typed_tai}
use Rattle.enb_sim.specs.declared.profile.StationProfile.{StationProfile}
use Rattle.enb_sim.specs.Profile.{area_of, cell_of, tunnel_of}
use Rattle.enb_sim.specs.Ranges.{STmsiInRangeIf, SiteInRange}
use Rattle.enb_sim.specs.Sending.{complete_pdu, context_pdu, initial_pdu, release_pdu, setup_pdu, switch_pdu, uplink_pdu}
use Rattle.laws_network.specs.BuilderLaws.{bytes_long}
use Rattle.laws_network.specs.Ranges.{IsBrief}
use Rattle.laws_network.specs.Sizes.{IsShortMessage, most_octets}
use Rattle.laws_simulation.specs.StationRanges.{PairInRange}
use Rattle.laws_simulation.proofs.SmallParts.{area_fits, area_size, bits_long, cell_fits, cell_size, enb_then, mme_then, then_done, tunnel_fits, tunnel_size}

pub short_setup : (s : StationProfile) → SiteInRange s → IsShortMessage (setup_pdu s)
unfolding setup_pdu
short_setup s h =
    let plmn : length s.plmn ≡ 3 = bytes_long 3 s.plmn h.plmn in
    let tac : length s.tac ≡ 2 = bytes_long 2 s.tac h.tac in
    let macro_id : length s.macro_id ≡ 20 = bits_long 20 s.macro_id h.macro_id in
    record {
      ranges = and_from _ _ (and_from _ _ h.plmn (then_done _ h.macro_id))
          (then_done _ (then_done _ (and_from _ _ h.tac (then_done _ (then_done _ h.plmn)))));
      size = omega (arith, plmn, tac, macro_id);
    }

pub short_initial : (s : StationProfile) (enb_ue_id : ℕ) (nas : List ℕ) (o : Option STmsi) → SiteInRange s → enb_ue_id < 2 ^ 24
    → IsBrief 15000 nas → STmsiInRangeIf o → IsShortMessage (initial_pdu s enb_ue_id nas o)
unfolding initial_pdu
short_initial s enb_ue_id nas None h low brief t =
    let few : length nas ≤ 15000 = brief.few in
    let area : most_octets tai (typed_tai (area_of s)) ≤ 10 = area_size s h in
    let cell : most_octets eutran_cgi (typed_eutran_cgi (cell_of s)) ≤ 40 = cell_size s h in
    record {
      ranges = enb_then enb_ue_id _ low (and_from _ _ brief.octets (and_from _ _ (area_fits s h) (then_done _ (cell_fits s h))));
      size = omega (arith, few, area, cell);
    }
short_initial s enb_ue_id nas (Some t) h low brief k =
    let few : length nas ≤ 15000 = brief.few in
    let area : most_octets tai (typed_tai (area_of s)) ≤ 10 = area_size s h in
    let cell : most_octets eutran_cgi (typed_eutran_cgi (cell_of s)) ≤ 40 = cell_size s h in
    let code : length t.code ≡ 1 = bytes_long 1 t.code k.0 in
    let m_tmsi : length t.m_tmsi ≡ 4 = bytes_long 4 t.m_tmsi k.1 in
    record {
      ranges = enb_then enb_ue_id _ low
          (and_from _ _ brief.octets
          (and_from _ _ (area_fits s h) (and_from _ _ (cell_fits s h) (then_done _ (and_from _ _ k.0 (then_done _ k.1))))));
      size = omega (arith, few, area, cell, code, m_tmsi);
    }

pub short_uplink : (s : StationProfile) (pair : UeIdPair) (nas : List ℕ) → SiteInRange s → PairInRange pair → IsBrief 15000 nas
    → IsShortMessage (uplink_pdu s pair nas)
unfolding uplink_pdu
short_uplink s pair nas h ids brief =
    let few : length nas ≤ 15000 = brief.few in
    let area : most_octets tai (typed_tai (area_of s)) ≤ 10 = area_size s h in
    let cell : most_octets eutran_cgi (typed_eutran_cgi (cell_of s)) ≤ 40 = cell_size s h in
    record {
      ranges = mme_then pair.mme_ue_id _ ids.mme_ue_id (enb_then pair.enb_ue_id _ ids.enb_ue_id
          (and_from _ _ brief.octets (and_from _ _ (cell_fits s h) (then_done _ (area_fits s h)))));
      size = omega (arith, few, area, cell);
    }

pub short_switch : (s : StationProfile) (pair : UeIdPair) → SiteInRange s → PairInRange pair → IsShortMessage (switch_pdu s pair)
unfolding switch_pdu
short_switch s pair h ids =
    let area : most_octets tai (typed_tai (area_of s)) ≤ 10 = area_size s h in
    let cell : most_octets eutran_cgi (typed_eutran_cgi (cell_of s)) ≤ 40 = cell_size s h in
    let tunnel : most_octets erab_tunnel (typed_erab_tunnel (tunnel_of s 5 pair.enb_ue_id)) ≤ 80 = tunnel_size s 5 pair.enb_ue_id in
    record {
      ranges = enb_then pair.enb_ue_id _ ids.enb_ue_id
          (and_from _ _ (then_done _ (then_done _ (tunnel_fits s 5 pair.enb_ue_id (omega arith))))
          (mme_then pair.mme_ue_id _ ids.mme_ue_id (and_from _ _ (cell_fits s h) (then_done _ (area_fits s h)))));
      size = omega (arith, area, cell, tunnel);
    }

pub short_release : (pair : UeIdPair) → PairInRange pair → IsShortMessage (release_pdu pair)
unfolding release_pdu
short_release pair ids = record {
  ranges = mme_then pair.mme_ue_id _ ids.mme_ue_id (enb_then pair.enb_ue_id _ ids.enb_ue_id refl);
  size = omega arith;
}

pub short_context : (s : StationProfile) (pair : UeIdPair) (id : ℕ) → SiteInRange s → PairInRange pair → id < 16
    → IsShortMessage (context_pdu s pair id)
unfolding context_pdu
short_context s pair id h ids low =
    let tunnel : most_octets erab_tunnel (typed_erab_tunnel (tunnel_of s id pair.enb_ue_id)) ≤ 80 =
    tunnel_size s id pair.enb_ue_id in
    record {
      ranges = mme_then pair.mme_ue_id _ ids.mme_ue_id (enb_then pair.enb_ue_id _ ids.enb_ue_id
          (then_done _ (then_done _ (then_done _ (tunnel_fits s id pair.enb_ue_id low)))));
      size = omega (arith, tunnel);
    }

pub short_complete : (pair : UeIdPair) → PairInRange pair → IsShortMessage (complete_pdu pair)
unfolding complete_pdu
short_complete pair ids = record {
  ranges = mme_then pair.mme_ue_id _ ids.mme_ue_id (enb_then pair.enb_ue_id _ ids.enb_ue_id refl);
  size = omega arith;
}
