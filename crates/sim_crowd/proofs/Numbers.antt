-- What a station makes of the MME's octets: it keeps its number.
use Rattle.std.proofs.Common.{◌≡◌, ℕ, List, set, Option, Some, None, Result, Ok, Err, refl, sym, ◌∙◌, ap, subst}
use Rattle.std.specs.Prelude.{IfOk, OnOk, OnErr, slice_get}
use Rattle.s1ap_elements.specs.declared.phone.UeIdPair.{UeIdPair}
use Rattle.s1ap_rows.specs.declared.fault.S1apFault.{S1apFault}
use Rattle.s1ap_pdus.specs.declared.pdu.Pdu.{Pdu}
use Rattle.s1ap_pdus.specs.declared.pdu.Pdu.TheVariants as pdu
use Rattle.s1ap_pdus.specs.Pdus.{decoded}
use Rattle.enb_sim.specs.Delivering.{Delivered, StationView, delivered, ended, first_bearer, named_pair, pair_with, read_delivery, received, seen_delivery, served}
use Rattle.enb_sim.specs.declared.delivering.Delivery.{Delivery}
use Rattle.sim_crowd.specs.declared.site.Site.{Site}
use Rattle.sim_crowd.specs.Items.{changed_item}
use Rattle.sim_crowd.specs.Sites.{hearing_site}
use Rattle.sim_crowd.specs.Stations.{seen_told, told_in}

served_same : (pair : UeIdPair) (found : Option (ℕ × Option (List ℕ))) (s : StationView)
    → (served pair found s).station.profile ≡ s.profile
served_same pair None s = refl
served_same pair (Some found) s = refl

ended_same : (o : Option UeIdPair) (s : StationView) → (ended o s).station.profile ≡ s.profile
ended_same None s = refl
ended_same (Some pair) s = refl

received_same : (m : Pdu (List ℕ)) (s : StationView) → (received m s).station.profile ≡ s.profile
received_same (pdu.S1SetupResponse m) s = refl
received_same (pdu.S1SetupFailure m) s = refl
received_same (pdu.DownlinkNasTransport m) s = refl
received_same (pdu.InitialContextSetupRequest m) s = served_same (pair_with m.mme_ue_id m.enb_ue_id) (first_bearer m.erabs) s
received_same (pdu.UeContextReleaseCommand m) s = ended_same (named_pair m.ids s.pairs) s
received_same (pdu.PathSwitchRequestAcknowledge m) s = refl
received_same _ s = refl

read_same : (read : Result (Pdu (List ℕ)) S1apFault) (s : StationView) → (read_delivery read s).station.profile ≡ s.profile
read_same (Ok m) s = received_same m s
read_same (Err fault) s = refl

delivered_same : (os : List ℕ) (s : StationView) → (delivered os s).station.profile ≡ s.profile
unfolding delivered
delivered_same os s = read_same (decoded os) s

module _ {E : Type 0} (os : List ℕ) where
  pub number_kept : (r : Result Delivery E) (s t : StationView) → IfOk r (λ d. seen_delivery d t ≡ delivered os s)
      → OnErr r (t ≡ s) → t.profile.number ≡ s.profile.number
  number_kept (Ok d) s t ok err = ap (λ (x : Delivered). x.station.profile.number) ok ∙ ap (λ p. p.number) (delivered_same os s)
  number_kept (Err fault) s t ok err = ap (λ (x : StationView). x.profile.number) err

  pub told_so : (r : Result Delivery E) (s : Site) (t : StationView) (o : Option Site) → o ≡ Some s
      → IfOk r (λ d. seen_delivery d t ≡ delivered os s.station) → IfOk r (λ d. seen_told d ≡ told_in os o)
  told_so (Ok d) s t o e ok =
      subst (λ x. seen_told d ≡ told_in os x) (sym e) (ap (λ (x : Delivered). record { octets = x.octets; nas = x.nas }) ok)
  told_so (Err fault) s t o e ok = tt

  pub heard_so : (r : Result Delivery E) (s : Site) (t : StationView) (place : ℕ) (sites : List Site)
      → slice_get sites place ≡ Some s → IfOk r (λ d. seen_delivery d t ≡ delivered os s.station)
      → OnOk r (set sites place (record s { station = t }) ≡ changed_item (Some place) (hearing_site os) sites)
  heard_so (Ok d) s t place sites e ok =
      rw e (ap (λ (x : Delivered). set sites place (record s { station = x.station })) ok)
  heard_so (Err fault) s t place sites e ok = tt
