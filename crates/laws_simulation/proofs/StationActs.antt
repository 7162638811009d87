-- A station's acts.
use Rattle.std.proofs.Common.{◌≡◌, ℕ, ◌&&◌, Bool, true, false, true≢false, List, Option, Some, None, Ok, refl, sym, subst, ◌∙◌}
use Rattle.s1ap_pdus.specs.declared.pdu.Pdu.{Pdu}
use Rattle.s1ap_pdus.specs.Pdus.{decoded, encoded}
use Rattle.enb_sim.specs.declared.station.StationAct.TheVariants.{SetUp, Initial, Uplink, Switch, Release}
use Rattle.enb_sim.specs.Delivering.{holds_pair, pair_with}
use Rattle.enb_sim.specs.Sending.{initial_pdu, release_pdu, setup_pdu, switch_pdu, uplink_pdu}
use Rattle.enb_sim.specs.View.{act_octets, can_act, sent_if}
use Rattle.laws_network.specs.Sizes.{IsShortMessage}
use Rattle.laws_simulation.specs.NasSent.{IsPhoneNasIf}
use Rattle.laws_simulation.specs.Stations.{ActsAreSent, IsSentAs, NasIsCarried, OthersAreSilent, PhonesAreCarried, StationBeginsInRange, StationStaysInRange}
use Rattle.laws_simulation.proofs.StationMessages.{short_initial, short_release, short_setup, short_switch, short_uplink}

-- the laws of S1AP messages that these stand on, as they are given
pub record S1apLawsGiven : Type 0 where
  pub short : (m : Pdu (List ℕ)) → IsShortMessage m → (os : List ℕ) × (encoded m ≡ Some os)
  pub decodes : (m : Pdu (List ℕ)) (os : List ℕ) → encoded m ≡ Some os → decoded os ≡ Ok m

pub short_sent : S1apLawsGiven → (m : Pdu (List ℕ)) → IsShortMessage m → (o : Option (List ℕ)) → o ≡ encoded m → IsSentAs m o
short_sent laws m short o e =
    let made = laws.short m short in
    record { octets = made.0; some = e ∙ made.1; written = made.1; read = laws.decodes m made.0 made.1 }

where_can : (b : Bool) (o : Option (List ℕ)) → b ≡ true → sent_if b o ≡ o
where_can true o e = refl
where_can false o e = absurd (true≢false (sym e))

where_cannot : (b : Bool) (o : Option (List ℕ)) → b ≡ false → sent_if b o ≡ None
where_cannot true o e = absurd (true≢false e)
where_cannot false o e = refl

pub acts_are_sent : S1apLawsGiven → ActsAreSent
unfolding act_octets can_act
acts_are_sent laws SetUp s h k can = short_sent laws (setup_pdu s.profile) (short_setup s.profile h.profile) _ refl
acts_are_sent laws (Initial enb_ue_id nas s_tmsi) s h k can =
    let m = initial_pdu s.profile enb_ue_id nas.now s_tmsi in
    short_sent laws m (short_initial s.profile enb_ue_id nas.now s_tmsi h.profile k.0 k.1 k.2) _ (where_can s.ready (encoded m) can)
acts_are_sent laws (Uplink mme_ue_id enb_ue_id nas) s h k can =
    let pair = pair_with mme_ue_id enb_ue_id in
    let m = uplink_pdu s.profile pair nas.now in
    short_sent laws m (short_uplink s.profile pair nas.now h.profile k.0 k.1) _
    (where_can (s.ready && holds_pair pair s.pairs) (encoded m) can)
acts_are_sent laws (Switch mme_ue_id enb_ue_id) s h k can =
    let pair = pair_with mme_ue_id enb_ue_id in
    let m = switch_pdu s.profile pair in
    short_sent laws m (short_switch s.profile pair h.profile k) _ (where_can s.ready (encoded m) can)
acts_are_sent laws (Release mme_ue_id enb_ue_id) s h k can =
    let pair = pair_with mme_ue_id enb_ue_id in
    short_sent laws (release_pdu pair) (short_release pair k) _
    (where_can (s.ready && holds_pair pair s.pairs) (encoded (release_pdu pair)) can)

pub others_are_silent : OthersAreSilent
unfolding act_octets can_act
others_are_silent SetUp s cannot = absurd (true≢false cannot)
others_are_silent (Initial enb_ue_id nas s_tmsi) s cannot = where_cannot s.ready _ cannot
others_are_silent (Uplink mme_ue_id enb_ue_id nas) s cannot =
    where_cannot (s.ready && holds_pair (pair_with mme_ue_id enb_ue_id) s.pairs) _ cannot
others_are_silent (Switch mme_ue_id enb_ue_id) s cannot = where_cannot s.ready _ cannot
others_are_silent (Release mme_ue_id enb_ue_id) s cannot =
    where_cannot (s.ready && holds_pair (pair_with mme_ue_id enb_ue_id) s.pairs) _ cannot

pub nas_is_carried : NasIsCarried
unfolding setup_pdu initial_pdu uplink_pdu switch_pdu release_pdu
nas_is_carried SetUp s = refl
nas_is_carried (Initial enb_ue_id nas s_tmsi) s = refl
nas_is_carried (Uplink mme_ue_id enb_ue_id nas) s = refl
nas_is_carried (Switch mme_ue_id enb_ue_id) s = refl
nas_is_carried (Release mme_ue_id enb_ue_id) s = refl

pub phones_are_carried : S1apLawsGiven → PhonesAreCarried
phones_are_carried laws act s h k can nas =
    (acts_are_sent laws act s h k can, subst IsPhoneNasIf (sym (nas_is_carried act s.profile)) nas)

-- ---- what a station is then

pub station_begins : StationBeginsInRange
station_begins s h = record { profile = h; pairs = tt }

pub station_stays : StationStaysInRange
station_stays SetUp s h = record { profile = h.profile; pairs = tt }
station_stays (Initial enb_ue_id nas s_tmsi) s h = h
station_stays (Uplink mme_ue_id enb_ue_id nas) s h = h
station_stays (Switch mme_ue_id enb_ue_id) s h = h
station_stays (Release mme_ue_id enb_ue_id) s h = h
