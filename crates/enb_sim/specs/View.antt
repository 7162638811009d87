-- A station's acts.
use Rattle.std.specs.Prelude.{ℕ, ◌&&◌, Bool, true, false, if◌then◌else◌, List, [], Option, None}
use Rattle.s1ap_pdus.specs.Pdus.{encoded}
use Rattle.enb_sim.specs.declared.profile.StationProfile.{StationProfile}
use Rattle.enb_sim.specs.declared.station.StationAct.{StationAct}
use Rattle.enb_sim.specs.declared.station.StationAct.TheVariants.{SetUp, Initial, Uplink, Switch, Release}
use Rattle.enb_sim.specs.Sending.{initial_pdu, release_pdu, setup_pdu, switch_pdu, uplink_pdu}
use Rattle.enb_sim.specs.Delivering.{StationView, holds_pair, pair_with}

-- not set up, with no association
abbrev pub new_station : StationProfile → StationView
new_station profile = record { profile = profile; ready = false; pairs = [] }

-- what is sent where it can be
abbrev pub sent_if : Bool → Option (List ℕ) → Option (List ℕ)
sent_if possible octets = if possible then octets else None

-- the octets of an act, or None where it can't be done: a message of more than 16383 octets, a station that isn't set up, an
-- association that it doesn't hold
unfoldable pub act_octets : StationAct → StationView → Option (List ℕ)
act_octets SetUp s = encoded (setup_pdu s.profile)
act_octets (Initial enb_ue_id nas s_tmsi) s = sent_if s.ready (encoded (initial_pdu s.profile enb_ue_id nas.now s_tmsi))
act_octets (Uplink m b nas) s =
    sent_if (s.ready && holds_pair (pair_with m b) s.pairs) (encoded (uplink_pdu s.profile (pair_with m b) nas.now))
act_octets (Switch m b) s = sent_if s.ready (encoded (switch_pdu s.profile (pair_with m b)))
act_octets (Release m b) s = sent_if (s.ready && holds_pair (pair_with m b) s.pairs) (encoded (release_pdu (pair_with m b)))

-- the act can be done: one that sends for a phone by a station that is set up, and for a phone that it serves
unfoldable pub can_act : StationAct → StationView → Bool
can_act SetUp s = true
can_act (Initial enb_ue_id nas s_tmsi) s = s.ready
can_act (Uplink m b nas) s = s.ready && holds_pair (pair_with m b) s.pairs
can_act (Switch m b) s = s.ready
can_act (Release m b) s = s.ready && holds_pair (pair_with m b) s.pairs

-- setting up ends what was
abbrev pub after_station_act : StationAct → StationView → StationView
after_station_act SetUp s = new_station s.profile
after_station_act _ s = s
