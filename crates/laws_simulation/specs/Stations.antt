-- What a station sends, by its acts and to what it receives: messages of the profile alone.
use Rattle.std.specs.Prelude.{◌≡◌, ℕ, true, false, List, Option, Some, None, Result, Ok, Err, option_map}
use Rattle.per_streams.specs.Octet.{all_below}
use Rattle.s1ap_rows.specs.declared.fault.S1apFault.{S1apFault}
use Rattle.s1ap_pdus.specs.declared.pdu.Pdu.{Pdu}
use Rattle.s1ap_pdus.specs.declared.pdu.Pdu.TheVariants as pdu
use Rattle.s1ap_pdus.specs.Pdus.{decoded, encoded}
use Rattle.enb_sim.specs.declared.profile.StationProfile.{StationProfile}
use Rattle.enb_sim.specs.declared.station.StationAct.{StationAct}
use Rattle.enb_sim.specs.declared.station.StationAct.TheVariants.{SetUp, Initial, Uplink, Switch, Release}
use Rattle.enb_sim.specs.Delivering.{PhoneNasView, StationView, delivered, first_bearer, named_pair, pair_with}
use Rattle.enb_sim.specs.Ranges.{SiteInRange}
use Rattle.enb_sim.specs.Sending.{complete_pdu, context_pdu, initial_pdu, release_pdu, setup_pdu, switch_pdu, uplink_pdu}
use Rattle.enb_sim.specs.View.{act_octets, after_station_act, can_act, new_station}
use Rattle.laws_simulation.specs.NasSent.{IsPhoneNasIf}
use Rattle.laws_simulation.specs.StationRanges.{ActInRange, StationInRange}

-- ---- what is sent of a message

-- octets are sent; they are what is written of the message, and are decoded as it
pub record IsSentAs (m : Pdu (List ℕ)) (sent : Option (List ℕ)) : Type 0 where
  pub octets : List ℕ
  pub some : sent ≡ Some octets
  pub written : encoded m ≡ Some octets
  pub read : decoded octets ≡ Ok m

-- the NAS message that a station carries from a phone
abbrev pub uplink_nas_within : Pdu (List ℕ) → Option (List ℕ)
uplink_nas_within (pdu.InitialUeMessage m) = Some m.nas
uplink_nas_within (pdu.UplinkNasTransport m) = Some m.nas
uplink_nas_within _ = None

-- ---- acts

-- the message of an act
abbrev pub act_message : StationAct → StationProfile → Pdu (List ℕ)
act_message SetUp s = setup_pdu s
act_message (Initial enb_ue_id nas s_tmsi) s = initial_pdu s enb_ue_id nas.now s_tmsi
act_message (Uplink m b nas) s = uplink_pdu s (pair_with m b) nas.now
act_message (Switch m b) s = switch_pdu s (pair_with m b)
act_message (Release m b) s = release_pdu (pair_with m b)

-- the NAS message that is handed to the station for it
abbrev pub nas_of_act : StationAct → Option (List ℕ)
nas_of_act (Initial enb_ue_id nas s_tmsi) = Some nas.now
nas_of_act (Uplink m b nas) = Some nas.now
nas_of_act _ = None

-- each act that can be done sends its message
abbrev pub ActsAreSent : Type 0
ActsAreSent =
    (act : StationAct) (s : StationView) → StationInRange s → ActInRange act → can_act act s ≡ true
    → IsSentAs (act_message act s.profile) (act_octets act s)

-- an act that can't be done sends nothing
abbrev pub OthersAreSilent : Type 0
OthersAreSilent = (act : StationAct) (s : StationView) → can_act act s ≡ false → act_octets act s ≡ None

-- an act's message has the NAS message that was handed to the station for it, and no other
abbrev pub NasIsCarried : Type 0
NasIsCarried = (act : StationAct) (s : StationProfile) → uplink_nas_within (act_message act s) ≡ nas_of_act act

-- so where that is a phone's, the whole is of the profile: the message, and the NAS message within it
abbrev pub PhonesAreCarried : Type 0
PhonesAreCarried =
    (act : StationAct) (s : StationView) → StationInRange s → ActInRange act → can_act act s ≡ true → IsPhoneNasIf (nas_of_act act)
    → IsSentAs (act_message act s.profile) (act_octets act s) × IsPhoneNasIf (uplink_nas_within (act_message act s.profile))

-- ---- answers

-- the message that is owed to one that was read, where there is one
abbrev pub answer_message : Pdu (List ℕ) → StationView → Option (Pdu (List ℕ))
answer_message (pdu.InitialContextSetupRequest m) s =
    option_map (λ found. context_pdu s.profile (pair_with m.mme_ue_id m.enb_ue_id) found.0) (first_bearer m.erabs)
answer_message (pdu.UeContextReleaseCommand m) s = option_map complete_pdu (named_pair m.ids s.pairs)
answer_message _ s = None

abbrev pub message_owed : Result (Pdu (List ℕ)) S1apFault → StationView → Option (Pdu (List ℕ))
message_owed (Ok m) s = answer_message m s
message_owed (Err fault) s = None

abbrev pub IsSentIf : Option (Pdu (List ℕ)) → Option (List ℕ) → Type 0
IsSentIf None sent = sent ≡ None
IsSentIf (Some m) sent = IsSentAs m sent

-- what is handed to a phone is octets
abbrev pub HandsOctets : Option PhoneNasView → Type 0
HandsOctets None = Unit {0}
HandsOctets (Some handed) = all_below 256 handed.nas ≡ true

-- whatever octets come, what is owed to them is sent, and nothing else; and the station stays in range
pub record IsAnsweredWell (os : List ℕ) (s : StationView) : Type 0 where
  pub sent : IsSentIf (message_owed (decoded os) s) (delivered os s).octets
  pub handed : HandsOctets (delivered os s).nas
  pub station : StationInRange (delivered os s).station

-- of every station in range
abbrev pub AnswersAreSent : Type 0
AnswersAreSent = (os : List ℕ) (s : StationView) → StationInRange s → IsAnsweredWell os s

-- ---- a station stays in range

-- it begins so, where its profile is in range
abbrev pub StationBeginsInRange : Type 0
StationBeginsInRange = (s : StationProfile) → SiteInRange s → StationInRange (new_station s)

-- and stays so at each act
abbrev pub StationStaysInRange : Type 0
StationStaysInRange = (act : StationAct) (s : StationView) → StationInRange s → StationInRange (after_station_act act s)
