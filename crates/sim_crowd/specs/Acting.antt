-- What comes of what stations and phones do of their own accord.
use Rattle.std.specs.Prelude.{ℕ, ◌&&◌, is_some, if◌then◌else◌, List, Option, Some, None}
use Rattle.s1ap_pdus.specs.Pdus.{encoded}
use Rattle.sim_phone.specs.declared.phone.PhoneAct.{PhoneAct}
use Rattle.sim_phone.specs.declared.phone.PhoneAct.TheVariants as acts
use Rattle.enb_sim.specs.Delivering.{StationView, holds_pair}
use Rattle.enb_sim.specs.Sending.{initial_pdu, release_pdu, setup_pdu, switch_pdu, uplink_pdu}
use Rattle.enb_sim.specs.View.{sent_if}
use Rattle.s1ap_elements.specs.declared.phone.UeIdPair.{UeIdPair}
use Rattle.trace_words.specs.declared.act.PhoneWord.{PhoneWord}
use Rattle.trace_words.specs.declared.act.PhoneWord.TheVariants.{Detach, Off, Idle, Deaf, Replay, Forge}
use Rattle.trace_words.specs.declared.act.RadioPlace.{RadioPlace}
use Rattle.trace_words.specs.declared.act.RadioWord.{RadioWord}
use Rattle.trace_words.specs.declared.act.RadioWord.TheVariants.{Attach, Info, Foreign, Service, Tau, Switch}
use Rattle.trace_words.specs.declared.act.StationLine.{StationLine}
use Rattle.sim_crowd.specs.declared.acted.Acted.{Acted}
use Rattle.sim_crowd.specs.declared.acted.Acted.TheVariants.{Skipped, Silent, Sends}
use Rattle.sim_crowd.specs.declared.crowd.Crowd.{Crowd}
use Rattle.sim_crowd.specs.declared.whereabouts.Connection.{Connection}
use Rattle.sim_crowd.specs.declared.whereabouts.Standing.{Standing}
use Rattle.sim_crowd.specs.Crowds.{arrived, current, with_station_at, with_station_left}
use Rattle.sim_crowd.specs.Handsets.{Words, with_act, with_deafness, with_standing}
use Rattle.sim_crowd.specs.Phones.{changed_handset, phone_named, standing_of, words_of}
use Rattle.sim_crowd.specs.Sites.{with_comer, with_phone}
use Rattle.sim_crowd.specs.Stations.{changed_site, departed, is_set_up, parted, sent_by, site_of}
use Rattle.sim_crowd.specs.Uplinks.{UplinkView}
use Rattle.sim_crowd.specs.Whereabouts.{is_connection, moved_to, place_with, same_place, standing_at}

-- what comes of an act, and the crowd after it
pub record Outcome : Type 0 where
  pub acted : Acted
  pub crowd : Crowd

-- this comes of it, and this is the crowd then
abbrev pub outcome : Acted → Crowd → Outcome
outcome acted c = record { acted = acted; crowd = c }

-- it can't be done
abbrev pub skipped : Crowd → Outcome
skipped c = outcome Skipped c

-- it is done by this message, or can't be done
abbrev pub acted_by : Option UplinkView → Acted
acted_by None = Skipped
acted_by (Some u) = Sends u

-- ---- the octets of a station's acts, as `act_octets` has them: none where the station isn't set up or doesn't hold the
-- association, or where the NAS message is too long

-- S1 SETUP REQUEST
abbrev pub setup_octets : StationView → Option (List ℕ)
setup_octets v = encoded (setup_pdu v.profile)

-- INITIAL UE MESSAGE
abbrev pub initial_octets : ℕ → Words → StationView → Option (List ℕ)
initial_octets enb_ue_id w v = sent_if v.ready (encoded (initial_pdu v.profile enb_ue_id w.nas w.s_tmsi))

-- UPLINK NAS TRANSPORT
abbrev pub uplink_octets : UeIdPair → List ℕ → StationView → Option (List ℕ)
uplink_octets pair nas v = sent_if (v.ready && holds_pair pair v.pairs) (encoded (uplink_pdu v.profile pair nas))

-- PATH SWITCH REQUEST
abbrev pub switch_octets : UeIdPair → StationView → Option (List ℕ)
switch_octets pair v = sent_if v.ready (encoded (switch_pdu v.profile pair))

-- UE CONTEXT RELEASE REQUEST
abbrev pub release_octets : UeIdPair → StationView → Option (List ℕ)
release_octets pair v = sent_if (v.ready && holds_pair pair v.pairs) (encoded (release_pdu pair))

-- ---- stations

-- a station more: Skipped where there was one of its number
abbrev pub adding_station : StationLine → Crowd → Outcome
adding_station line c = outcome (if is_some (site_of line.station c.stations) then Skipped else Silent) (with_station_at line c)

-- a station asks to be set up: S1 SETUP REQUEST, and nobody is there
abbrev pub setting_up : ℕ → Crowd → Outcome
setting_up n c = outcome (acted_by (sent_by n setup_octets c.stations)) (with_station_left n c)

-- ---- a phone speaks

-- the phone did this, whether or not there was something to say by it
abbrev pub with_phone_act : ℕ → PhoneAct → Crowd → Crowd
with_phone_act phone act c = record c { phones = changed_handset phone (with_act act) c.phones }

-- the phone is at a place, where it came by this act
abbrev pub come_from : ℕ → RadioPlace → PhoneAct → Standing → Crowd → Crowd
come_from phone place act s c = record c {
  stations = departed phone place s.place (changed_site place.station (with_comer phone place act) c.stations);
  phones = changed_handset phone (with_standing (standing_at place s)) c.phones;
}

abbrev pub come_to : ℕ → RadioPlace → PhoneAct → Crowd → Crowd
come_to phone place act c = come_from phone place act (standing_of phone c.phones) c

-- by INITIAL UE MESSAGE at a place, where it is from now on
abbrev pub beginning : ℕ → RadioPlace → PhoneAct → Words → Crowd → Outcome
beginning phone place act w c =
    outcome (acted_by (sent_by place.station (initial_octets place.enb_ue_id w) c.stations)) (come_to phone place act c)

abbrev pub entering_by : ℕ → RadioPlace → PhoneAct → Option Words → Crowd → Outcome
entering_by phone place act None c = skipped c
entering_by phone place act (Some w) c = beginning phone place act w c

-- a phone begins to speak at a place by this act: skipped if the station there isn't set up, or the phone can't say it
unfoldable pub entering : ℕ → RadioPlace → PhoneAct → Crowd → Outcome
entering phone place act c =
    if is_set_up (site_of place.station c.stations)
    then entering_by phone place act (words_of phone act c.phones) (with_phone_act phone act c) else skipped c

-- by UPLINK NAS TRANSPORT on an association
abbrev pub sent_on : Connection → List ℕ → Crowd → Option UplinkView
sent_on k nas c = sent_by k.station (uplink_octets k.pair nas) c.stations

abbrev pub speaking_by : Connection → Option Words → Crowd → Outcome
speaking_by k None c = skipped c
speaking_by k (Some w) c = outcome (acted_by (sent_on k w.nas c)) c

-- a phone that has an association speaks by it
unfoldable pub speaking : ℕ → Connection → PhoneAct → Crowd → Outcome
speaking phone k act c = speaking_by k (words_of phone act c.phones) (with_phone_act phone act c)

-- ---- a tracking area update: on the phone's association where that is there, or else anew

abbrev pub updating_by : ℕ → RadioPlace → Option Connection → Crowd → Outcome
updating_by phone place None c = entering phone place acts.Tau c
updating_by phone place (Some k) c =
    if same_place (place_with k) place then speaking phone k acts.Tau c else entering phone place acts.Tau c

-- where the phone is known by that very place, on its association
unfoldable pub updating : ℕ → RadioPlace → Crowd → Outcome
updating phone place c = updating_by phone place (current phone c) (arrived phone c)

-- ---- a phone's path moves: by PATH SWITCH REQUEST of its new station

-- it has this association once the MME has moved its path
abbrev pub expecting_from : ℕ → Connection → Standing → Crowd → Crowd
expecting_from phone moved s c =
    if is_connection moved s.connection then c
    else record c {
      stations = parted phone moved s.awaited (changed_site moved.station (with_phone phone moved.pair) c.stations);
      phones = changed_handset phone (with_standing (record s { awaited = Some moved })) c.phones;
    }

-- the phone is to have that association
abbrev pub expecting : ℕ → Connection → Crowd → Crowd
expecting phone moved c = expecting_from phone moved (standing_of phone c.phones) c

abbrev pub asking_by : ℕ → Connection → Option UplinkView → Crowd → Outcome
asking_by phone moved None c = skipped c
asking_by phone moved (Some u) c = outcome (Sends u) (expecting phone moved c)

-- its new station asks for it: skipped if it can't
unfoldable pub asking : ℕ → Connection → Crowd → Outcome
asking phone moved c = asking_by phone moved (sent_by moved.station (switch_octets moved.pair) c.stations) c

abbrev pub switching_by : ℕ → RadioPlace → Option Connection → Crowd → Outcome
switching_by phone place None c = skipped c
switching_by phone place (Some k) c = asking phone (moved_to place k) c

-- skipped if the phone has no association
unfoldable pub switching : ℕ → RadioPlace → Crowd → Outcome
switching phone place c = switching_by phone place (current phone c) (arrived phone c)

-- ---- a phone acts where it is: on its association, or else anew where it was last

abbrev pub returning_to : ℕ → PhoneAct → Option RadioPlace → Crowd → Outcome
returning_to phone act None c = skipped c
returning_to phone act (Some place) c = entering phone place act c

abbrev pub going_by : ℕ → PhoneAct → Option Connection → Crowd → Outcome
going_by phone act None c = returning_to phone act (standing_of phone c.phones).place c
going_by phone act (Some k) c = speaking phone k act c

-- a phone speaks on its association, or else at its last place: skipped if it was nowhere
unfoldable pub going : ℕ → PhoneAct → Crowd → Outcome
going phone act c = going_by phone act (current phone c) (arrived phone c)

-- its station asks for its release: UE CONTEXT RELEASE REQUEST
abbrev pub resting_by : Option Connection → Crowd → Outcome
resting_by None c = skipped c
resting_by (Some k) c = outcome (acted_by (sent_by k.station (release_octets k.pair) c.stations)) c

-- skipped if the phone has no association
abbrev pub resting : ℕ → Crowd → Outcome
resting phone c = resting_by (current phone c) (arrived phone c)

-- a lie goes by its association alone
abbrev pub lying_by : ℕ → PhoneAct → Option Connection → Crowd → Outcome
lying_by phone act None c = skipped c
lying_by phone act (Some k) c = speaking phone k act c

-- skipped if the phone has no association
abbrev pub lying : ℕ → PhoneAct → Crowd → Outcome
lying phone act c = lying_by phone act (current phone c) (arrived phone c)

-- it answers nothing from now on
abbrev pub deafening : ℕ → Crowd → Outcome
deafening phone c = outcome Silent (record c { phones = changed_handset phone with_deafness c.phones })

-- ---- the acts of a script, by the phone with an IMSI

-- what a word of a script that names a place has a phone do
abbrev pub phone_acting_there : RadioWord → ℕ → RadioPlace → Crowd → Outcome
phone_acting_there Attach phone place c = entering phone place acts.Attach c
phone_acting_there Info phone place c = entering phone place acts.Info c
phone_acting_there Foreign phone place c = entering phone place acts.Foreign c
phone_acting_there Service phone place c = entering phone place acts.Service c
phone_acting_there Tau phone place c = updating phone place c
phone_acting_there Switch phone place c = switching phone place c

abbrev pub acting_there_by : RadioWord → Option ℕ → RadioPlace → Crowd → Outcome
acting_there_by word None place c = skipped c
acting_there_by word (Some phone) place c = phone_acting_there word phone place c

-- what it has the phone of a subscriber do: skipped if there is none
abbrev pub acting_there : RadioWord → List ℕ → RadioPlace → Crowd → Outcome
acting_there word imsi place c = acting_there_by word (phone_named imsi c.phones) place c

-- what a word of a script without a place has a phone do
abbrev pub phone_acting : PhoneWord → ℕ → Crowd → Outcome
phone_acting Detach phone c = going phone acts.Detach c
phone_acting Off phone c = going phone acts.Off c
phone_acting Idle phone c = resting phone c
phone_acting Deaf phone c = deafening phone c
phone_acting Replay phone c = lying phone acts.Replay c
phone_acting Forge phone c = lying phone acts.Forge c

abbrev pub acting_by : PhoneWord → Option ℕ → Crowd → Outcome
acting_by word None c = skipped c
acting_by word (Some phone) c = phone_acting word phone c

-- what it has the phone of a subscriber do: skipped if there is none
abbrev pub acting : PhoneWord → List ℕ → Crowd → Outcome
acting word imsi c = acting_by word (phone_named imsi c.phones) c
