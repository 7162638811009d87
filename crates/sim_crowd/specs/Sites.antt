-- A station, and which phones are there: a phone is known by its place among the phones. Who came with which eNB UE id, and whose
-- an association is, follows from nothing else in the model, so a site keeps these entries themselves.
use Rattle.std.specs.Prelude.{ℕ, ◌&&◌, ◌==◌, ◌/◌, ◌%◌, ◌^◌, Bool, true, false, if◌then◌else◌, List, [], ◌∷◌, Option}
use Rattle.nas_elements.specs.Identities.{first_of}
use Rattle.identity_slots.specs.Ids.{stranger_id}
use Rattle.s1ap_elements.specs.declared.phone.UeIdPair.{UeIdPair}
use Rattle.sim_phone.specs.declared.phone.PhoneAct.{PhoneAct}
use Rattle.sim_phone.specs.declared.phone.PhoneAct.TheVariants.{Foreign}
use Rattle.enb_sim.specs.Delivering.{delivered, holds_pair, pair_with}
use Rattle.enb_sim.specs.View.{new_station}
use Rattle.sorted_list.specs.Paired.{paired}
use Rattle.trace_words.specs.declared.act.RadioPlace.{RadioPlace}
use Rattle.trace_words.specs.declared.act.StationLine.{StationLine}
use Rattle.sim_crowd.specs.declared.site.Site.{Site}
use Rattle.sim_crowd.specs.Index.{free_under, is_place, place_under, put_under, taken_under}

-- the bit of a number that stands for 2^k
abbrev pub bit_for : ℕ → ℕ → Bool
bit_for n k = n / 2 ^ k % 2 == 1

-- a Macro eNB ID: twenty bits, the first the highest (TS 36.413 clause 9.2.1.37)
unfoldable pub macro_bits : ℕ → List Bool
macro_bits n =
    bit_for n 19 ∷ bit_for n 18 ∷ bit_for n 17 ∷ bit_for n 16 ∷ bit_for n 15 ∷ bit_for n 14 ∷ bit_for n 13 ∷ bit_for n 12
    ∷ bit_for n 11 ∷ bit_for n 10 ∷ bit_for n 9 ∷ bit_for n 8 ∷ bit_for n 7 ∷ bit_for n 6 ∷ bit_for n 5 ∷ bit_for n 4
    ∷ bit_for n 3 ∷ bit_for n 2 ∷ bit_for n 1 ∷ bit_for n 0 ∷ []

-- a station of a network, as a script's line has it, which isn't set up and where nobody is
abbrev pub new_site : List ℕ → StationLine → Site
new_site plmn line = record {
  station = new_station (record { number = line.station; plmn = plmn; macro_id = macro_bits line.macro_id; tac = line.tac });
  comers = [];
  connected = [];
}

-- the station is as new, and nobody is there
abbrev pub left_site : Site → Site
left_site s = record { station = new_station s.station.profile; comers = []; connected = [] }

-- both numbers of an association as one
abbrev pub pair_key : UeIdPair → ℕ
pair_key pair = paired pair.mme_ue_id pair.enb_ue_id

-- the association of a phone that the MME doesn't know: it has but one for each eNB UE id at a station
abbrev pub pair_of_stranger : RadioPlace → UeIdPair
pair_of_stranger place = pair_with (stranger_id place.station place.enb_ue_id) place.enb_ue_id

-- the phone with an association; a new association is that of the phone that came last with its eNB UE id
abbrev pub phone_with : UeIdPair → Site → Option ℕ
phone_with pair s = first_of (place_under (pair_key pair) s.connected) (place_under pair.enb_ue_id s.comers)

-- the association is the phone's, and the station serves it
abbrev pub serves : ℕ → UeIdPair → Site → Bool
serves phone pair s =
    is_place phone (place_under (pair_key pair) s.connected) && (s.station.ready && holds_pair pair s.station.pairs)

abbrev pub is_foreign : PhoneAct → Bool
is_foreign Foreign = true
is_foreign _ = false

-- a phone came, and is known by its eNB UE id; the association of one that the MME doesn't know is nobody's until it answers
abbrev pub with_comer : ℕ → RadioPlace → PhoneAct → Site → Site
with_comer phone place act s = record s {
  comers = put_under place.enb_ue_id phone s.comers;
  connected = if is_foreign act then free_under (pair_key (pair_of_stranger place)) s.connected else s.connected;
}

-- the phone with this eNB UE id is gone, if it was this phone
abbrev pub without_comer : ℕ → ℕ → Site → Site
without_comer phone enb_ue_id s = record s { comers = taken_under enb_ue_id phone s.comers }

-- the association is the phone's
abbrev pub with_phone : ℕ → UeIdPair → Site → Site
with_phone phone pair s = record s { connected = put_under (pair_key pair) phone s.connected }

-- the association is nobody's, if it was the phone's
abbrev pub without_phone : ℕ → UeIdPair → Site → Site
without_phone phone pair s = record s { connected = taken_under (pair_key pair) phone s.connected }

-- the station took the MME's octets
abbrev pub hearing_site : List ℕ → Site → Site
hearing_site os s = record s { station = (delivered os s.station).station }
