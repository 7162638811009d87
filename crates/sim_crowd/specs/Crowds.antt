-- The stations and phones of a script, and which association a phone has.
use Rattle.std.specs.Prelude.{ℕ, if◌then◌else◌, List, [], ◌∷◌, Option, Some, None}
use Rattle.nas_elements.specs.Identities.{first_of}
use Rattle.identity_slots.specs.declared.profile.Vector.{Vector}
use Rattle.trace_words.specs.declared.act.StationLine.{StationLine}
use Rattle.sim_crowd.specs.declared.crowd.Crowd.{Crowd}
use Rattle.sim_crowd.specs.declared.whereabouts.Connection.{Connection}
use Rattle.sim_crowd.specs.declared.whereabouts.Standing.{Standing}
use Rattle.sim_crowd.specs.Sites.{left_site, with_phone}
use Rattle.sim_crowd.specs.Stations.{changed_site, departed, parted, served, with_station}
use Rattle.sim_crowd.specs.Handsets.{with_standing}
use Rattle.sim_crowd.specs.Phones.{changed_handset, standing_of, with_handset, with_vector_for}
use Rattle.sim_crowd.specs.Whereabouts.{is_connection, place_with, standing_with}

-- nobody, in a network whose digits are zeros
abbrev pub empty_crowd : Crowd
empty_crowd = record { plmn = 0 ∷ 0 ∷ 0 ∷ []; stations = []; phones = [] }

-- the stations to come are of this network
abbrev pub in_network : List ℕ → Crowd → Crowd
in_network plmn c = record c { plmn = plmn }

-- there is a phone with this IMSI
abbrev pub with_phone_for : List ℕ → Crowd → Crowd
with_phone_for imsi c = record c { phones = with_handset imsi c.phones }

-- the phone with this IMSI has one vector more, if there is such a phone
abbrev pub with_vector_given : List ℕ → Vector → Crowd → Crowd
with_vector_given imsi vector c = record c { phones = with_vector_for imsi vector c.phones }

-- a station of the crowd's network
abbrev pub with_station_at : StationLine → Crowd → Crowd
with_station_at line c = record c { stations = with_station c.plmn line c.stations }

-- a station is as new, and nobody is there
abbrev pub with_station_left : ℕ → Crowd → Crowd
with_station_left n c = record c { stations = changed_site n left_site c.stations }

-- ---- the association of a phone

-- it has this one alone, and is there
abbrev pub at_one_from : ℕ → Connection → Standing → Crowd → Crowd
at_one_from phone k s c =
    if is_connection k s.connection then c
    else record c {
      stations = departed phone (place_with k) s.place (parted phone k s.awaited (parted phone k s.connection c.stations));
      phones = changed_handset phone (with_standing (standing_with k)) c.phones;
    }

abbrev pub at_one : ℕ → Connection → Crowd → Crowd
at_one phone k c = at_one_from phone k (standing_of phone c.phones) c

-- its station knows it by this one
abbrev pub known_by : ℕ → Connection → Crowd → Crowd
known_by phone k c = record c { stations = changed_site k.station (with_phone phone k.pair) c.stations }

-- a phone has this association from now on, and no other
abbrev pub joined : ℕ → Connection → Crowd → Crowd
joined phone k c = at_one phone k (known_by phone k c)

-- the association to which the phone's path was moved, once its station serves it
abbrev pub arrival : ℕ → Crowd → Option Connection
arrival phone c = served phone (standing_of phone c.phones).awaited c.stations

-- the association of a phone, while it has one: that to which its path was moved, or else the one that it had
abbrev pub current : ℕ → Crowd → Option Connection
current phone c = first_of (arrival phone c) (served phone (standing_of phone c.phones).connection c.stations)

-- where its path was moved, it has that association from now on
abbrev pub arrived_by : ℕ → Option Connection → Crowd → Crowd
arrived_by phone None c = c
arrived_by phone (Some k) c = joined phone k c

-- the phone has the association to which its path was moved, if it was
abbrev pub arrived : ℕ → Crowd → Crowd
arrived phone c = arrived_by phone (arrival phone c) c
