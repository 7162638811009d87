-- The stations of a script, in the order in which they were added.
use Rattle.std.specs.Prelude.{◌≡◌, ℕ, ◌++◌, ◌==◌, Bool, true, false, is_some, find, position, if◌then◌else◌, List, [], ◌∷◌, Option, Some, None, option_map}
use Rattle.s1ap_elements.specs.declared.phone.UeIdPair.{UeIdPair}
use Rattle.enb_sim.specs.declared.station.StationAct.{StationAct}
use Rattle.enb_sim.specs.declared.station.StationAct.TheVariants.{SetUp}
use Rattle.enb_sim.specs.Delivering.{PhoneNasView, StationView, delivered, seen_nas}
use Rattle.enb_sim.specs.declared.delivering.Delivery.{Delivery}
use Rattle.trace_words.specs.declared.act.RadioPlace.{RadioPlace}
use Rattle.trace_words.specs.declared.act.StationLine.{StationLine}
use Rattle.sim_crowd.specs.declared.index.Entry.{Entry}
use Rattle.sim_crowd.specs.declared.site.Site.{Site}
use Rattle.sim_crowd.specs.declared.whereabouts.Connection.{Connection}
use Rattle.sim_crowd.specs.Index.{place_under}
use Rattle.sim_crowd.specs.Items.{changed_item}
use Rattle.sim_crowd.specs.Sites.{new_site, phone_with, serves, without_comer, without_phone}
use Rattle.sim_crowd.specs.Uplinks.{UplinkView}
use Rattle.sim_crowd.specs.Whereabouts.{same_connection, same_place}

-- the station has this number
abbrev pub has_number : ℕ → Site → Bool
has_number n s = s.station.profile.number == n

-- the station of a number, if there is one
abbrev pub site_of : ℕ → List Site → Option Site
site_of n sites = find (has_number n) sites

-- the place of that station
abbrev pub place_of_site : ℕ → List Site → Option ℕ
place_of_site n sites = position (has_number n) sites

-- an index has the place of each station under its number
abbrev pub IsStationIndex : List Entry → List Site → Type 0
IsStationIndex index sites = (n : ℕ) → place_under n index ≡ place_of_site n sites

-- the station of a number is changed so, if there is one
abbrev pub changed_site : ℕ → (Site → Site) → List Site → List Site
changed_site n f sites = changed_item (place_of_site n sites) f sites

-- a station more, unless there is one of its number
abbrev pub with_station : List ℕ → StationLine → List Site → List Site
with_station plmn line sites = if is_some (site_of line.station sites) then sites else sites ++ new_site plmn line ∷ []

-- ---- what is known of a station that may be none

-- whether it takes what phones send
abbrev pub is_set_up : Option Site → Bool
is_set_up None = false
is_set_up (Some s) = s.station.ready

-- the phone with this association
abbrev pub phone_in : UeIdPair → Option Site → Option ℕ
phone_in pair None = None
phone_in pair (Some s) = phone_with pair s

abbrev pub phone_by : Connection → List Site → Option ℕ
phone_by k sites = phone_in k.pair (site_of k.station sites)

abbrev pub serves_in : ℕ → UeIdPair → Option Site → Bool
serves_in phone pair None = false
serves_in phone pair (Some s) = serves phone pair s

-- an association that a phone knows, if its station serves the phone by it
abbrev pub served : ℕ → Option Connection → List Site → Option Connection
served phone None sites = None
served phone (Some k) sites = if serves_in phone k.pair (site_of k.station sites) then Some k else None

-- ---- what is sent

-- octets that a station sends by what it is, if there is such a station
abbrev pub octets_in : (StationView → Option (List ℕ)) → Option Site → Option (List ℕ)
octets_in octets None = None
octets_in octets (Some s) = octets s.station

abbrev pub uplink_by : ℕ → Option (List ℕ) → Option UplinkView
uplink_by n octets = option_map (λ os. record { station = n; octets = os }) octets

-- the message of a station, if it sends one
abbrev pub sent_by : ℕ → (StationView → Option (List ℕ)) → List Site → Option UplinkView
sent_by n octets sites = uplink_by n (octets_in octets (site_of n sites))

-- an act that leaves the station as it is
abbrev pub is_quiet : StationAct → Bool
is_quiet SetUp = false
is_quiet _ = true

-- ---- who is where

-- an old association isn't the phone's, unless it is the one that it keeps
abbrev pub parted : ℕ → Connection → Option Connection → List Site → List Site
parted phone kept None sites = sites
parted phone kept (Some old) sites =
    if same_connection old kept then sites else changed_site old.station (without_phone phone old.pair) sites

-- the phone isn't where it was, unless it is there
abbrev pub departed : ℕ → RadioPlace → Option RadioPlace → List Site → List Site
departed phone place None sites = sites
departed phone place (Some was) sites =
    if same_place was place then sites else changed_site was.station (without_comer phone was.enb_ue_id) sites

-- ---- what comes of the MME's octets

-- what a station answers, and what it hands to a phone
pub record Told : Type 0 where
  pub octets : Option (List ℕ)
  pub nas : Option PhoneNasView

-- without where octets lie in memory
abbrev pub seen_told : Delivery → Told
seen_told d = record { octets = option_map (λ o. o.items) d.octets; nas = option_map seen_nas d.nas }

abbrev pub told_in : List ℕ → Option Site → Told
told_in os None = record { octets = None; nas = None }
told_in os (Some s) = record { octets = (delivered os s.station).octets; nas = (delivered os s.station).nas }

abbrev pub told_at : ℕ → List ℕ → List Site → Told
told_at n os sites = told_in os (site_of n sites)
