-- What a station tells of itself.
use Rattle.std.specs.Prelude.{ℕ, Bool, true, false, List, [], ◌∷◌, ◌++◌}
use Rattle.std.specs.Int.{w32, to_be_bytes}
use Rattle.per_streams.specs.Bits.{octet_bits}
use Rattle.s1ap_elements.specs.declared.bearer.ErabTunnel.{ErabTunnel}
use Rattle.s1ap_elements.specs.declared.phone.EutranCgi.{EutranCgi}
use Rattle.s1ap_elements.specs.declared.phone.SecurityCapabilities.{SecurityCapabilities}
use Rattle.s1ap_elements.specs.declared.phone.Tai.{Tai}
use Rattle.enb_sim.specs.declared.profile.StationProfile.{StationProfile}

-- its one tracking area
abbrev pub area_of : StationProfile → Tai
area_of s = record { plmn = s.plmn; tac = s.tac }

-- the number of a cell after that of its station: cell 1 (TS 36.413 clause 9.2.1.38)
abbrev pub cell_number : List Bool
cell_number = false ∷ false ∷ false ∷ false ∷ false ∷ false ∷ false ∷ true ∷ []

-- its one cell
abbrev pub cell_of : StationProfile → EutranCgi
cell_of s = record { plmn = s.plmn; cell = s.macro_id ++ cell_number }

-- the IPv4 address 192.168.0.n of the station n
abbrev pub address_of : StationProfile → List ℕ
address_of s = 0xc0 ∷ 0xa8 ∷ 0 ∷ s.number ∷ []

-- the tunnel of a bearer: it ends at the station, under the number that the phone has there
abbrev pub tunnel_of : StationProfile → ℕ → ℕ → ErabTunnel
tunnel_of s id enb_ue_id = record { id = id; address = octet_bits (address_of s); teid = to_be_bytes w32 enb_ue_id }

-- algorithms 1 and 2
abbrev pub two_algorithms : List Bool
two_algorithms =
    true ∷ true ∷ false ∷ false ∷ false ∷ false ∷ false ∷ false ∷ false ∷ false ∷ false ∷ false ∷ false ∷ false ∷ false ∷ false ∷ []

abbrev pub phone_capabilities : SecurityCapabilities
phone_capabilities = record { encryption = two_algorithms; integrity = two_algorithms }
