-- The parts of a station's messages: in range, and small.
use Rattle.std.proofs.Common.{◌≡◌, ℕ, ◌^◌, ◌<◌, ◌≤◌, ◌&&◌, Bool, true, List, ◌++◌, length, refl, arith}
use Rattle.std.specs.Int.{w32, to_be_bytes}
use Rattle.std.proofs.lemmas.Bool.{and_from, eq-eqb, eqb-true}
use Rattle.std.proofs.lemmas.List.{length-append}
use Rattle.per_streams.specs.Bits.{octet_bits}
use Rattle.per_streams.specs.BitLaws.{length-octet_bits}
use Rattle.per_streams.specs.Octet.{IsLong}
use Rattle.per_bits.specs.Written.{number_fits}
use Rattle.s1ap_elements.specs.Bearers.{typed_erab_tunnel}
use Rattle.s1ap_elements.specs.Formats.{erab_tunnel, eutran_cgi, tai}
use Rattle.s1ap_elements.specs.Phones.{typed_eutran_cgi, typed_tai}
use Rattle.enb_sim.specs.declared.profile.StationProfile.{StationProfile}
use Rattle.enb_sim.specs.Profile.{address_of, area_of, cell_number, cell_of, tunnel_of}
use Rattle.enb_sim.specs.Ranges.{SiteInRange}
use Rattle.laws_network.specs.BuilderLaws.{bytes_long, four_bytes}
use Rattle.laws_network.specs.SizeLaws.{number_allowed}
use Rattle.laws_network.specs.Sizes.{in_range, most_octets}

-- ---- tests, one after another

pub number_then : (hi n : ℕ) (b : Bool) → n ≤ hi → hi < 2 ^ 64 → b ≡ true → (number_fits 0 hi n && b) ≡ true
number_then hi n b high most rest = and_from (number_fits 0 hi n) b (number_allowed 0 hi n (omega arith) high most) rest

pub then_done : (b : Bool) → b ≡ true → (b && true) ≡ true
then_done b e = and_from b true e refl

pub mme_then : (id : ℕ) (b : Bool) → id < 2 ^ 32 → b ≡ true → (number_fits 0 4294967295 id && b) ≡ true
mme_then id b low rest = number_then 4294967295 id b (omega (arith, low)) (omega arith) rest

pub enb_then : (id : ℕ) (b : Bool) → id < 2 ^ 24 → b ≡ true → (number_fits 0 16777215 id && b) ≡ true
enb_then id b low rest = number_then 16777215 id b (omega (arith, low)) (omega arith) rest

-- ---- where a station is

pub bits_long : (n : ℕ) (bs : List Bool) → IsLong n bs → length bs ≡ n
bits_long n bs h = eqb-true (length bs) n h

pub cell_long : (s : StationProfile) → SiteInRange s → length (s.macro_id ++ cell_number) ≡ 28
cell_long s h =
    let long : length s.macro_id ≡ 20 = bits_long 20 s.macro_id h.macro_id in
    omega (arith, long, length-append s.macro_id cell_number)

pub area_fits : (s : StationProfile) → SiteInRange s → in_range tai (typed_tai (area_of s)) ≡ true
area_fits s h = and_from _ _ h.plmn (then_done _ h.tac)

pub area_size : (s : StationProfile) → SiteInRange s → most_octets tai (typed_tai (area_of s)) ≤ 10
area_size s h = omega (arith, bytes_long 3 s.plmn h.plmn, bytes_long 2 s.tac h.tac)

pub cell_fits : (s : StationProfile) → SiteInRange s → in_range eutran_cgi (typed_eutran_cgi (cell_of s)) ≡ true
cell_fits s h = and_from _ _ h.plmn (then_done _ (eq-eqb (length (s.macro_id ++ cell_number)) 28 (cell_long s h)))

pub cell_size : (s : StationProfile) → SiteInRange s → most_octets eutran_cgi (typed_eutran_cgi (cell_of s)) ≤ 40
cell_size s h = omega (arith, bytes_long 3 s.plmn h.plmn, cell_long s h)

-- ---- a tunnel

address_long : (s : StationProfile) → length (octet_bits (address_of s)) ≡ 32
address_long s = omega (arith, length-octet_bits (address_of s))

address_fits : (s : StationProfile) → number_fits 1 160 (length (octet_bits (address_of s))) ≡ true
address_fits s =
    let long : length (octet_bits (address_of s)) ≡ 32 = address_long s in
    number_allowed 1 160 (length (octet_bits (address_of s))) (omega (arith, long)) (omega (arith, long)) (omega arith)

pub tunnel_fits : (s : StationProfile) (id enb_ue_id : ℕ) → id < 16
    → in_range erab_tunnel (typed_erab_tunnel (tunnel_of s id enb_ue_id)) ≡ true
tunnel_fits s id enb_ue_id low =
    number_then 15 id _ (omega (arith, low)) (omega arith) (and_from _ _ (address_fits s) (then_done _ (four_bytes enb_ue_id)))

pub tunnel_size : (s : StationProfile) (id enb_ue_id : ℕ)
    → most_octets erab_tunnel (typed_erab_tunnel (tunnel_of s id enb_ue_id)) ≤ 80
tunnel_size s id enb_ue_id =
    let four : length (to_be_bytes w32 enb_ue_id) ≡ 4 = bytes_long 4 (to_be_bytes w32 enb_ue_id) (four_bytes enb_ue_id) in
    omega (arith, address_long s, four)
