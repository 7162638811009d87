-- Each S1AP message that is built of what is in range is short.
use Rattle.std.proofs.Common.{◌≡◌, ℕ, ◌/◌, ◌%◌, ◌^◌, ◌<◌, ◌≤◌, ◌&&◌, Bool, true, false, ltb, eqb, List, length, Option, Some, None, refl, arith, true≢false}
use Rattle.std.specs.Int.{w32, to_be_bytes}
use Rattle.std.proofs.lemmas.Bool.{and_from, and_parts, eqb-true, lt-ltb}
use Rattle.per_streams.specs.Octet.{AreBytes, all_below}
use Rattle.per_streams.specs.Bits.{octet_bits}
use Rattle.per_streams.specs.BitLaws.{length-octet_bits}
use Rattle.per_bits.specs.Formats.{octet_string}
use Rattle.per_bits.specs.Written.{number_fits, optional_fits}
use Rattle.s1ap_causes.specs.Causes.{cause, typed_cause}
use Rattle.s1ap_causes.specs.declared.cause.Cause.{Cause}
use Rattle.s1ap_causes.specs.declared.cause.Cause.TheVariants as causes
use Rattle.s1ap_causes.specs.declared.cause.RadioNetworkCause.TheVariants as radio
use Rattle.s1ap_causes.specs.declared.cause.TransportCause.TheVariants as transport
use Rattle.s1ap_causes.specs.declared.cause.NasCause.TheVariants as nas
use Rattle.s1ap_causes.specs.declared.cause.ProtocolCause.TheVariants as protocol
use Rattle.s1ap_causes.specs.declared.cause.MiscCause.TheVariants as misc
use Rattle.s1ap_elements.specs.declared.phone.Tai.{Tai}
use Rattle.identity_slots.specs.declared.profile.Profile.{Profile}
use Rattle.mme_types.specs.declared.connection.Connection.{Connection}
use Rattle.mme_types.specs.declared.network.Network.{Network}
use Rattle.mme_signalling.specs.Pdus.{context_setup, downlink, error_indication, is_extended, paging, path_switch_acknowledge, path_switch_failure, release_command}
use Rattle.laws_network.specs.SizeLaws.{number_allowed}
use Rattle.laws_network.specs.Sizes.{IsShortMessage, in_range, most_octets, most_of_optional}
use Rattle.laws_network.specs.Ranges.{ConnectionInRange, IsBrief, IsBriefIf, NetworkInRange, ProfileInRange, TaiInRange}

-- ---- parts

number_then : (hi n : ℕ) (b : Bool) → n ≤ hi → hi < 2 ^ 64 → b ≡ true → (number_fits 0 hi n && b) ≡ true
number_then hi n b high most rest = and_from (number_fits 0 hi n) b (number_allowed 0 hi n (omega arith) high most) rest

then_done : (b : Bool) → b ≡ true → (b && true) ≡ true
then_done b e = and_from b true e refl

pub bytes_long : (n : ℕ) (os : List ℕ) → AreBytes n os → length os ≡ n
bytes_long n os e = eqb-true (length os) n (and_parts (eqb (length os) n) (all_below 256 os) e).0

mme_then : (id : ℕ) (b : Bool) → id < 2 ^ 32 → b ≡ true → (number_fits 0 4294967295 id && b) ≡ true
mme_then id b low rest = number_then 4294967295 id b (omega arith) (omega arith) rest

enb_then : (id : ℕ) (b : Bool) → id < 2 ^ 24 → b ≡ true → (number_fits 0 16777215 id && b) ≡ true
enb_then id b low rest = number_then 16777215 id b (omega arith) (omega arith) rest

-- a cause of this release
pub cause_in_range : (c : Cause) → is_extended c ≡ false → in_range cause (typed_cause c) ≡ true
cause_in_range (causes.RadioNetwork (radio.Extended n)) e = absurd (true≢false e)
cause_in_range (causes.RadioNetwork _) e = refl
cause_in_range (causes.Transport (transport.Extended n)) e = absurd (true≢false e)
cause_in_range (causes.Transport _) e = refl
cause_in_range (causes.Nas (nas.Extended n)) e = absurd (true≢false e)
cause_in_range (causes.Nas _) e = refl
cause_in_range (causes.Protocol (protocol.Extended n)) e = absurd (true≢false e)
cause_in_range (causes.Protocol _) e = refl
cause_in_range (causes.Misc (misc.Extended n)) e = absurd (true≢false e)
cause_in_range (causes.Misc _) e = refl

pub cause_size : (c : Cause) → most_octets cause (typed_cause c) ≡ 22
cause_size (causes.RadioNetwork c) = refl
cause_size (causes.Transport c) = refl
cause_size (causes.Nas c) = refl
cause_size (causes.Protocol c) = refl
cause_size (causes.Misc c) = refl

-- ---- messages

pub short_downlink : (k : Connection) (nas : List ℕ) → ConnectionInRange k → IsBrief 15000 nas → IsShortMessage (downlink k nas)
unfolding downlink
short_downlink k nas ids brief =
    let few : length nas ≤ 15000 = brief.few in
    record {
      ranges = mme_then k.id _ ids.id (enb_then k.enb_ue_id _ ids.enb_ue_id (then_done _ brief.octets));
      size = omega (arith, few);
    }

pub short_release_command : (id enb_ue_id : ℕ) (c : Cause) → id < 2 ^ 32 → enb_ue_id < 2 ^ 24 → is_extended c ≡ false
    → IsShortMessage (release_command id enb_ue_id c)
unfolding release_command
short_release_command id enb_ue_id c low less known =
    let size : most_octets cause (typed_cause c) ≡ 22 = cause_size c in
    record {
      ranges = and_from _ _ (mme_then id _ low (enb_then enb_ue_id _ less refl)) (then_done _ (cause_in_range c known));
      size = omega (arith, size);
    }

pub short_path_switch_failure : (id enb_ue_id : ℕ) (c : Cause) → id < 2 ^ 32 → enb_ue_id < 2 ^ 24 → is_extended c ≡ false
    → IsShortMessage (path_switch_failure id enb_ue_id c)
unfolding path_switch_failure
short_path_switch_failure id enb_ue_id c low less known =
    let size : most_octets cause (typed_cause c) ≡ 22 = cause_size c in
    record {
      ranges = mme_then id _ low (enb_then enb_ue_id _ less (then_done _ (cause_in_range c known)));
      size = omega (arith, size);
    }

pub short_error_indication : (id enb_ue_id : ℕ) (c : Cause) → id < 2 ^ 32 → enb_ue_id < 2 ^ 24 → is_extended c ≡ false
    → IsShortMessage (error_indication id enb_ue_id c)
unfolding error_indication
short_error_indication id enb_ue_id c low less known =
    let size : most_octets cause (typed_cause c) ≡ 22 = cause_size c in
    record {
      ranges = mme_then id _ low (enb_then enb_ue_id _ less (then_done _ (cause_in_range c known)));
      size = omega (arith, size);
    }

pub short_path_switch_acknowledge : (k : Connection) (hop : List ℕ) (count : ℕ) → ConnectionInRange k → AreBytes 32 hop → count < 8
    → IsShortMessage (path_switch_acknowledge k hop count)
unfolding path_switch_acknowledge
short_path_switch_acknowledge k hop count ids key low =
    let long : length hop ≡ 32 = bytes_long 32 hop key in
    record {
      ranges = mme_then k.id _ ids.id
          (enb_then k.enb_ue_id _ ids.enb_ue_id
          (then_done _ (number_then 7 count _ (omega (arith, low)) (omega arith) (then_done _ key))));
      size = omega (arith, long);
    }

below_then : (n : ℕ) (b : Bool) → b ≡ true → (ltb (n % 256) 256 && b) ≡ true
below_then n b rest = and_from (ltb (n % 256) 256) b (lt-ltb (n % 256) 256 (omega arith)) rest

pub four_bytes : (n : ℕ) → AreBytes 4 (to_be_bytes w32 n)
four_bytes n = below_then (n / 256 ^ 3) _ (below_then (n / 256 ^ 2) _ (below_then (n / 256 ^ 1) _ (below_then n true refl)))

pub short_paging : (n : Network) (imsi : List ℕ) (tmsi : ℕ) (tai : Tai) → NetworkInRange n → TaiInRange tai
    → IsShortMessage (paging n imsi tmsi tai)
unfolding paging
short_paging n imsi tmsi tai network area =
    let code : length n.code ≡ 1 = bytes_long 1 n.code network.code in
    let plmn : length tai.plmn ≡ 3 = bytes_long 3 tai.plmn area.plmn in
    let tac : length tai.tac ≡ 2 = bytes_long 2 tai.tac area.tac in
    let four : length (to_be_bytes w32 tmsi) ≡ 4 = bytes_long 4 (to_be_bytes w32 tmsi) (four_bytes tmsi) in
    record {
      ranges = and_from _ _ (and_from _ _ network.code (then_done _ (four_bytes tmsi)))
          (then_done _ (then_done _ (then_done _ (then_done _ (and_from _ _ area.plmn (then_done _ area.tac))))));
      size = omega (arith, code, plmn, tac, four);
    }

-- a NAS message, where there is one, is written after its length
optional_in_range : (nas : Option (List ℕ)) → IsBriefIf 15000 nas → optional_fits (all_below 256) nas ≡ true
optional_in_range None brief = refl
optional_in_range (Some nas) brief = brief.octets

optional_few : (nas : Option (List ℕ)) → IsBriefIf 15000 nas → most_of_optional (most_octets octet_string) nas ≤ 15004
optional_few None brief = omega arith
optional_few (Some nas) brief = let few = brief.few in omega (arith, few)

address_bits : (os : List ℕ) → AreBytes 4 os → length (octet_bits os) ≡ 32
address_bits os e = omega (arith, length-octet_bits os, bytes_long 4 os e)

address_fits : (os : List ℕ) → AreBytes 4 os → number_fits 1 160 (length (octet_bits os)) ≡ true
address_fits os e = let long : length (octet_bits os) ≡ 32 = address_bits os e
    in number_allowed 1 160 (length (octet_bits os)) (omega arith) (omega arith) (omega arith)

pub short_context_setup : (n : Network) (p : Profile) (capability : List ℕ) (k : Connection) (kenb : List ℕ) (nas : Option (List ℕ))
    → NetworkInRange n → ProfileInRange p → ConnectionInRange k
    → AreBytes 32 kenb → IsBriefIf 15000 nas → IsShortMessage (context_setup n p capability k kenb nas)
unfolding context_setup
short_context_setup n p capability k kenb nas network profile ids key brief =
    let key_long : length kenb ≡ 32 = bytes_long 32 kenb key in
    let teid_long : length p.teid ≡ 4 = bytes_long 4 p.teid profile.teid in
    let address_long : length (octet_bits p.gateway) ≡ 32 = address_bits p.gateway profile.gateway in
    let few : most_of_optional (most_octets octet_string) nas ≤ 15004 = optional_few nas brief in
    record {
      ranges = mme_then k.id _ ids.id (enb_then k.enb_ue_id _ ids.enb_ue_id
          (and_from _ _ (number_then 10000000000 n.down _ network.down (omega arith)
          (number_then 10000000000 n.up _ network.up (omega arith) refl))
          (and_from _ _
          (then_done _ (then_done _
          (and_from _ _ (address_fits p.gateway profile.gateway)
          (and_from _ _ profile.teid (then_done _ (optional_in_range nas brief))))))
          (then_done _ key))));
      size = omega (arith, key_long, teid_long, address_long, few);
    }
