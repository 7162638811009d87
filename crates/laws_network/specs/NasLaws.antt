-- Each NAS message that is built of what is in range is brief: at most 1000 octets, each below 256.
use Rattle.std.proofs.Common.{◌≡◌, ℕ, zero, suc, ◌+◌, ◌*◌, ◌/◌, ◌%◌, ◌^◌, ◌<◌, ◌≤◌, Bool, true, false, cond, leb, ltb, eqb, List, [], ◌∷◌, ◌++◌, length, drop, slice_index, Option, Some, None, refl, arith}
use Rattle.std.proofs.lemmas.Bool.{and_from, and_parts, lt-ltb, ltb-true}
use Rattle.std.proofs.lemmas.List.{length-append}
use Rattle.std.specs.Int.{w32, to_be_bytes}
use Rattle.per_streams.specs.Octet.{AreBytes, all_below}
use Rattle.s1ap_elements.specs.declared.phone.Tai.{Tai}
use Rattle.nas_elements.specs.Capability.{replayed}
use Rattle.nas_elements.specs.Identities.{guti_octets, plmn_from_s1ap, tai_list_octets}
use Rattle.nas_elements.specs.Optionals.{rule_of}
use Rattle.nas_elements.specs.Parts.{short, wide}
use Rattle.nas_elements.specs.Rows.{write_optional}
use Rattle.nas_elements.specs.declared.rule.Domain.TheVariants.{Emm, Esm}
use Rattle.nas_messages.specs.Protection.{header_code, protected_form}
use Rattle.nas_messages.specs.declared.protection.SecurityHeader.{SecurityHeader}
use Rattle.nas_messages.specs.declared.protection.SecurityHeader.TheVariants.{IntegrityProtected, IntegrityProtectedCiphered, NewContext, NewContextCiphered}
use Rattle.eps_keys.specs.declared.direction.DirectionBit.TheVariants.{Downlink}
use Rattle.nas_security.specs.Context.{Mac}
use Rattle.nas_security.specs.Protecting.{protected_by}
use Rattle.esm_machine.specs.declared.cause.EsmCause.{EsmCause}
use Rattle.esm_machine.specs.declared.cause.EsmCause.TheVariants.{RequestRejected}
use Rattle.esm_machine.specs.Causes.{esm_cause_code}
use Rattle.esm_machine.specs.Sent.{activation, address_cause, connectivity_reject, disconnect_reject, information_request, status}
use Rattle.esm_machine.specs.Sessions.{Session, is_dual, transaction_of}
use Rattle.mme_types.specs.declared.network.Network.{Network}
use Rattle.mme_signalling.specs.declared.cause.EmmCause.{EmmCause}
use Rattle.mme_signalling.specs.declared.cause.EmmCause.TheVariants.{ServicesNotAllowed}
use Rattle.mme_signalling.specs.declared.messages.Grant.{Grant}
use Rattle.mme_signalling.specs.Causes.{emm_cause_code}
use Rattle.mme_signalling.specs.Messages.{attach_accept, attach_reject, authentication_reject, authentication_request, cause_of_combined, detach_accept, emm_status, guti, network_detach, security_mode_command, service_reject, tai_list, update_accept, update_reject}
use Rattle.laws_network.specs.BuilderLaws.{bytes_long, four_bytes}
use Rattle.laws_network.specs.Ranges.{IsBrief, IsBriefIf, NetworkInRange, TaiInRange}

-- ---- lists of octets

pub brief_none : IsBrief 0 []
brief_none = record { few = omega arith; octets = refl }

pub brief_more : {n x : ℕ} {os : List ℕ} → ltb x 256 ≡ true → IsBrief n os → IsBrief (1 + n) (x ∷ os)
brief_more {x = x} {os = os} e h =
    let few = h.few in record { few = omega (arith, few); octets = and_from (ltb x 256) (all_below 256 os) e h.octets }

pub brief_within : {a b : ℕ} {os : List ℕ} → IsBrief a os → a ≤ b → IsBrief b os
brief_within h le = let few = h.few in record { few = omega (arith, few, le); octets = h.octets }

pub below_append : (xs ys : List ℕ) → all_below 256 xs ≡ true → all_below 256 ys ≡ true → all_below 256 (xs ++ ys) ≡ true
below_append [] ys p q = q
below_append (x ∷ xs) ys p q =
    let parts = and_parts (ltb x 256) (all_below 256 xs) p in
    and_from (ltb x 256) (all_below 256 (xs ++ ys)) parts.0 (below_append xs ys parts.1 q)

pub brief_append : {a b : ℕ} {xs ys : List ℕ} → IsBrief a xs → IsBrief b ys → IsBrief (a + b) (xs ++ ys)
brief_append {xs = xs} {ys = ys} g h =
    let first = g.few in
    let second = h.few in
    record { few = omega (arith, first, second, length-append xs ys); octets = below_append xs ys g.octets h.octets }

pub brief_bytes : {n : ℕ} {os : List ℕ} → AreBytes n os → IsBrief n os
brief_bytes {n} {os} e =
    let long : length os ≡ n = bytes_long n os e in
    record { few = omega (arith, long); octets = (and_parts (eqb (length os) n) (all_below 256 os) e).1 }

pub below_at : (os : List ℕ) (i : ℕ) → all_below 256 os ≡ true → slice_index os i < 256
below_at [] i e = omega arith
below_at (o ∷ os) zero e = ltb-true o 256 (and_parts (ltb o 256) (all_below 256 os) e).0
below_at (o ∷ os) (suc i) e = below_at os i (and_parts (ltb o 256) (all_below 256 os) e).1

pub below_drop : (n : ℕ) (os : List ℕ) → all_below 256 os ≡ true → all_below 256 (drop n os) ≡ true
below_drop zero os e = e
below_drop (suc n) [] e = refl
below_drop (suc n) (o ∷ os) e = below_drop n os (and_parts (ltb o 256) (all_below 256 os) e).1

at_below : (os : List ℕ) (i : ℕ) → all_below 256 os ≡ true → ltb (slice_index os i) 256 ≡ true
at_below os i e = lt-ltb (slice_index os i) 256 (below_at os i e)

-- after a length of one octet, and of two
brief_short : {n : ℕ} {os : List ℕ} → IsBrief n os → n ≤ 255 → IsBrief (1 + n) (short os)
brief_short {os = os} h le = let few = h.few in brief_more (lt-ltb (length os) 256 (omega (arith, few, le))) h

brief_wide : {n : ℕ} {os : List ℕ} → IsBrief n os → n ≤ 65535 → IsBrief (1 + (1 + n)) (wide os)
brief_wide {os = os} h le =
    let few = h.few in
    brief_more (lt-ltb (length os / 256) 256 (omega (arith, few, le))) (brief_more (lt-ltb (length os % 256) 256 (omega arith)) h)

-- ---- causes

emm_code_below : (cause : EmmCause) → ltb (emm_cause_code cause) 256 ≡ true
emm_code_below ServicesNotAllowed = refl
emm_code_below _ = refl

esm_code_below : (cause : EsmCause) → ltb (esm_cause_code cause) 256 ≡ true
esm_code_below RequestRejected = refl
esm_code_below _ = refl

-- ---- mobility management

pub brief_attach_reject : (cause : EmmCause) (esm : Option (List ℕ)) → IsBriefIf 200 esm → IsBrief 1000 (attach_reject cause esm)
unfolding attach_reject rule_of
brief_attach_reject cause None brief =
    brief_within (brief_more refl (brief_more refl (brief_more (emm_code_below cause) brief_none))) (omega arith)
brief_attach_reject cause (Some esm) brief =
    brief_within (brief_more refl
    (brief_more refl (brief_more (emm_code_below cause)
    (brief_more refl (brief_append (brief_wide brief (omega arith)) brief_none))))) (omega arith)

pub brief_authentication_request : (ksi : ℕ) (rand autn : List ℕ) → ksi < 7 → AreBytes 16 rand → AreBytes 16 autn
    → IsBrief 1000 (authentication_request ksi rand autn)
unfolding authentication_request
brief_authentication_request ksi rand autn low r a =
    brief_within (brief_more refl (brief_more refl (brief_more (lt-ltb (0 * 16 + ksi) 256 (omega (arith, low)))
    (brief_append (brief_append (brief_bytes r)
    (brief_append (brief_short (brief_bytes a) (omega arith)) brief_none)) brief_none)))) (omega arith)

pub brief_authentication_reject : IsBrief 1000 authentication_reject
unfolding authentication_reject
brief_authentication_reject = record { few = omega arith; octets = refl }

pub brief_detach_accept : IsBrief 1000 detach_accept
unfolding detach_accept
brief_detach_accept = record { few = omega arith; octets = refl }

pub brief_network_detach : IsBrief 1000 network_detach
unfolding network_detach
brief_network_detach = record { few = omega arith; octets = refl }

pub brief_emm_status : (cause : EmmCause) → IsBrief 1000 (emm_status cause)
unfolding emm_status
brief_emm_status cause =
    brief_within (brief_more refl (brief_more refl (brief_more (emm_code_below cause) brief_none))) (omega arith)

pub brief_service_reject : (cause : EmmCause) → IsBrief 1000 (service_reject cause)
unfolding service_reject
brief_service_reject cause =
    brief_within (brief_more refl (brief_more refl (brief_more (emm_code_below cause) brief_none))) (omega arith)

pub brief_update_reject : (cause : EmmCause) → IsBrief 1000 (update_reject cause)
unfolding update_reject
brief_update_reject cause =
    brief_within (brief_more refl (brief_more refl (brief_more (emm_code_below cause) brief_none))) (omega arith)

brief_replayed_if : (b : Bool) (os : List ℕ) → all_below 256 os ≡ true
    → IsBrief 4 (cond b (slice_index os 0 ∷ slice_index os 1 ∷ slice_index os 2 ∷ (slice_index os 3 % 128) ∷ [])
    (slice_index os 0 ∷ slice_index os 1 ∷ []))
brief_replayed_if true os e =
    brief_more (at_below os 0 e)
    (brief_more (at_below os 1 e)
    (brief_more (at_below os 2 e) (brief_more (lt-ltb (slice_index os 3 % 128) 256 (omega arith)) brief_none)))
brief_replayed_if false os e = brief_within (brief_more (at_below os 0 e) (brief_more (at_below os 1 e) brief_none)) (omega arith)

brief_replayed : (os : List ℕ) → all_below 256 os ≡ true → IsBrief 4 (replayed os)
unfolding replayed
brief_replayed os e = brief_replayed_if (leb 4 (length os)) os e

pub brief_security_mode_command : (ksi : ℕ) (capability : List ℕ) → ksi < 7 → all_below 256 capability ≡ true
    → IsBrief 1000 (security_mode_command ksi capability)
unfolding security_mode_command
brief_security_mode_command ksi capability low e =
    brief_within (brief_more refl (brief_more refl (brief_more refl (brief_more (lt-ltb (0 * 16 + ksi) 256 (omega (arith, low)))
    (brief_append (brief_append (brief_short (brief_replayed capability e) (omega arith)) brief_none) brief_none))))) (omega arith)

-- the three octets of a network as NAS has them
brief_plmn_if : (b : Bool) (os : List ℕ) → IsBrief 3 os
    → IsBrief 3 (cond b os (slice_index os 0 ∷ (slice_index os 2 / 16 * 16 + slice_index os 1 % 16)
    ∷ (slice_index os 2 % 16 * 16 + slice_index os 1 / 16) ∷ []))
brief_plmn_if true os h = h
brief_plmn_if false os h =
    let one = below_at os 1 h.octets in
    let two = below_at os 2 h.octets in
    brief_more (at_below os 0 h.octets)
    (brief_more (lt-ltb (slice_index os 2 / 16 * 16 + slice_index os 1 % 16) 256 (omega (arith, two)))
    (brief_more (lt-ltb (slice_index os 2 % 16 * 16 + slice_index os 1 / 16) 256 (omega (arith, one))) brief_none))

brief_plmn : (os : List ℕ) → AreBytes 3 os → IsBrief 3 (plmn_from_s1ap os)
brief_plmn os e = brief_plmn_if (eqb (slice_index os 1 / 16) 15) os (brief_bytes e)

brief_guti : (n : Network) (tmsi : ℕ) → NetworkInRange n → IsBrief 11 (guti_octets (guti n tmsi))
unfolding guti_octets
brief_guti n tmsi h =
    let code : IsBrief 1 n.code = brief_bytes h.code in
    let group : IsBrief 2 n.group = brief_bytes h.group in
    let number : IsBrief 4 (to_be_bytes w32 tmsi) = brief_bytes (four_bytes tmsi) in
    brief_within (brief_more refl
    (brief_append (brief_append (brief_plmn n.plmn h.plmn) group) (brief_more (at_below n.code 0 code.octets) number)))
    (omega arith)

brief_tai_list : (tai : Tai) → TaiInRange tai → IsBrief 6 (tai_list_octets (tai_list tai))
unfolding tai_list_octets
brief_tai_list tai h = brief_more refl (brief_append (brief_plmn tai.plmn h.plmn) (brief_bytes h.tac))

-- the octet of the cause of a request that was combined
brief_combined : (combined : Bool) → IsBrief 2 (write_optional Emm 0x53 (cause_of_combined combined))
unfolding rule_of
brief_combined true = record { few = omega arith; octets = refl }
brief_combined false = record { few = omega arith; octets = refl }

pub brief_attach_accept : (n : Network) (g : Grant) (esm : List ℕ) → NetworkInRange n → TaiInRange g.tai → IsBrief 200 esm
    → IsBrief 1000 (attach_accept n g esm)
unfolding attach_accept rule_of
brief_attach_accept n g esm network area brief =
    brief_within (brief_more refl (brief_more refl (brief_append
    (brief_more refl (brief_more refl
    (brief_append (brief_short (brief_tai_list g.tai area) (omega arith))
    (brief_append (brief_wide brief (omega arith)) brief_none))))
    (brief_append (brief_more refl (brief_short (brief_guti n g.tmsi network) (omega arith)))
    (brief_append (brief_combined g.combined) brief_none))))) (omega arith)

pub brief_update_accept : (n : Network) (g : Grant) → NetworkInRange n → TaiInRange g.tai → IsBrief 1000 (update_accept n g)
unfolding update_accept rule_of
brief_update_accept n g network area =
    brief_within (brief_more refl (brief_more refl (brief_more refl (brief_more refl (brief_more refl
    (brief_append (brief_more refl (brief_short (brief_guti n g.tmsi network) (omega arith)))
    (brief_append (brief_more refl (brief_short (brief_tai_list g.tai area) (omega arith)))
    (brief_append (brief_combined g.combined) brief_none)))))))) (omega arith)

-- ---- session management

pub brief_information_request : (session : Session) → transaction_of session.request < 256
    → IsBrief 200 (information_request session)
unfolding information_request
brief_information_request session low =
    brief_within (brief_more refl (brief_more (lt-ltb (transaction_of session.request) 256 low) (brief_more refl brief_none)))
    (omega arith)

pub brief_connectivity_reject : (cause : EsmCause) (transaction : ℕ) → transaction < 256
    → IsBrief 200 (connectivity_reject cause transaction)
unfolding connectivity_reject
brief_connectivity_reject cause transaction low =
    brief_within
    (brief_more refl (brief_more (lt-ltb transaction 256 low) (brief_more refl (brief_more (esm_code_below cause) brief_none))))
    (omega arith)

pub brief_disconnect_reject : (transaction : ℕ) → transaction < 256 → IsBrief 200 (disconnect_reject transaction)
unfolding disconnect_reject
brief_disconnect_reject transaction low =
    brief_within (brief_more refl (brief_more (lt-ltb transaction 256 low) (brief_more refl (brief_more refl brief_none))))
    (omega arith)

pub brief_esm_status : (cause : EsmCause) (bearer transaction : ℕ) → bearer < 16 → transaction < 256
    → IsBrief 200 (status cause bearer transaction)
unfolding status
brief_esm_status cause bearer transaction less low =
    brief_within (brief_more (lt-ltb (bearer * 16 + 2) 256 (omega (arith, less)))
    (brief_more (lt-ltb transaction 256 low) (brief_more refl (brief_more (esm_code_below cause) brief_none)))) (omega arith)

brief_dual : (dual : Bool) → IsBrief 2 (write_optional Esm 0x58 (address_cause dual))
unfolding rule_of
brief_dual true = record { few = omega arith; octets = refl }
brief_dual false = record { few = omega arith; octets = refl }

pub brief_activation : (session : Session) (apn address : List ℕ) → transaction_of session.request < 256 → IsBrief 63 apn
    → AreBytes 4 address → IsBrief 200 (activation session apn address)
unfolding activation
brief_activation session apn address low name bytes =
    brief_within (brief_more refl (brief_more (lt-ltb (transaction_of session.request) 256 low) (brief_more refl (brief_append
    (brief_more refl (brief_more refl
    (brief_append (brief_short (brief_short name (omega arith)) (omega arith))
    (brief_more refl (brief_more refl (brief_append (brief_bytes bytes) brief_none))))))
    (brief_append (brief_dual (is_dual session.request)) brief_none))))) (omega arith)

-- ---- protected

header_below : (header : SecurityHeader) → ltb (header_code header * 16 + 7) 256 ≡ true
header_below IntegrityProtected = refl
header_below IntegrityProtectedCiphered = refl
header_below NewContext = refl
header_below NewContextCiphered = refl

pub brief_protected : (mac : Mac) (count : ℕ) (header : SecurityHeader) (nas : List ℕ)
    → ((octets : List ℕ) → IsBrief 16 (mac count Downlink octets)) → IsBrief 1000 nas
    → IsBrief 1100 (protected_by mac count header nas)
unfolding protected_by protected_form
brief_protected mac count header nas brief h =
    brief_within
    (brief_more (header_below header) (brief_append (brief _) (brief_more (lt-ltb (count % 2 ^ 8) 256 (omega arith)) h)))
    (omega arith)
