-- Each message that a phone sends, before it is protected: it may be written, goes uplink, and is brief.
use Rattle.std.proofs.Common.{◌≡◌, ℕ, ◌+◌, ◌*◌, ◌%◌, ◌<◌, ◌≤◌, Bool, true, false, cond, ltb, List, [], ◌∷◌, length, slice_index, refl, arith}
use Rattle.std.proofs.lemmas.Bool.{lt-ltb}
use Rattle.per_streams.specs.Octet.{all_below}
use Rattle.eps_keys.specs.declared.direction.DirectionBit.TheVariants as directions
use Rattle.eps_keys.specs.Eia2.{eia2}
use Rattle.nas_elements.specs.declared.identity.Guti.{Guti}
use Rattle.nas_elements.specs.declared.identity.MobileIdentity.{MobileIdentity}
use Rattle.nas_elements.specs.Optionals.{rule_of}
use Rattle.nas_messages.specs.declared.emm_types.Direction.TheVariants.{Uplink}
use Rattle.nas_messages.specs.declared.emm_types.Emm.{Emm}
use Rattle.nas_messages.specs.declared.emm_types.Emm.TheVariants as emm
use Rattle.nas_messages.specs.declared.esm_types.Esm.{Esm}
use Rattle.nas_messages.specs.declared.esm_types.EsmBody.TheVariants as esm
use Rattle.nas_messages.specs.EsmMessages.{IsWritableEsm, encoded_esm}
use Rattle.nas_messages.specs.Messages.{Goes, IsWritable, encoded_emm, type_of}
use Rattle.sim_phone.specs.Messages.{attach_complete_octets, attach_octets, capability_octets, connectivity_octets, detach_accept_octets, detach_octets, failure_octets, identity_octets_of, information_octets, mode_complete_octets, no_key_set, response_octets, update_complete_octets, update_octets}
use Rattle.sim_phone.specs.Protecting.{service_head, service_octets}
use Rattle.sim_phone.specs.Sides.{PhoneContextView}
use Rattle.laws_network.specs.NasLaws.{below_at, brief_append, brief_more, brief_none, brief_within}
use Rattle.laws_network.specs.KeyLaws.{brief_mac}
use Rattle.laws_network.specs.Ranges.{IsBrief}
use Rattle.laws_simulation.specs.NasSent.{HasSession, IsMobility, IsSession, goes_up, session_goes_up}
use Rattle.laws_simulation.specs.PhoneRanges.{GutiInRange}
use Rattle.laws_simulation.proofs.GivenLaws.{NasLawsGiven}
use Rattle.laws_simulation.proofs.IdentityOctets.{IdentityInRange, brief_guti, brief_identity, brief_short, brief_wide, guti_fits, identity_fits}

mobility : NasLawsGiven → (m : Emm (List ℕ)) → goes_up m ≡ true → IsWritable m → Goes Uplink m → IsBrief 1000 (encoded_emm m)
    → HasSession m → IsMobility (encoded_emm m)
mobility laws m up fits goes brief session =
    let read = laws.decoded Uplink m fits goes in
    (m, record { up = up; writable = fits; goes = goes; written = refl; read = read; brief = brief; within = session })

session : NasLawsGiven → (m : Esm (List ℕ)) → session_goes_up m.body ≡ true → IsWritableEsm m → IsBrief 200 (encoded_esm m)
    → IsSession (encoded_esm m)
session laws m up fits brief =
    (m, record { up = up; writable = fits; written = refl; read = laws.esm_decoded m fits; brief = brief })

-- ---- PDN CONNECTIVITY REQUEST

abbrev connectivity : Bool → Esm (List ℕ)
connectivity information = record { bearer = 0; transaction = 1; body = esm.ConnectivityRequest 1 1 information }

connectivity_fits : (information : Bool) → IsWritableEsm (connectivity information)
unfolding rule_of
connectivity_fits true = (omega arith, (((omega arith, omega arith), tt), ((0xd1, refl, refl, omega arith), tt)))
connectivity_fits false = (omega arith, (((omega arith, omega arith), tt), (tt, tt)))

connectivity_brief : (information : Bool) → IsBrief 200 (connectivity_octets information)
unfolding rule_of
connectivity_brief true = record { few = omega arith; octets = refl }
connectivity_brief false = record { few = omega arith; octets = refl }

connectivity_sent : NasLawsGiven → (information : Bool) → IsSession (connectivity_octets information)
connectivity_sent laws information =
    session laws (connectivity information) refl (connectivity_fits information) (connectivity_brief information)

-- ---- ATTACH REQUEST

abbrev attach : MobileIdentity → Bool → Emm (List ℕ)
attach who information = emm.AttachRequest (record {
  attach_type = 1;
  ksi = no_key_set;
  identity = who;
  capability = capability_octets;
  esm = connectivity_octets information;
})

attach_fits : (who : MobileIdentity) (information : Bool) → IdentityInRange who → IsWritable (attach who information)
attach_fits who information h =
    let few : length (connectivity_octets information) ≤ 200 = (connectivity_brief information).few in
    (((omega arith, omega arith), (identity_fits who h, ((omega arith, omega arith), (omega (arith, few), tt)))), tt)

attach_brief : (who : MobileIdentity) (information : Bool) → IdentityInRange who
    → IsBrief 1000 (encoded_emm (attach who information))
attach_brief who information h =
    brief_within (brief_more refl (brief_more refl (brief_more refl
    (brief_append (brief_append (brief_short (brief_identity who h) (omega arith))
    (brief_more refl (brief_more refl (brief_more refl
    (brief_append (brief_wide (connectivity_brief information) (omega arith)) brief_none))))) brief_none)))) (omega arith)

pub attach_sent : NasLawsGiven → (who : MobileIdentity) (information : Bool) → IdentityInRange who
    → IsMobility (attach_octets who information)
unfolding attach_octets type_of
attach_sent laws who information h =
    mobility laws (attach who information) refl (attach_fits who information h) refl (attach_brief who information h)
    (connectivity_sent laws information)

-- ---- TRACKING AREA UPDATE REQUEST

pub update_sent : NasLawsGiven → (ksi : ℕ) (g : Guti) → ksi < 8 → GutiInRange g → IsMobility (update_octets ksi g)
unfolding update_octets type_of
update_sent laws ksi g low h =
    mobility laws (emm.TrackingAreaUpdateRequest (record { update_type = 0; active = false; ksi = ksi; guti = g })) refl
    (((omega arith, low), (guti_fits g h, tt)), tt) refl
    (brief_within (brief_more refl (brief_more refl (brief_more (lt-ltb (ksi * 16 + 0) 256 (omega (arith, low)))
    (brief_append (brief_append (brief_short (brief_guti g h) (omega arith)) brief_none) brief_none)))) (omega arith))
    tt

-- ---- DETACH REQUEST

detach_low : (off : Bool) (ksi : ℕ) → ksi < 8 → ltb (ksi * 16 + cond off (8 + 1) 1) 256 ≡ true
detach_low true ksi low = lt-ltb (ksi * 16 + 9) 256 (omega (arith, low))
detach_low false ksi low = lt-ltb (ksi * 16 + 1) 256 (omega (arith, low))

pub detach_sent : NasLawsGiven → (who : MobileIdentity) (off : Bool) (ksi : ℕ) → IdentityInRange who → ksi < 8
    → IsMobility (detach_octets who off ksi)
unfolding detach_octets type_of
detach_sent laws who off ksi h low =
    mobility laws (emm.DetachRequest (record { detach_type = 1; switch_off = off; ksi = ksi; identity = who })) refl
    (((omega arith, low), (identity_fits who h, tt)), tt) refl
    (brief_within (brief_more refl (brief_more refl (brief_more (detach_low off ksi low)
    (brief_append (brief_append (brief_short (brief_identity who h) (omega arith)) brief_none) brief_none)))) (omega arith))
    tt

-- ---- answers

pub identity_sent : NasLawsGiven → (who : MobileIdentity) → IdentityInRange who → IsMobility (identity_octets_of who)
unfolding identity_octets_of type_of
identity_sent laws who h =
    mobility laws (emm.IdentityResponse who) refl ((identity_fits who h, tt), tt) refl
    (brief_within (brief_more refl (brief_more refl
    (brief_append (brief_append (brief_short (brief_identity who h) (omega arith)) brief_none) brief_none))) (omega arith))
    tt

pub response_sent : NasLawsGiven → (res : List ℕ) → 4 ≤ length res → IsBrief 16 res → IsMobility (response_octets res)
unfolding response_octets type_of
response_sent laws res some brief =
    mobility laws (emm.AuthenticationResponse res) refl (((some, brief.few), tt), tt) refl
    (brief_within (brief_more refl (brief_more refl
    (brief_append (brief_append (brief_short brief (omega arith)) brief_none) brief_none))) (omega arith))
    tt

pub failure_sent : NasLawsGiven → IsMobility failure_octets
unfolding failure_octets type_of
failure_sent laws =
    mobility laws (emm.AuthenticationFailure 20) refl ((tt, tt), tt) refl (record { few = omega arith; octets = refl }) tt

pub mode_complete_sent : NasLawsGiven → IsMobility mode_complete_octets
unfolding mode_complete_octets type_of
mode_complete_sent laws = mobility laws emm.SecurityModeComplete refl (tt, tt) refl (record { few = omega arith; octets = refl }) tt

pub update_complete_sent : NasLawsGiven → IsMobility update_complete_octets
unfolding update_complete_octets type_of
update_complete_sent laws =
    mobility laws emm.TrackingAreaUpdateComplete refl (tt, tt) refl (record { few = omega arith; octets = refl }) tt

pub detach_accept_sent : NasLawsGiven → IsMobility detach_accept_octets
unfolding detach_accept_octets type_of
detach_accept_sent laws = mobility laws emm.DetachAccept refl (tt, tt) refl (record { few = omega arith; octets = refl }) tt

-- ---- session management

abbrev bearer_accepted : Esm (List ℕ)
bearer_accepted = record { bearer = 5; transaction = 0; body = esm.ActivateAccept }

pub attach_complete_sent : NasLawsGiven → IsMobility attach_complete_octets
unfolding attach_complete_octets type_of
attach_complete_sent laws =
    mobility laws (emm.AttachComplete (encoded_esm bearer_accepted)) refl ((omega arith, tt), tt) refl
    (record { few = omega arith; octets = refl })
    (session laws bearer_accepted refl (omega arith, (tt, tt)) (record { few = omega arith; octets = refl }))

pub information_sent : NasLawsGiven → (transaction : ℕ) → transaction < 256 → IsSession (information_octets transaction)
unfolding information_octets
information_sent laws transaction low =
    session laws (record { bearer = 0; transaction = transaction; body = esm.InformationResponse }) refl (omega arith, (tt, tt))
    (brief_within (brief_more refl (brief_more (lt-ltb transaction 256 low) (brief_more refl brief_none))) (omega arith))

-- ---- SERVICE REQUEST

pub service_sent : NasLawsGiven → (c : PhoneContextView) → all_below 256 c.integrity ≡ true → IsMobility (service_octets c)
service_sent laws c h =
    let mac = eia2 c.integrity c.down_next directions.Uplink (service_head c) in
    let octets : all_below 256 mac ≡ true = (brief_mac c.integrity h c.down_next directions.Uplink (service_head c)).octets in
    mobility laws
    (emm.ServiceRequest (0xc7 ∷ (c.ksi % 8 * 32 + c.down_next % 32) ∷ slice_index mac 2 ∷ slice_index mac 3 ∷ []))
    refl (refl, refl) tt
    (brief_within (brief_more refl (brief_more (lt-ltb (c.ksi % 8 * 32 + c.down_next % 32) 256 (omega arith))
    (brief_more (lt-ltb (slice_index mac 2) 256 (below_at mac 2 octets))
    (brief_more (lt-ltb (slice_index mac 3) 256 (below_at mac 3 octets)) brief_none)))) (omega arith))
    tt
