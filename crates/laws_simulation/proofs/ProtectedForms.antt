-- The protected form: what is said under a context, what plain messages aren't split as, and what is forged.
use Rattle.std.proofs.Common.{◌≡◌, ℕ, ◌+◌, ◌*◌, ◌%◌, ◌^◌, ◌<◌, ◌&&◌, ◌⊎◌, inl, inr, Bool, true, false, cond, leb, ltb, List, ◌∷◌, length, Option, Some, None, true≢false, refl, sym, ap, subst, ◌∙◌, arith}
use Rattle.std.specs.Prelude.{is_some}
use Rattle.std.proofs.lemmas.Bool.{lt-leb, lt-ltb}
use Rattle.per_streams.specs.Octet.{AreBytes}
use Rattle.eps_keys.specs.declared.direction.DirectionBit.TheVariants as directions
use Rattle.nas_messages.specs.declared.emm_types.Emm.{Emm}
use Rattle.nas_messages.specs.declared.emm_types.Emm.TheVariants as emm
use Rattle.nas_messages.specs.declared.protection.Protected.{Protected}
use Rattle.nas_messages.specs.declared.protection.SecurityHeader.{SecurityHeader}
use Rattle.nas_messages.specs.declared.protection.SecurityHeader.TheVariants.{IntegrityProtected, IntegrityProtectedCiphered, NewContext, NewContextCiphered}
use Rattle.nas_messages.specs.Protection.{header_code, header_of, protected_form, split}
use Rattle.sim_phone.specs.declared.registration.Registration.{Registration}
use Rattle.sim_phone.specs.Protecting.{Spoken, forged, forged_of, leaving, protected_saying, raised, silent, uplink_parts, with_context, with_count_spent}
use Rattle.sim_phone.specs.Sides.{PhoneContextView}
use Rattle.sim_phone.specs.View.{kept_form}
use Rattle.laws_network.specs.BuilderLaws.{bytes_long}
use Rattle.laws_network.specs.NasLaws.{brief_append, brief_bytes, brief_more, brief_within}
use Rattle.laws_network.specs.Ranges.{IsBrief}
use Rattle.laws_simulation.specs.NasSent.{IsForm, IsFormIf, IsMobility, IsMobilityOf, IsPhoneNas, IsPhoneNasIf, IsSession}
use Rattle.laws_simulation.specs.PhoneRanges.{PhoneContextInRange, RegistrationInRange}
use Rattle.laws_simulation.specs.Phones.{PhoneNasIsBrief}
use Rattle.laws_simulation.proofs.GivenLaws.{NasLawsGiven}
use Rattle.laws_simulation.proofs.MacOctets.{mac_bytes}

-- ---- a form

pub form_sent : NasLawsGiven → (p : Protected (List ℕ)) → AreBytes 4 p.mac → p.sequence < 256
    → IsMobility p.message ⊎ IsSession p.message
    → IsForm (protected_form p)
form_sent laws p mac low message =
    let read = laws.are_split (protected_form p) p refl (bytes_long 4 p.mac mac) in
    (p, record { mac = mac; sequence = low; message = message; written = refl; read = read })

header_below : (header : SecurityHeader) → ltb (header_code header * 16 + 7) 256 ≡ true
header_below IntegrityProtected = refl
header_below IntegrityProtectedCiphered = refl
header_below NewContext = refl
header_below NewContextCiphered = refl

form_brief : (p : Protected (List ℕ)) → AreBytes 4 p.mac → p.sequence < 256 → IsBrief 1000 p.message
    → IsBrief 1100 (protected_form p)
unfolding protected_form
form_brief p mac low brief =
    brief_within
    (brief_more (header_below p.header) (brief_append (brief_bytes mac) (brief_more (lt-ltb p.sequence 256 low) brief)))
    (omega arith)

inner_brief : (os : List ℕ) → IsMobility os ⊎ IsSession os → IsBrief 1000 os
inner_brief os (inl m) = m.1.brief
inner_brief os (inr m) = brief_within m.1.brief (omega arith)

pub nas_is_brief : PhoneNasIsBrief
nas_is_brief os (inl m) = brief_within m.1.brief (omega arith)
nas_is_brief os (inr f) =
    let p = f.0 in
    subst (λ (v : List ℕ). IsBrief 1100 v) (sym f.1.written)
    (form_brief p f.1.mac f.1.sequence (inner_brief p.message f.1.message))

-- ---- a plain message has no parts

none_either : (b : Bool) (o : Option (Protected (List ℕ))) → o ≡ None → cond b o None ≡ None
none_either true o e = e
none_either false o e = refl

split_seven : (os rest : List ℕ) → os ≡ 7 ∷ rest → split os ≡ None
unfolding split header_of
split_seven os rest e = ap split e ∙ none_either (leb 6 (length (7 ∷ rest)) && true) None refl

split_short : (os : List ℕ) → length os < 6 → split os ≡ None
unfolding split
split_short os h = rw (lt-leb 6 (length os) h) refl

plain_not_split : (m : Emm (List ℕ)) (os : List ℕ) → IsMobilityOf m os → split os ≡ None
plain_not_split (emm.ServiceRequest octets) os h =
    let long : length octets ≡ 4 = h.writable.0 in ap split h.written ∙ split_short octets (omega (arith, long))
plain_not_split _ os h = split_seven os _ h.written

-- ---- what is kept, and forged

-- octets that are split are a form
split_form : (os : List ℕ) → IsPhoneNas os → is_some (split os) ≡ true → IsForm os
split_form os (inl m) e = absurd (true≢false (sym e ∙ ap is_some (plain_not_split m.0 os m.1)))
split_form os (inr f) e = f

kept_if : (b : Bool) (os : List ℕ) → (b ≡ true → IsForm os) → IsFormIf (cond b (Some os) None)
kept_if true os h = h refl
kept_if false os h = tt

pub kept_sent : (o : Option (List ℕ)) → IsPhoneNasIf o → IsFormIf (kept_form o)
kept_sent None h = tt
kept_sent (Some os) h = kept_if (is_some (split os)) os (λ e. split_form os h e)

pub nas_of_form : (o : Option (List ℕ)) → IsFormIf o → IsPhoneNasIf o
nas_of_form None h = tt
nas_of_form (Some os) h = inr h

pub forged_sent : NasLawsGiven → (o : Option (List ℕ)) → IsFormIf o → IsFormIf (forged o)
forged_sent laws None h = tt
forged_sent laws (Some os) f =
    let p = f.0 in
    subst (λ (v : Option (Protected (List ℕ))). IsFormIf (forged_of v)) (sym f.1.read)
    (form_sent laws (raised p) f.1.mac (omega arith) f.1.message)

-- ---- what is said

pub record SpokenWell (s : Spoken) : Type 0 where
  pub sent : IsPhoneNasIf s.octets
  pub registration : RegistrationInRange s.registration

pub spoken_either : (b : Bool) (x y : Spoken) → SpokenWell x → SpokenWell y → SpokenWell (cond b x y)
spoken_either true x y p q = p
spoken_either false x y p q = q

pub silent_well : (r : Registration) → RegistrationInRange r → SpokenWell (silent r)
silent_well r h = record { sent = tt; registration = h }

pub nothing_kept : RegistrationInRange (record { challenge = None; context = None; guti = None })
nothing_kept = record { challenge = tt; context = tt; guti = tt }

pub leaving_well : (s : Spoken) → SpokenWell s → SpokenWell (leaving s)
leaving_well s h = record { sent = h.sent; registration = nothing_kept }

pub context_well : (r : Registration) (c : PhoneContextView) → RegistrationInRange r → PhoneContextInRange c
    → RegistrationInRange (with_context r c)
context_well r c h k = record { challenge = h.challenge; context = k; guti = h.guti }

pub protected_well : NasLawsGiven → (r : Registration) (c : PhoneContextView) (header : SecurityHeader) (message : List ℕ)
    → RegistrationInRange r → PhoneContextInRange c → IsMobility message ⊎ IsSession message
    → SpokenWell (protected_saying r c header message)
unfolding protected_saying
protected_well laws r c header message h k inner =
    let p = uplink_parts c header message in
    let mac = mac_bytes c.integrity c.down_next directions.Uplink (c.down_next % 2 ^ 8 ∷ message) k in
    spoken_either (leb (2 ^ 24) c.down_next) _ _
    (silent_well (with_context r c) (context_well r c h k))
    (record {
      sent = inr (form_sent laws p mac (omega arith) inner);
      registration = context_well r (with_count_spent c) h k;
    })
