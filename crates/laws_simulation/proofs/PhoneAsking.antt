-- What a phone sends of its own accord.
use Rattle.std.proofs.Common.{◌≡◌, ℕ, ◌%◌, ◌^◌, Bool, true, leb, List, Option, Some, None, inl, arith}
use Rattle.nas_elements.specs.declared.identity.Guti.{Guti}
use Rattle.nas_elements.specs.declared.identity.MobileIdentity.{MobileIdentity}
use Rattle.nas_elements.specs.Digits.{is_imsi}
use Rattle.nas_messages.specs.declared.protection.SecurityHeader.TheVariants.{IntegrityProtected}
use Rattle.sim_phone.specs.declared.registration.Registration.{Registration}
use Rattle.sim_phone.specs.Asking.{attach_saying, detach_by, detach_saying, identity_by, service_by, service_saying, update_by, update_saying, update_with}
use Rattle.sim_phone.specs.Messages.{detach_octets, no_key_set, update_octets}
use Rattle.sim_phone.specs.Protecting.{with_count_spent}
use Rattle.sim_phone.specs.Sides.{PhoneContextView}
use Rattle.laws_simulation.specs.PhoneRanges.{GutiInRangeIf, PhoneContextInRange, PhoneContextInRangeIf, RegistrationInRange}
use Rattle.laws_simulation.proofs.GivenLaws.{NasLawsGiven}
use Rattle.laws_simulation.proofs.IdentityOctets.{IdentityInRange}
use Rattle.laws_simulation.proofs.PlainMessages.{attach_sent, detach_sent, service_sent, update_sent}
use Rattle.laws_simulation.proofs.ProtectedForms.{SpokenWell, context_well, nothing_kept, protected_well, silent_well, spoken_either}

pub attach_well : NasLawsGiven → (who : MobileIdentity) (information : Bool) → IdentityInRange who
    → SpokenWell (attach_saying who information)
attach_well laws who information h = record { sent = inl (attach_sent laws who information h); registration = nothing_kept }

-- ---- SERVICE REQUEST

service_by_well : NasLawsGiven → (r : Registration) (o : Option PhoneContextView) → RegistrationInRange r → PhoneContextInRangeIf o
    → SpokenWell (service_by r o)
service_by_well laws r None h k = silent_well r h
service_by_well laws r (Some c) h k =
    spoken_either (leb (2 ^ 24) c.down_next) _ _ (silent_well r h)
    (record { sent = inl (service_sent laws c k); registration = context_well r (with_count_spent c) h k })

pub service_well : NasLawsGiven → (r : Registration) → RegistrationInRange r → SpokenWell (service_saying r)
service_well laws r h = service_by_well laws r r.context h h.context

-- ---- TRACKING AREA UPDATE REQUEST

update_with_well : NasLawsGiven → (r : Registration) (c : PhoneContextView) (o : Option Guti) → RegistrationInRange r
    → PhoneContextInRange c → GutiInRangeIf o → SpokenWell (update_with r c o)
update_with_well laws r c None h k g = silent_well r h
update_with_well laws r c (Some guti) h k g =
    protected_well laws r c IntegrityProtected (update_octets (c.ksi % 8) guti) h k
    (inl (update_sent laws (c.ksi % 8) guti (omega arith) g))

update_by_well : NasLawsGiven → (r : Registration) (o : Option PhoneContextView) → RegistrationInRange r → PhoneContextInRangeIf o
    → SpokenWell (update_by r o)
update_by_well laws r None h k = silent_well r h
update_by_well laws r (Some c) h k = update_with_well laws r c r.guti h k h.guti

pub update_well : NasLawsGiven → (r : Registration) → RegistrationInRange r → SpokenWell (update_saying r)
update_well laws r h = update_by_well laws r r.context h h.context

-- ---- DETACH REQUEST

identity_well : (imsi : List ℕ) (o : Option Guti) → is_imsi imsi ≡ true → GutiInRangeIf o → IdentityInRange (identity_by imsi o)
identity_well imsi None i g = i
identity_well imsi (Some guti) i g = g

detach_by_well : NasLawsGiven → (imsi : List ℕ) (r : Registration) (off : Bool) (o : Option PhoneContextView) → is_imsi imsi ≡ true
    → RegistrationInRange r → PhoneContextInRangeIf o → SpokenWell (detach_by imsi r off o)
detach_by_well laws imsi r off None i h k =
    let who = identity_by imsi r.guti in
    record { sent = inl (detach_sent laws who off no_key_set (identity_well imsi r.guti i h.guti) (omega arith)); registration = h }
detach_by_well laws imsi r off (Some c) i h k =
    let who = identity_by imsi r.guti in
    protected_well laws r c IntegrityProtected (detach_octets who off (c.ksi % 8)) h k
    (inl (detach_sent laws who off (c.ksi % 8) (identity_well imsi r.guti i h.guti) (omega arith)))

pub detach_well : NasLawsGiven → (imsi : List ℕ) (r : Registration) (off : Bool) → is_imsi imsi ≡ true → RegistrationInRange r
    → SpokenWell (detach_saying imsi r off)
detach_well laws imsi r off i h = detach_by_well laws imsi r off r.context i h h.context
