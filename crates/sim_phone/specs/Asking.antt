-- What a phone sends of its own accord.
use Rattle.std.specs.Prelude.{ℕ, ◌%◌, ◌^◌, Bool, nat_le, if◌then◌else◌, List, Option, Some, None}
use Rattle.nas_elements.specs.declared.identity.Guti.{Guti}
use Rattle.nas_elements.specs.declared.identity.MobileIdentity.{MobileIdentity}
use Rattle.nas_elements.specs.declared.identity.MobileIdentity.TheVariants as identity
use Rattle.nas_messages.specs.declared.protection.SecurityHeader.TheVariants.{IntegrityProtected}
use Rattle.sim_phone.specs.declared.registration.Registration.{Registration}
use Rattle.sim_phone.specs.Messages.{attach_octets, detach_octets, no_key_set, unregistered, update_octets}
use Rattle.sim_phone.specs.Protecting.{Spoken, protected_saying, service_octets, silent, with_count_spent, with_context}
use Rattle.sim_phone.specs.Sides.{PhoneContextView}

-- an ATTACH REQUEST: what was kept of a registration is forgotten
abbrev pub attach_saying : MobileIdentity → Bool → Spoken
attach_saying who information = record { octets = Some (attach_octets who information); registration = unregistered }

-- ---- SERVICE REQUEST: with a context of which a count is left

abbrev pub service_with : Registration → PhoneContextView → Spoken
service_with r c =
    if nat_le (2 ^ 24) c.down_next then silent r
    else record { octets = Some (service_octets c); registration = with_context r (with_count_spent c) }

abbrev pub service_by : Registration → Option PhoneContextView → Spoken
service_by r None = silent r
service_by r (Some c) = service_with r c

abbrev pub service_saying : Registration → Spoken
service_saying r = service_by r r.context

-- ---- TRACKING AREA UPDATE REQUEST: with a context and a GUTI

abbrev pub update_with : Registration → PhoneContextView → Option Guti → Spoken
update_with r c None = silent r
update_with r c (Some guti) = protected_saying r c IntegrityProtected (update_octets (c.ksi % 8) guti)

abbrev pub update_by : Registration → Option PhoneContextView → Spoken
update_by r None = silent r
update_by r (Some c) = update_with r c r.guti

abbrev pub update_saying : Registration → Spoken
update_saying r = update_by r r.context

-- ---- DETACH REQUEST: by the GUTI where there is one, else by the IMSI; protected where there is a context

abbrev pub identity_by : List ℕ → Option Guti → MobileIdentity
identity_by imsi None = identity.Imsi imsi
identity_by imsi (Some guti) = identity.Temporary guti

abbrev pub detach_by : List ℕ → Registration → Bool → Option PhoneContextView → Spoken
detach_by imsi r switch_off None =
    record { octets = Some (detach_octets (identity_by imsi r.guti) switch_off no_key_set); registration = r }
detach_by imsi r switch_off (Some c) =
    protected_saying r c IntegrityProtected (detach_octets (identity_by imsi r.guti) switch_off (c.ksi % 8))

abbrev pub detach_saying : List ℕ → Registration → Bool → Spoken
detach_saying imsi r switch_off = detach_by imsi r switch_off r.context
