-- What a phone says under its security context, and what it takes under it.
use Rattle.std.specs.Prelude.{ℕ, ◌+◌, ◌*◌, ◌%◌, ◌^◌, nat_le, if◌then◌else◌, List, [], ◌∷◌, slice_index, Option, Some, None, Ok, Err}
use Rattle.std.specs.Borrow.{Bor}
use Rattle.eps_keys.specs.declared.direction.DirectionBit.TheVariants.{Uplink}
use Rattle.eps_keys.specs.Eia2.{eia2}
use Rattle.nas_messages.specs.declared.emm_types.Emm.TheVariants as emm
use Rattle.nas_messages.specs.declared.protection.SecurityHeader.{SecurityHeader}
use Rattle.nas_messages.specs.declared.protection.Protected.{Protected}
use Rattle.nas_messages.specs.Messages.{encoded_emm}
use Rattle.nas_messages.specs.Protection.{protected_form, split}
use Rattle.nas_security.specs.Accepting.{Acceptance, accepted}
use Rattle.sim_phone.specs.declared.registration.Registration.{Registration}
use Rattle.sim_phone.specs.Messages.{unregistered}
use Rattle.sim_phone.specs.Sides.{PhoneContextView, phone_mac}

-- what a phone sends, if anything, and what is kept of its registration then
pub record Spoken : Type 0 where
  pub octets : Option (List ℕ)
  pub registration : Registration

abbrev pub silent : Registration → Spoken
silent r = record { octets = None; registration = r }

-- the same, but the registration has ended
abbrev pub leaving : Spoken → Spoken
leaving s = record { octets = s.octets; registration = unregistered }

abbrev pub with_context : Registration → PhoneContextView → Registration
with_context r c = record r { context = Some c }

-- the next uplink count is spent
abbrev pub with_count_spent : PhoneContextView → PhoneContextView
with_count_spent c = record c { down_next = c.down_next + 1 }

-- an uplink message under a count: its low 8 bits are the sequence number, and the MAC is over the sequence number and the
-- message (TS 24.301 clause 9.5)
abbrev pub uplink_parts : PhoneContextView → SecurityHeader → List ℕ → Protected (List ℕ)
uplink_parts c header message = record {
  header = header;
  mac = eia2 c.integrity c.down_next Uplink (c.down_next % 2 ^ 8 ∷ message);
  sequence = c.down_next % 2 ^ 8;
  message = message;
}

-- a message in the protected form under the next count, which is spent; nothing where no count of 24 bits is left
unfoldable pub protected_saying : Registration → PhoneContextView → SecurityHeader → List ℕ → Spoken
protected_saying r c header message =
    if nat_le (2 ^ 24) c.down_next then silent (with_context r c)
    else record {
      octets = Some (protected_form (uplink_parts c header message));
      registration =
          with_context r (with_count_spent c);
    }

-- SERVICE REQUEST under the next count (TS 24.301 clause 8.2.25): c7, the key set identifier with the count's low 5 bits, and
-- the last two octets of the MAC over these two
abbrev pub service_head : PhoneContextView → List ℕ
service_head c = 0xc7 ∷ (c.ksi % 8 * 32 + c.down_next % 32) ∷ []

abbrev pub service_octets : PhoneContextView → List ℕ
service_octets c =
    let mac = eia2 c.integrity c.down_next Uplink (service_head c) in
    encoded_emm (emm.ServiceRequest (0xc7 ∷ (c.ksi % 8 * 32 + c.down_next % 32) ∷ slice_index mac 2 ∷ slice_index mac 3 ∷ []))

-- the context after what was accepted, and the message
abbrev pub taken_of : PhoneContextView → Acceptance → Option (PhoneContextView × List ℕ)
taken_of c (Ok found) = Some (record c { up_last = Some found.0 }, found.1)
taken_of c (Err fault) = None

-- octets that a context accepts under one of these headers: its MAC is right, and its count is fresh
unfoldable pub taken_under : Option PhoneContextView → List SecurityHeader → List ℕ → Option (PhoneContextView × List ℕ)
taken_under None allowed os = None
taken_under (Some c) allowed os = taken_of c (accepted (phone_mac c.integrity) c.up_last allowed os)

-- without where the message lies in memory
abbrev pub seen_taken : Option (PhoneContextView × Bor (List ℕ)) → Option (PhoneContextView × List ℕ)
seen_taken None = None
seen_taken (Some found) = Some (found.0, found.1.now)

-- a protected message as it was, but for a sequence number that is one higher; nothing of other octets
abbrev pub raised : Protected (List ℕ) → Protected (List ℕ)
raised p = record p { sequence = (p.sequence + 1) % 2 ^ 8 }

abbrev pub forged_of : Option (Protected (List ℕ)) → Option (List ℕ)
forged_of None = None
forged_of (Some p) = Some (protected_form (raised p))

abbrev pub forged : Option (List ℕ) → Option (List ℕ)
forged None = None
forged (Some os) = forged_of (split os)
