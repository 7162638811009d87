-- What a security context sends.
use Rattle.std.specs.Prelude.{ℕ, ◌%◌, ◌^◌, List, ◌∷◌}
use Rattle.eps_keys.specs.declared.direction.DirectionBit.TheVariants.{Downlink}
use Rattle.nas_messages.specs.declared.protection.SecurityHeader.{SecurityHeader}
use Rattle.nas_messages.specs.declared.protection.Protected.{Protected}
use Rattle.nas_messages.specs.Protection.{protected_form}
use Rattle.nas_security.specs.Context.{Mac}

-- the parts of a message under a downlink count: its low 8 bits are the sequence number, and the MAC
-- is over the sequence number and the message (TS 24.301 clause 9.5)
abbrev pub protected_parts : Mac → ℕ → SecurityHeader → List ℕ → Protected (List ℕ)
protected_parts mac count header message = record {
  header = header;
  mac = mac count Downlink (count % 2 ^ 8 ∷ message);
  sequence = count % 2 ^ 8;
  message = message;
}

-- their octets
unfoldable pub protected_by : Mac → ℕ → SecurityHeader → List ℕ → List ℕ
protected_by mac count header message = protected_form (protected_parts mac count header message)
