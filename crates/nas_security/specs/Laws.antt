-- When octets are accepted.
use Rattle.std.specs.Prelude.{◌≡◌, ℕ, ◌^◌, true, List, ◌∷◌, Option, Some}
use Rattle.eps_keys.specs.declared.direction.DirectionBit.TheVariants.{Uplink}
use Rattle.nas_messages.specs.declared.protection.SecurityHeader.{SecurityHeader}
use Rattle.nas_messages.specs.declared.protection.Protected.{Protected}
use Rattle.nas_messages.specs.Protection.{split}
use Rattle.nas_security.specs.Context.{Mac}
use Rattle.nas_security.specs.Counts.{estimate}
use Rattle.nas_security.specs.Accepting.{is_allowed}

-- the octets are a protected message with an allowed header; the count is the estimate of its
-- sequence number, and its MAC is that of this count
pub record IsAccepted (mac : Mac) (last : Option ℕ) (allowed : List SecurityHeader)
    (octets : List ℕ) (count : ℕ) (message : List ℕ) : Type 0 where
  pub parts : Protected (List ℕ)
  pub form : split octets ≡ Some parts
  pub content : parts.message ≡ message
  pub header : is_allowed allowed parts.header ≡ true
  pub counted : estimate last parts.sequence (2 ^ 8) ≡ Some count
  pub right : parts.mac ≡ mac count Uplink (parts.sequence ∷ message)
