-- The phone's side of a security context.
use Rattle.std.specs.Prelude.{ℕ, List}
use Rattle.eps_keys.specs.declared.direction.DirectionBit.{DirectionBit}
use Rattle.eps_keys.specs.declared.direction.DirectionBit.TheVariants.{Uplink, Downlink}
use Rattle.eps_keys.specs.Eia2.{eia2}
use Rattle.nas_security.specs.Context.{Mac, SecurityContextView}

abbrev pub opposite : DirectionBit → DirectionBit
opposite Uplink = Downlink
opposite Downlink = Uplink

-- what a context sends goes up from a phone, and what it accepts came down
abbrev pub phone_mac : List ℕ → Mac
phone_mac key count direction message = eia2 key count (opposite direction) message

-- a phone's security context: what it holds as the next downlink count is the phone's next uplink count, and what it holds as
-- the last accepted uplink count is the last accepted downlink count
abbrev pub PhoneContextView : Type 0
PhoneContextView = SecurityContextView (List ℕ)
