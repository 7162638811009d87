-- Ticks that end nobody's countdown.
use Rattle.std.specs.Prelude.{◌≡◌, ◌<◌, ◌^◌}
use Rattle.mme_owners.specs.Owners.{NobodyIsDue}
use Rattle.mme_core.specs.declared.event.Event.{Event}
use Rattle.mme_core.specs.declared.event.Event.TheVariants.{Tick}
use Rattle.mme_core.specs.World.{World}

-- a tick that isn't refused, and that ends nobody's countdown
pub record IsQuiet (w : World) (event : Event) : Type 0 where
  pub tick : event ≡ Tick
  pub before : w.sight.clock < 2 ^ 62
  pub nobody : NobodyIsDue w.strangers w.subscribers
