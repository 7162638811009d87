-- What always holds of an MME that is put together.
use Rattle.std.specs.Prelude.{◌≡◌, ◌≤◌, ℕ}
use Rattle.mme_types.specs.declared.network.Network.{Network}
use Rattle.mme_core.specs.Apart.{AreApart}
use Rattle.mme_core.specs.Kept.{IsKept}
use Rattle.mme_core.specs.World.{World}

pub record IsBuilding (shared : Network) (touched : ℕ) (w : World) : Type 0 where
  -- what always holds of an MME
  pub kept : IsKept w
  pub apart : AreApart w
  -- nobody was touched after its clock
  pub clock : touched ≤ w.sight.clock
  -- its subscribers share its network
  pub network : shared ≡ w.sight.config.network
