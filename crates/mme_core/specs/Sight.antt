-- What every owner may see: the configuration, the clock, the stations and who is provisioned. It moves by the events alone.
use Rattle.std.specs.Prelude.{ℕ, List}
use Rattle.identity_slots.specs.declared.profile.Profile.{Profile}
use Rattle.mme_types.specs.declared.stations.StationState.{StationState}
use Rattle.mme_core.specs.declared.config.Config.{Config}

pub record Sight : Type 0 where
  pub config : Config
  pub clock : ℕ
  pub stations : List StationState
  pub profiles : List Profile
