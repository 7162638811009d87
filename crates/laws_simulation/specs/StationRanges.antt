-- The ranges of what a station's messages are built of. A definition's numbers are any and its strings of any length; in the code
-- these hold by the types, and of the associations by how they came about.
use Rattle.std.specs.Prelude.{◌^◌, ◌<◌}
use Rattle.std.specs.List.{AllByRecursion}
use Rattle.s1ap_elements.specs.declared.phone.UeIdPair.{UeIdPair}
use Rattle.enb_sim.specs.declared.station.StationAct.{StationAct}
use Rattle.enb_sim.specs.declared.station.StationAct.TheVariants.{SetUp, Initial, Uplink, Switch, Release}
use Rattle.enb_sim.specs.Delivering.{StationView, pair_with}
use Rattle.enb_sim.specs.Ranges.{STmsiInRangeIf, SiteInRange}
use Rattle.laws_network.specs.Ranges.{IsBrief}

-- an MME UE S1AP ID and an eNB UE S1AP ID (TS 36.413 clauses 9.2.3.3, 9.2.3.4)
pub record PairInRange (pair : UeIdPair) : Type 0 where
  pub mme_ue_id : pair.mme_ue_id < 2 ^ 32
  pub enb_ue_id : pair.enb_ue_id < 2 ^ 24

-- a profile in range, and associations with ids in range
pub record StationInRange (s : StationView) : Type 0 where
  pub profile : SiteInRange s.profile
  pub pairs : AllByRecursion PairInRange s.pairs

-- ids in range, and a NAS message of at most 15,000 octets; what a phone sends has 1,100 at most
abbrev pub ActInRange : StationAct → Type 0
ActInRange SetUp = Unit {0}
ActInRange (Initial enb_ue_id nas s_tmsi) = (enb_ue_id < 2 ^ 24) × IsBrief 15000 nas.now × STmsiInRangeIf s_tmsi
ActInRange (Uplink m b nas) = PairInRange (pair_with m b) × IsBrief 15000 nas.now
ActInRange (Switch m b) = PairInRange (pair_with m b)
ActInRange (Release m b) = PairInRange (pair_with m b)
