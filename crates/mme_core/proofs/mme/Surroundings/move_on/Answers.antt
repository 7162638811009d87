use Rattle.std.proofs.Common.{List, length, ◌∙◌, ap}
use Rattle.mme_types.specs.declared.stations.StationState.{StationState}
use Rattle.mme_core.specs.Ready.{ready_sight}
use Rattle.mme_core.specs.Sight.{Sight}
use Rattle.mme_core.specs.contracts.mme.Surroundings.{the_view}
use Rattle.mme_core.proofs.Stations.{placed_many}
use Rattle.mme_core.proofs.mme.Surroundings.move_on.Goals as goal

pub invariant_of-self : goal.invariant_of-self
invariant_of-self c = (
  ap length c.settle_station.ensures ∙ placed_many c.args.moves.station c.args.moves.state c.self.inside.stations
      ∙ c.self.invariant.0,
  c.self.invariant.1,
  c.self.invariant.2,
)

pub returns : goal.returns
returns c =
    let v : Sight = the_view c.self.inside in
    ap (λ (xs : List StationState). record v { clock = c.args.moves.clock; stations = xs }) c.settle_station.ensures
    ∙ ap (λ (s : Sight). ready_sight c.args.moves s) c.self.view_is
