use Rattle.std.proofs.Common.{◌≡◌, List, ◌∙◌, ap, subst}
use Rattle.std.proofs.lemmas.Result.{IfOk-weaker}
use Rattle.mme_types.specs.declared.stations.StationState.{StationState}
use Rattle.mme_types.specs.Stations.{station_at}
use Rattle.s1ap_pdus.specs.Pdus.{decoded}
use Rattle.mme_routing.specs.Outcomes.{outcome_of}
use Rattle.mme_routing.specs.declared.outcome.Outcome.{Outcome}
use Rattle.mme_routing.specs.Seen.{seen_outcome}
use Rattle.mme_core.specs.Sight.{Sight}
use Rattle.mme_core.specs.contracts.mme.Surroundings.{the_view}
use Rattle.mme_core.proofs.mme.Surroundings.outcome.Goals as goal

pub returns : goal.returns
returns c =
    let e = c.args.station in
    let os = c.args.octets.now in
    let v = the_view c.self.inside in
    let made : (h : Outcome) → ((stations : List StationState) → seen_outcome stations h ≡ outcome_of v.config.network v.profiles e c.get-state.result.now (decoded os))
    → seen_outcome c.args.self.now.stations h ≡ outcome_of c.args.self.now.config.network c.args.self.now.profiles e (station_at c.args.self.now.stations e) (decoded os) =
    λ h comes. subst (λ (w : Sight). seen_outcome w.stations h ≡ outcome_of w.config.network w.profiles e (station_at w.stations e) (decoded os)) c.self.view_is
    (comes v.stations ∙ ap (λ s. outcome_of v.config.network v.profiles e s (decoded os)) c.get-state.ensures)
    in
    IfOk-weaker c.outcome_of.result _ _ made c.outcome_of.ensures
