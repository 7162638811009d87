use Rattle.std.proofs.Common.{◌≡◌, ℕ, ◌≤◌, List, length, map-id, take, ◌∙◌, arith, subst}
use Rattle.std.proofs.lemmas.List.{take_all}
use Rattle.std.proofs.lemmas.Option.{IfSome_then}
use Rattle.snapshot_states.proofs.saving.stations_of.Goals as goal

pub returns : goal.returns
returns c =
    let same : c.as_slice-station-items.result.now ≡ c.args.stations.now = c.as_slice-station-items.ensures in
    let over : length c.args.stations.now ≤ c.loop-station.station-index =
    subst (λ (es : List ℕ). length es ≤ c.loop-station.station-index) same (let t = c.loop-station-test.false in omega (arith, t)) in
    let all = c.loop-station.invariant ∙ map-id (take c.loop-station.station-index c.args.stations.now)
    ∙ take_all c.loop-station.station-index c.args.stations.now over in
    IfSome_then c.try_new.result c.try_new.ensures.value (λ s e. map-id s ∙ e ∙ all)
