use Rattle.std.proofs.Common.{◌≡◌, ℕ, ◌≤◌, List, length, map, ap, ◌∙◌, arith, subst}
use Rattle.std.proofs.lemmas.List.{take_all}
use Rattle.snapshot_states.proofs.restoring.stations_of.Goals as goal

pub returns : goal.returns
returns c =
    let same : c.as_slice-station-items.result.now ≡ c.args.saved.now = c.as_slice-station-items.ensures in
    let over : length c.args.saved.now ≤ c.loop-station.station-index =
    subst (λ (es : List ℕ). length es ≤ c.loop-station.station-index) same (let t = c.loop-station-test.false in omega (arith, t)) in
    c.new-2.ensures ∙ c.loop-station.invariant
    ∙ ap (λ (es : List ℕ). map (λ (e : ℕ). e) es) (take_all c.loop-station.station-index c.args.saved.now over)
