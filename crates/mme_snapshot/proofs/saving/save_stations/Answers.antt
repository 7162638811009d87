use Rattle.std.proofs.Common.{◌≡◌, ◌∙◌, ◌+◌, ◌++◌, ◌∷◌, [], ℕ, List, take, sym, ap, subst, arith}
use Rattle.std.proofs.lemmas.List.{take_all, take_more}
use Rattle.mme_types.specs.declared.stations.StationState.{StationState}
use Rattle.mme_snapshot.specs.Saved.{AreStations}
use Rattle.mme_snapshot.proofs.SavedStations.{stations_push}
use Rattle.mme_snapshot.proofs.saving.save_stations.Goals as goal

pub loop-state-preserved : goal.loop-state-preserved
loop-state-preserved c =
    let all = c.args.stations.now in
    let i = c.loop-state.state-index in
    let s = c.state-item.result in
    let so_far = c.loop-state.octets.items in
    let more : take (i + 1) all ≡ take i all ++ s ∷ [] =
    take_more all i s c.loop-state-test.true ∙ ap (λ (x : StationState). take i all ++ x ∷ []) (sym c.state-item.is) in
    let octets : c.append.new.octets.items ≡ so_far ++ c.in_ok-part.part.items =
    c.in_ok-append.ensures ∙ ap (λ (os : List ℕ). so_far ++ os) c.as_slice.ensures.value in
    subst (λ (ss : List StationState). AreStations ss c.append.new.octets.items) (sym more)
    (subst (λ (os : List ℕ). AreStations (take i all ++ s ∷ []) os) (sym octets)
    (stations_push (take i all) s so_far c.in_ok-part.part.items c.loop-state.invariant c.in_ok-part.ensures))

pub returns : goal.returns
returns c =
    subst (λ (ss : List StationState). AreStations ss c.loop-state.octets.items)
    (take_all c.loop-state.state-index c.args.stations.now (let t = c.loop-state-test.false in omega (arith, t)))
    c.loop-state.invariant
