use Rattle.std.proofs.Common.{◌≡◌, ap, ◌∙◌, arith, length, replicate}
use Rattle.std.proofs.lemmas.List.{length-replicate}
use Rattle.mme_types.specs.declared.stations.StationState.TheVariants.{Down}
use Rattle.mme_types.specs.Stations.{no_stations}
use Rattle.mme_types.proofs.stations.EnbWorld.new.Goals as goal

pub invariant_of-result : goal.invariant_of-result
invariant_of-result c =
    let all : c.loop.counter ≡ 128 = let t = c.loop-test.false in let e = c.loop.auto.counter-end in omega (arith, t, e) in
    ap length c.loop.invariant ∙ length-replicate c.loop.counter Down ∙ all

pub returns : goal.returns
unfolding no_stations
returns c =
    let all : c.loop.counter ≡ 128 = let t = c.loop-test.false in let e = c.loop.auto.counter-end in omega (arith, t, e) in
    let stations : c.loop.stations.items ≡ replicate 128 Down = c.loop.invariant ∙ ap (λ n. replicate n Down) all in
    stations
