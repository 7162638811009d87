use Rattle.std.proofs.Common.{◌∙◌, ap, arith}
use Rattle.std.specs.Prelude.{slice_set}
use Rattle.std.proofs.lemmas.Result.{err_from_is_err_and}
use Rattle.mme_types.specs.Stations.{no_stations}
use Rattle.snapshot_formats.specs.Heads.{typed_saved_station}
use Rattle.mme_snapshot.proofs.Stations.{all_read, none_read, one_more, one_refused}
use Rattle.mme_snapshot.proofs.restoring.read_stations.Goals as goal

pub loop-number-init : goal.loop-number-init
unfolding no_stations
loop-number-init c = none_read c.in-Ok.made c.args.reader.now c.in-Ok.ensures

pub loop-number-preserved : goal.loop-number-preserved
loop-number-preserved c =
    one_more c.loop-number.number c.loop-number.stations c.set.new.self c.loop-number.reader c.read_part.new.reader c.args.reader.now
    (typed_saved_station c.in_ok-saved.saved) c.station_of.result c.loop-number.invariant c.loop-number-test.true c.in_ok-saved.ensures.ok
    c.station_of.ensures
    (c.set.ensures ∙ ap (λ n. slice_set c.loop-number.stations n c.station_of.result) c.new-in-loop-number.ensures)

pub returns-in_err-saved-clause-refused : goal.returns-in_err-saved-clause-refused
returns-in_err-saved-clause-refused c =
    let p = err_from_is_err_and c.from_residual.result c.from_residual.ensures.1 in
    rw (p.1, p.2) (λ known.
    one_refused c.loop-number.number c.loop-number.stations c.loop-number.reader c.args.reader.now c.in_err-saved.field-0.0
    c.loop-number.invariant c.loop-number-test.true (c.in_err-saved.ensures.refused known))

pub returns-clause-ok : goal.returns-clause-ok
returns-clause-ok c =
    all_read c.loop-number.number c.loop-number.stations c.loop-number.reader c.args.reader.now c.loop-number.invariant
    (let t = c.loop-number-test.false in let e = c.loop-number.auto.number-end in omega (arith, t, e))
