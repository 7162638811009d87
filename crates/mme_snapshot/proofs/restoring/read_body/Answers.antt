use Rattle.std.proofs.lemmas.Result.{err_from_is_err_and}
use Rattle.mme_snapshot.proofs.Body.{all_so, more_so, no_head, no_stations, no_strangers, no_subscribers}
use Rattle.mme_snapshot.proofs.restoring.read_body.Goals as goal

pub returns-in_err-head-clause-refused : goal.returns-in_err-head-clause-refused
returns-in_err-head-clause-refused c =
    let p = err_from_is_err_and c.from_residual.result c.from_residual.ensures.1 in
    rw (p.1, p.2) (λ known. no_head c.args.most c.args.reader.now c.in_err-head.field-0.0 (c.in_err-head.ensures.refused known))

pub returns-in_err-stations-clause-refused : goal.returns-in_err-stations-clause-refused
returns-in_err-stations-clause-refused c =
    let p = err_from_is_err_and c.from_residual-in_err-stations.result c.from_residual-in_err-stations.ensures.1 in
    rw (p.1, p.2) (λ known.
    no_stations c.args.most c.args.reader.now c.in_ok-head.head c.read_head.new.reader c.in_ok-head.ensures.ok
    c.in_err-stations.field-0.0 (c.in_err-stations.ensures.refused known))

pub returns-in_err-building-clause-refused : goal.returns-in_err-building-clause-refused
returns-in_err-building-clause-refused c =
    let p = err_from_is_err_and c.from_residual-in_err-building.result c.from_residual-in_err-building.ensures.1 in
    rw (p.1, p.2) (λ known.
    no_strangers c.args.most c.args.reader.now c.in_ok-head.head c.read_head.new.reader c.in_ok-head.ensures.ok
    c.in_ok-stations.stations c.read_stations.new.reader c.in_ok-stations.ensures.ok c.in-Ok.made c.in-Ok.ensures
    c.in_err-building.field-0.0 (c.in_err-building.ensures.refused known))

pub returns-in_err-building-2-clause-refused : goal.returns-in_err-building-2-clause-refused
returns-in_err-building-2-clause-refused c =
    let p = err_from_is_err_and c.from_residual-in_err-building-2.result c.from_residual-in_err-building-2.ensures.1 in
    rw (p.1, p.2) (λ known.
    no_subscribers c.args.most c.args.reader.now c.in_ok-head.head c.read_head.new.reader c.in_ok-head.ensures.ok
    c.in_ok-stations.stations c.read_stations.new.reader c.in_ok-stations.ensures.ok c.in-Ok.made c.in-Ok.ensures
    c.in_ok-building.building c.read_strangers.new.reader c.in_ok-building.ensures.ok
    c.in_err-building-2.field-0.0 (c.in_err-building-2.ensures.refused known))

pub returns-in_err-read_end-clause-refused : goal.returns-in_err-read_end-clause-refused
returns-in_err-read_end-clause-refused c =
    let p = err_from_is_err_and c.from_residual-in_err-read_end.result c.from_residual-in_err-read_end.ensures.1 in
    rw (p.1, p.2) (λ known.
    more_so c.args.most c.args.reader.now c.in_ok-head.head c.read_head.new.reader c.in_ok-head.ensures.ok
    c.in_ok-stations.stations c.read_stations.new.reader c.in_ok-stations.ensures.ok c.in-Ok.made c.in-Ok.ensures
    c.in_ok-building.building c.read_strangers.new.reader c.in_ok-building.ensures.ok
    c.in_ok-building-2.building c.read_subscribers.new.reader c.in_ok-building-2.ensures.ok
    c.in_err-read_end.field-0.0 c.in_err-read_end.ensures.refused)

pub returns-clause-ok : goal.returns-clause-ok
returns-clause-ok c =
    all_so c.args.most c.args.reader.now c.in_ok-head.head c.read_head.new.reader c.in_ok-head.ensures.ok
    c.in_ok-stations.stations c.read_stations.new.reader c.in_ok-stations.ensures.ok c.in-Ok.made c.in-Ok.ensures
    c.in_ok-building.building c.read_strangers.new.reader c.in_ok-building.ensures.ok
    c.in_ok-building-2.building c.read_subscribers.new.reader c.in_ok-building-2.ensures.ok
    (tt, c.read_end.new.reader) c.in-Ok-finish.made c.in_ok-read_end.ensures.ok c.in-Ok-finish.ensures
