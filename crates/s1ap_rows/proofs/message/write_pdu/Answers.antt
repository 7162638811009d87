use Rattle.std.proofs.Common.{◌<◌, arith, rules}
use Rattle.std.proofs.lemmas.Result.{err_from_is_err_and}
use Rattle.s1ap_rows.specs.Criticalities.{criticality_number}
use Rattle.s1ap_rows.proofs.Criticalities.{criticality_few}
use Rattle.s1ap_rows.proofs.Fronts.{count_within}
use Rattle.s1ap_rows.proofs.InPlace.{front_fails, has_begun, has_room, length_fails, pdu_written, rows_fail}
use Rattle.s1ap_rows.proofs.message.write_pdu.Goals as goal

pub overflow_cast-count : goal.overflow_cast-count
overflow_cast-count g c =
    omega (arith, c.requires, c.count-count.ensures, count_within g.W.Written.rows (g.W.Written.lent c.args.elements.now) 0)

pub returns-in_err-put_front : goal.returns-in_err-put_front
returns-in_err-put_front g c =
    let rs = g.W.Written.rows in
    let v = g.W.Written.lent c.args.elements.now in
    let k = criticality_number c.args.criticality in
    let p = err_from_is_err_and c.from_residual-in_err-put_front.result c.from_residual-in_err-put_front.ensures.1 in
    let within : c.count-count.result < 65536 = omega (arith, c.requires, c.count-count.ensures, count_within rs v 0) in
    rw (p.1, p.2)
    (front_fails c.args.kind c.args.code k c.count-count.result rs v c.in_err-put_front.field-0.0 c.ranges.code.fits
    (criticality_few c.args.criticality) within c.in_err-put_front.ensures)

pub returns-in_err-write : goal.returns-in_err-write
returns-in_err-write g c =
    let rs = g.W.Written.rows in
    let v = g.W.Written.lent c.args.elements.now in
    let k = criticality_number c.args.criticality in
    let p = err_from_is_err_and c.from_residual-in_err-write.result c.from_residual-in_err-write.ensures.1 in
    let b =
    has_begun c.args.kind c.args.code k c.count-count.result rs v c.put_front.new.writer c.ranges.code.fits
    (criticality_few c.args.criticality) c.count-count.ensures c.in_ok-put_front.ensures in
    rw (p.1, p.2) (rows_fail c.args.kind c.args.code k rs v c.put_front.new.writer c.in_err-write.field-0.0 b c.in_err-write.ensures)

pub count_after-requires : goal.count_after-requires
count_after-requires g c =
    let rs = g.W.Written.rows in
    let v = g.W.Written.lent c.args.elements.now in
    let k = criticality_number c.args.criticality in
    let b =
    has_begun c.args.kind c.args.code k c.count-count.result rs v c.put_front.new.writer c.ranges.code.fits
    (criticality_few c.args.criticality) c.count-count.ensures c.in_ok-put_front.ensures in
    has_room c.args.kind c.args.code k rs v c.put_front.new.writer c.write.new.writer c.align.new.self b
    c.in_ok-write.ensures c.in_ok-align.ensures.ok

pub returns-in_err-count_after : goal.returns-in_err-count_after
returns-in_err-count_after g c =
    let rs = g.W.Written.rows in
    let v = g.W.Written.lent c.args.elements.now in
    let k = criticality_number c.args.criticality in
    let p = err_from_is_err_and c.from_residual-in_err-count_after.result c.from_residual-in_err-count_after.ensures.1 in
    let b =
    has_begun c.args.kind c.args.code k c.count-count.result rs v c.put_front.new.writer c.ranges.code.fits
    (criticality_few c.args.criticality) c.count-count.ensures c.in_ok-put_front.ensures in
    rw (p.1, p.2)
    (length_fails c.args.kind c.args.code k rs v c.put_front.new.writer c.write.new.writer c.align.new.self
    c.in_err-count_after.field-0.0 b c.in_ok-write.ensures c.in_ok-align.ensures.ok c.in_err-count_after.ensures)

pub returns : goal.returns
returns g c =
    let rs = g.W.Written.rows in
    let v = g.W.Written.lent c.args.elements.now in
    let k = criticality_number c.args.criticality in
    let b =
    has_begun c.args.kind c.args.code k c.count-count.result rs v c.put_front.new.writer c.ranges.code.fits
    (criticality_few c.args.criticality) c.count-count.ensures c.in_ok-put_front.ensures in
    let whole =
    pdu_written c.args.kind c.args.code k rs v c.put_front.new.writer c.write.new.writer c.align.new.self
    c.count_after.new.writer b c.in_ok-write.ensures c.in_ok-align.ensures.ok c.in_ok-count_after.ensures in
    rw whole (search rules)
