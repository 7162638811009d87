use Rattle.std.proofs.lemmas.Result.{IfErr-weaker, IfOk-weaker}
use Rattle.snapshot_formats.specs.Formats.{saved_subscriber}
use Rattle.snapshot_formats.specs.Subscribers.{typed_saved_subscriber}
use Rattle.mme_snapshot.proofs.AtPlaces.{a_part, added_so, no_end, no_part_so, no_value, refused_so}
use Rattle.mme_snapshot.proofs.restoring.read_subscriber.Goals as goal

pub returns-in-Err-Fault-clause-refused : goal.returns-in-Err-Fault-clause-refused
returns-in-Err-Fault-clause-refused c = λ known.
    no_part_so c.args.most c.args.building c.args.reader.now c.in-Err-Fault.field-0-0
    (no_value saved_subscriber c.args.reader.now c.in-Err-Fault.field-0-0 (rw c.in-Err-Fault.field-0-is at c.in-Err-Fault.ensures))

pub returns-in-Err-clause-refused : goal.returns-in-Err-clause-refused
returns-in-Err-clause-refused c = λ known.
    no_part_so c.args.most c.args.building c.args.reader.now c.in-Err.field-0
    (no_end saved_subscriber c.args.reader.now (typed_saved_subscriber c.in-Ok.part) c.read.new.reader c.in-Ok.ensures c.in-Err.field-0
    c.in-Err.ensures)

pub returns-clause-ok : goal.returns-clause-ok
returns-clause-ok c =
    let v = typed_saved_subscriber c.in-Ok.part in
    let read = a_part saved_subscriber c.args.reader.now v c.read.new.reader c.in-Ok.ensures c.align.new.self c.in-Ok-align.ensures in
    IfOk-weaker c.subscriber.result _ _ (λ b h. added_so c.args.most c.args.building c.args.reader.now v c.align.new.self read b h)
    c.subscriber.ensures.ok

pub returns-clause-refused : goal.returns-clause-refused
returns-clause-refused c =
    let v = typed_saved_subscriber c.in-Ok.part in
    let read = a_part saved_subscriber c.args.reader.now v c.read.new.reader c.in-Ok.ensures c.align.new.self c.in-Ok-align.ensures in
    IfErr-weaker c.subscriber.result _ _
    (λ fault h known. refused_so c.args.most c.args.building c.args.reader.now v c.align.new.self read fault (h known))
    c.subscriber.ensures.refused
