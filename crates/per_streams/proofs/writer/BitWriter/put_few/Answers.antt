use Rattle.per_streams.specs.PartLaws.{put_full, put_inside}
use Rattle.per_streams.proofs.writer.BitWriter.put_few.Goals as goal

pub returns-then-used-lt8-clause-ok : goal.returns-then-used-lt8-clause-ok
returns-then-used-lt8-clause-ok c =
    let w = c.self.inside in
    rw (← c.self.view_is)
    (put_inside w.octets.items w.used w.current c.args.count c.args.number c.joined-both.result c.joined-both.ensures.bits)

pub returns-clause-ok : goal.returns-clause-ok
returns-clause-ok c =
    let w = c.self.inside in
    rw (← c.self.view_is, c.in_ok-push.ensures.items)
    (put_full w.octets.items w.used w.current c.args.count c.args.number c.joined-both.result c.split_number-octet.result.0
    c.split_number-octet.result.1 c.joined-both.ensures.bits c.split_number-octet.ensures.parts)
