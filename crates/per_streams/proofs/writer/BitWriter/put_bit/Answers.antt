use Rattle.per_streams.specs.BitLaws.{push-octet}
use Rattle.per_streams.proofs.writer.BitWriter.put_bit.Goals as goal

pub returns-in_ok-push-clause-ok : goal.returns-in_ok-push-clause-ok
returns-in_ok-push-clause-ok c =
    let w = c.self.inside in
    rw (← c.self.view_is, c.in_ok-push.ensures.items)
    (push-octet w.octets.items w.used w.current c.with_bit-current.result c.args.bit c.if-self-eq7.true
    c.with_bit-current.ensures.bits)
