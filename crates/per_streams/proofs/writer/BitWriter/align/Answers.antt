use Rattle.std.proofs.Common.{arith}
use Rattle.per_streams.specs.BitLaws.{no_pad, pad_here}
use Rattle.per_streams.proofs.writer.BitWriter.align.Goals as goal

pub returns-then-used-eq0-clause-ok : goal.returns-then-used-eq0-clause-ok
returns-then-used-eq0-clause-ok c =
    let w = c.self.inside in
    no_pad c.args.self.now w.octets.items w.used w.current c.self.view_is c.if-used-eq0.true

pub returns-clause-ok : goal.returns-clause-ok
returns-clause-ok c =
    let w = c.self.inside in
    let f = c.if-used-eq0.false in
    let padding_is =
    pad_here c.args.self.now w.octets.items w.used w.current c.self.view_is c.self.invariant.0 (omega (arith, f)) in
    rw (← padding_is) c.put_few.ensures.ok
