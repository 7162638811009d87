use Rattle.std.proofs.Common.{◌∙◌}
use Rattle.per_streams.specs.WholeOctets.{finished}
use Rattle.per_streams.proofs.writer.BitWriter.finish.Goals as goal

pub returns-clause-ok : goal.returns-clause-ok
returns-clause-ok c =
    let w = c.self.inside in
    finished w.octets.items w.used w.current c.args.self c.self.invariant.0 c.self.invariant.2
    (c.self.view_is ∙ c.in_ok-align.ensures.ok)
