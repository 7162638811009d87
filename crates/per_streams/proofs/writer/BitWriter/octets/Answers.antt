use Rattle.std.proofs.Common.{sym, ap, ◌∙◌, ◌/◌, length, List, Bool}
use Rattle.per_streams.specs.PlaceLaws.{whole_octets}
use Rattle.per_streams.proofs.writer.BitWriter.octets.Goals as goal

pub returns : goal.returns
returns c =
    let w = c.self.inside in
    c.len.ensures ∙ w.octets.ok.0 ∙ sym (whole_octets w.octets.items w.used w.current c.self.invariant.0)
    ∙ ap (λ (l : List Bool). length l / 8) c.self.view_is
