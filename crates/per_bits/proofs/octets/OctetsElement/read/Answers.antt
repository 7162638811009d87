use Rattle.std.proofs.Common.{◌∙◌}
use Rattle.std.proofs.lemmas.List.{length-replicate}
use Rattle.per_streams.specs.OctetLaws.{exact_whole_octets}
use Rattle.per_streams.specs.WholeOctets.{octets_fit}
use Rattle.per_bits.proofs.octets.OctetsElement.read.Goals as goal

pub invariant_of-result : goal.invariant_of-result
invariant_of-result g c =
    let k = (exact_whole_octets _).takes _ _ _ c.in_ok-fill.ensures.reads in
    octets_fit g.row.N c.fill.new.out (k.spelled.0 ∙ length-replicate g.row.N _) k.spelled.1
