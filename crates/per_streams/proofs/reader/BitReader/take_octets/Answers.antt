use Rattle.std.proofs.Common.{refl}
use Rattle.std.proofs.lemmas.Result.{err_from_is_err_and}
use Rattle.per_streams.specs.Bits.{aligned_octets_at}
use Rattle.per_streams.specs.BitLaws.{aligned_at}
use Rattle.per_streams.proofs.reader.BitReader.take_octets.Goals as goal

pub returns-in_err-align : goal.returns-in_err-align
unfolding aligned_octets_at
returns-in_err-align c =
    let p = err_from_is_err_and c.from_residual.result c.from_residual.ensures.1 in
    rw (p.1, p.2, c.in_err-align.ensures) refl

pub octets_here-requires : goal.octets_here-requires
octets_here-requires c = aligned_at _ _ c.in_ok-align.ensures

pub returns : goal.returns
unfolding aligned_octets_at
returns c = rw c.in_ok-align.ensures c.octets_here.ensures
