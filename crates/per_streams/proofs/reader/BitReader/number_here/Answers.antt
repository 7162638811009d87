use Rattle.std.proofs.Common.{arith}
use Rattle.std.proofs.lemmas.Result.{err_from_is_err_and}
use Rattle.per_streams.specs.OctetLaws.{exact_whole_octets}
use Rattle.per_streams.specs.WholeOctets.{octets_number, octets_no_number}
use Rattle.per_streams.proofs.reader.BitReader.number_here.Goals as goal

pub returns-in_err-octets : goal.returns-in_err-octets
returns-in_err-octets c =
    let p = err_from_is_err_and c.from_residual.result c.from_residual.ensures.1 in
    rw (p.1, p.2) (octets_no_number c.args.count c.args.self.now c.in_err-octets.field-0.0 c.in_err-octets.ensures)

pub number_of_octets-requires : goal.number_of_octets-requires
number_of_octets-requires c =
    let k = (exact_whole_octets c.args.count).takes _ _ _ c.in_ok-octets.ensures in omega (arith, k.spelled.0, c.requires.most)

pub returns : goal.returns
returns c =
    rw c.number_of_octets.ensures
    (octets_number c.args.count c.args.self.now c.octets_here.new.self c.in_ok-octets.octets.now c.in_ok-octets.ensures)
