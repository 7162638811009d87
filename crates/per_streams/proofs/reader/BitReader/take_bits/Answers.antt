use Rattle.std.proofs.Common.{◌≡◌, length, Err, refl, ap, sym, ◌∙◌, arith}
use Rattle.std.proofs.lemmas.Result.{err_from_is_err_and}
use Rattle.per_streams.specs.Bits.{Place, number_bits_at}
use Rattle.per_streams.specs.PartLaws.{nothing_left}
use Rattle.per_streams.specs.WholeOctets.{bits_left}
use Rattle.per_streams.proofs.reader.BitReader.take_bits.Goals as goal

pub returns-in_err-part : goal.returns-in_err-part
returns-in_err-part c =
    let p = err_from_is_err_and c.from_residual.result c.from_residual.ensures.1 in
    let within = c.is_in_one_octet.ensures.0 c.if-is_in_one_octet.true in
    let short : number_bits_at c.args.count c.args.self.now ≡ Err c.in_err-part.field-0.0 =
    nothing_left c.args.count c.args.self.now c.in_err-part.ensures.1 within.0 ∙ ap (λ f. Err f) (sym c.in_err-part.ensures.0) in
    rw (p.1, p.2, short) refl

pub take_from_octets-requires-clause-octets : goal.take_from_octets-requires-clause-octets
take_from_octets-requires-clause-octets c =
    let r = c.self.inside in
    let rest = ap (λ (p : Place). length p.rest) c.self.view_is in
    let left = bits_left r.octets.now r.begun r.left r.current in
    omega (arith, rest, left, c.if-self-eq0.true)
