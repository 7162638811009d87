use Rattle.std.proofs.Common.{◌≡◌, ◌+◌, ◌*◌, ◌/◌, ◌%◌, ap, ◌∙◌, arith}
use Rattle.std.proofs.lemmas.Result.{err_from_is_err_and}
use Rattle.std.proofs.Math.Pow.{pow_mono}
use Rattle.per_streams.specs.Bits.{aligned_bits_at}
use Rattle.per_streams.specs.WholeOctets.{bits_below, string_read, string_no_octets, string_no_bits}
use Rattle.per_bits.proofs.bit_string.take_string.Goals as goal

pub returns-in_err-octets-clause-exact : goal.returns-in_err-octets-clause-exact
returns-in_err-octets-clause-exact c =
    let p = err_from_is_err_and c.from_residual.result c.from_residual.ensures.1 in
    let n = c.args.count in
    let sum : n ≡ 8 * (n / 8) + n % 8 = omega arith in
    rw (p.1, p.2)
    (ap (λ k. aligned_bits_at k c.args.reader.now) sum
    ∙ string_no_octets (n / 8) (n % 8) c.args.reader.now c.in_err-octets.field-0.0 c.in_err-octets.ensures)

pub returns-in_err-last-clause-exact : goal.returns-in_err-last-clause-exact
returns-in_err-last-clause-exact c =
    let p = err_from_is_err_and c.from_residual-in_err-last.result c.from_residual-in_err-last.ensures.1 in
    let n = c.args.count in
    let sum : n ≡ 8 * (n / 8) + n % 8 = omega arith in
    rw (p.1, p.2)
    (ap (λ k. aligned_bits_at k c.args.reader.now) sum
    ∙ string_no_bits (n / 8)
    (n % 8) c.args.reader.now c.take_octets.new.self c.in_ok-octets.octets.now c.in_err-last.field-0.0 c.in_ok-octets.ensures
    c.in_err-last.ensures)

pub overflow_cast-last : goal.overflow_cast-last
overflow_cast-last c =
    let below = bits_below (c.args.count % 8) _ _ _ c.in_ok-last.ensures in
    let octet = pow_mono {i = c.args.count % 8} {j = 8} (omega arith) in
    omega (arith, below, octet)

pub returns-clause-exact : goal.returns-clause-exact
returns-clause-exact c =
    let n = c.args.count in
    let sum : n ≡ 8 * (n / 8) + n % 8 = omega arith in
    ap (λ k. aligned_bits_at k c.args.reader.now) sum
    ∙ (string_read (n / 8)
    (n % 8) c.in_ok-last.field-0 c.args.reader.now c.take_octets.new.self c.take_bits.new.self c.in_ok-octets.octets.now
    c.in_ok-octets.ensures c.in_ok-last.ensures).0

pub returns-clause-fits : goal.returns-clause-fits
returns-clause-fits c =
    let n = c.args.count in
    let long =
    (string_read (n / 8)
    (n % 8) c.in_ok-last.field-0 c.args.reader.now c.take_octets.new.self c.take_bits.new.self c.in_ok-octets.octets.now
    c.in_ok-octets.ensures c.in_ok-last.ensures).1 in
    let below = bits_below (n % 8) _ _ _ c.in_ok-last.ensures in
    (omega arith, below, omega (arith, long), omega (arith, long))
