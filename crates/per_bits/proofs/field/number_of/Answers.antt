use Rattle.std.proofs.Common.{◌≡◌, length, sym, arith}
use Rattle.per_bits.proofs.FieldLaws.{first_of, number_more, number_fits, number_all}
use Rattle.per_bits.proofs.field.number_of.Goals as goal

pub loop-bit-init : goal.loop-bit-init
loop-bit-init g c = sym first_of

pub overflow_mul-number : goal.overflow_mul-number
overflow_mul-number g c =
    let long : length c.args.field ≡ g.row.N = omega arith in
    let fits =
    number_fits c.args.field g.row.N c.loop-bit.bit-index c.loop-bit.number long c.requires c.loop-bit-test.true
    c.loop-bit.invariant in
    omega (arith, fits)

pub overflow_add-number : goal.overflow_add-number
overflow_add-number g c =
    let long : length c.args.field ≡ g.row.N = omega arith in
    let fits =
    number_fits c.args.field g.row.N c.loop-bit.bit-index c.loop-bit.number long c.requires c.loop-bit-test.true
    c.loop-bit.invariant in
    omega (arith, fits)

pub loop-bit-preserved : goal.loop-bit-preserved
loop-bit-preserved g c =
    let long : length c.args.field ≡ g.row.N = omega arith in
    number_more c.args.field c.loop-bit.bit-index c.loop-bit.number (omega (arith, long)) c.loop-bit.invariant

pub returns-clause-value : goal.returns-clause-value
returns-clause-value g c =
    let long : length c.args.field ≡ g.row.N = omega arith in
    (number_all c.args.field g.row.N c.loop-bit.bit-index c.loop-bit.number long c.loop-bit-test.false c.loop-bit.invariant).1

pub returns-clause-fits : goal.returns-clause-fits
returns-clause-fits g c =
    let long : length c.args.field ≡ g.row.N = omega arith in
    (number_all c.args.field g.row.N c.loop-bit.bit-index c.loop-bit.number long c.loop-bit-test.false c.loop-bit.invariant).0
