use Rattle.std.proofs.Common.{◌≡◌, ◌-◌, ◌^◌, ◌<◌, Err, refl, ap, sym, subst, ◌∙◌, arith}
use Rattle.std.proofs.lemmas.Result.{err_from_is_err_and}
use Rattle.std.proofs.Math.Pow.{pow_mono}
use Rattle.per_streams.specs.Bits.{number_bits_at}
use Rattle.per_streams.specs.PartLaws.{part_read, part_fits, all_read, nothing_left, continued_none}
use Rattle.per_streams.specs.WholeOctets.{bits_below}
use Rattle.per_streams.proofs.reader.BitReader.take_parts.Goals as goal

pub loop-wanted-init : goal.loop-wanted-init
loop-wanted-init c = record {
  so_far = continued_none c.args.count (number_bits_at c.args.count c.args.self.now);
  fits = (let e : c.args.count - c.args.count ≡ 0 = omega arith in subst (λ k. 0 < 2 ^ k) (sym e) (omega arith));
  most = omega arith;
}

pub returns-in_err-some : goal.returns-in_err-some
returns-in_err-some c =
    let p = err_from_is_err_and c.from_residual.result c.from_residual.ensures.1 in
    let l = c.loop-wanted in
    let short : number_bits_at l.wanted l.self ≡ Err c.in_err-some.field-0.0 =
    nothing_left l.wanted l.self c.in_err-some.ensures.1 c.loop-wanted-test.true ∙ ap (λ f. Err f) (sym c.in_err-some.ensures.0) in
    rw (p.1, p.2, ← l.invariant.so_far, short) refl

pub with_part-number-requires-clause-fits : goal.with_part-number-requires-clause-fits
with_part-number-requires-clause-fits c =
    let l = c.loop-wanted in
    let i = l.invariant in
    let o = c.in_ok-some.ensures in
    let few = c.requires in
    let below = bits_below c.in_ok-some.some l.self c.in_ok-some.part c.take_part.new.self o.3 in
    let fits = part_fits l.number c.in_ok-some.part c.in_ok-some.some c.args.count l.wanted o.1 i.most i.fits below in
    let most = pow_mono {i = c.args.count - (l.wanted - c.in_ok-some.some)} {j = 64} (omega (arith, few)) in
    omega (arith, fits, most)

pub loop-wanted-preserved : goal.loop-wanted-preserved
loop-wanted-preserved c =
    let l = c.loop-wanted in
    let i = l.invariant in
    let o = c.in_ok-some.ensures in
    let below = bits_below c.in_ok-some.some l.self c.in_ok-some.part c.take_part.new.self o.3 in
    record {
      so_far =
          rw c.with_part-number.ensures
          (part_read l.number c.in_ok-some.part c.in_ok-some.some l.wanted l.self c.take_part.new.self
          (number_bits_at c.args.count c.args.self.now) o.1 o.3 i.so_far);
      fits =
          rw c.with_part-number.ensures
          (part_fits l.number c.in_ok-some.part c.in_ok-some.some c.args.count l.wanted o.1 i.most i.fits below);
      most = (let m = i.most in omega (arith, m));
    }

pub returns : goal.returns
returns c =
    let l = c.loop-wanted in
    let none = c.loop-wanted-test.false in
    all_read l.number l.wanted l.self (number_bits_at c.args.count c.args.self.now) (omega (arith, none)) l.invariant.so_far
