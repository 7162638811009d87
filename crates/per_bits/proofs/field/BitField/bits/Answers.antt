use Rattle.std.proofs.Common.{◌≡◌, length, ap, sym, ◌∙◌}
use Rattle.std.proofs.lemmas.List.{length-set}
use Rattle.per_bits.specs.Kept.{length-kept}
use Rattle.per_bits.proofs.FieldLaws.{bits_more, bits_all}
use Rattle.per_bits.proofs.field.BitField.bits.Goals as goal

pub loop-i-preserved : goal.loop-i-preserved
loop-i-preserved g c =
    let long : length c.args.self.now ≡ g.row.N =
    sym (ap length c.self.view_is) ∙ length-kept c.self.inside.kept c.self.invariant in
    record {
      long = length-set c.loop-i.bits c.loop-i.i c.bit.result ∙ c.loop-i.invariant.long;
      so_far =
          rw c.bit.ensures
          (bits_more c.loop-i.bits c.args.self.now g.row.N c.loop-i.i c.loop-i.invariant.long long c.loop-i-test.true
          c.loop-i.invariant.so_far);
    }

pub returns : goal.returns
returns g c =
    let long : length c.args.self.now ≡ g.row.N =
    sym (ap length c.self.view_is) ∙ length-kept c.self.inside.kept c.self.invariant in
    bits_all c.loop-i.bits c.args.self.now g.row.N c.loop-i.i c.loop-i.invariant.long long c.loop-i-test.false
    c.loop-i.invariant.so_far
