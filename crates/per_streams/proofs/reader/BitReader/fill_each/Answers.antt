use Rattle.std.proofs.Common.{◌≤◌, take, length, arith, ◌∙◌, refl}
use Rattle.std.proofs.lemmas.List.{take_more_set, take_all}
use Rattle.per_streams.specs.Bits.{number_bits_at}
use Rattle.per_streams.specs.Each.{times}
use Rattle.per_streams.specs.Times.{goes_on, is_done}
use Rattle.per_streams.specs.WholeOctets.{whole_is, bits_below, all_there, left_after}
use Rattle.per_streams.proofs.reader.BitReader.fill_each.Goals as goal

pub returns-in_err-octet : goal.returns-in_err-octet
returns-in_err-octet c =
    let room = c.loop-octet.invariant.room in
    let more = c.loop-octet-test.true in
    absurd (all_there 8 c.loop-octet.self c.in_err-octet.field-0.0 (omega (arith, room, more)) c.in_err-octet.ensures)

pub overflow_cast-octet : goal.overflow_cast-octet
overflow_cast-octet c = omega (arith, bits_below 8 _ _ _ c.in_ok-octet.ensures)

pub loop-octet-preserved : goal.loop-octet-preserved
loop-octet-preserved c =
    let r = number_bits_at 8 in
    let n = length c.args.out.now in
    let room = c.loop-octet.invariant.room in
    let more = c.loop-octet-test.true in
    let here : 8 ≤ length c.loop-octet.self.rest = omega (arith, room, more) in
    let left = left_after 8 c.loop-octet.self c.in_ok-octet.field-0 c.take_bits.new.self here c.in_ok-octet.ensures in
    record {
      so_far =
          rw (take_more_set c.loop-octet.octet-items c.loop-octet.octet-index c.in_ok-octet.field-0
          (let e = c.loop-octet.auto.octet-items in omega (arith, e, more)))
          (goes_on r
          (take c.loop-octet.octet-index c.loop-octet.octet-items) n c.loop-octet.octet-index c.loop-octet.self
          c.in_ok-octet.field-0 c.take_bits.new.self
          (times r n c.args.self.now) more c.in_ok-octet.ensures c.loop-octet.invariant.so_far);
      room = omega (arith, room, more, left);
    }

pub returns-clause-reads : goal.returns-clause-reads
returns-clause-reads c =
    let r = number_bits_at 8 in
    let n = length c.args.out.now in
    whole_is n c.args.self.now
    ∙ is_done r (take c.loop-octet.octet-index c.loop-octet.octet-items) n c.loop-octet.octet-index c.loop-octet.self
    (times r n c.args.self.now) c.loop-octet-test.false c.loop-octet.invariant.so_far
    ∙ rw (take_all c.loop-octet.octet-index c.loop-octet.octet-items
    (let e = c.loop-octet.auto.octet-items in let t = c.loop-octet-test.false in omega (arith, e, t))) refl
