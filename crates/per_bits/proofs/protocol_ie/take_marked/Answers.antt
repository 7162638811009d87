use Rattle.std.proofs.Common.{◌≡◌, ◌%◌, sym, arith}
use Rattle.per_streams.specs.TwoOctets.{past_two, two_stand}
use Rattle.per_streams.specs.WholeOctets.{whole_here}
use Rattle.per_bits.proofs.Marked.{marked_is}
use Rattle.per_bits.proofs.protocol_ie.take_marked.Goals as goal

pub octets_here-requires : goal.octets_here-requires
octets_here-requires c =
    let h = two_stand c.in-Some.head c.args.reader.now (sym c.in-Some.ensures) in
    let whole = h.at in
    rw c.pass_two.ensures (omega (arith, whole))

pub returns-then-count-lt-SHORT_END : goal.returns-then-count-lt-SHORT_END
returns-then-count-lt-SHORT_END c =
    let s = c.args.reader.now in
    let h = two_stand c.in-Some.head s (sym c.in-Some.ensures) in
    let mark = c.is_mark.ensures.0 c.if-is_mark.true in
    let whole = h.at in
    let next : (past_two s).at % 8 ≡ 0 = omega (arith, whole) in
    rw (marked_is _ _ s h mark.0 mark.1 c.if-count-lt-SHORT_END.true, whole_here _ (past_two s) next, ← c.pass_two.ensures)
    c.octets_here.ensures
