use Rattle.std.proofs.Common.{◌≡◌, ℕ, ◌+◌, ◌-◌, ◌%◌, ◌++◌, ◌∷◌, [], List, length, arith}
use Rattle.std.proofs.lemmas.List.{length-append}
use Rattle.per_streams.specs.Bits.{bits, octet_bits}
use Rattle.per_streams.specs.BitLaws.{length-bits, length-octet_bits}
use Rattle.per_streams.specs.PartLaws.{put_filled, put_full, put_inside}
use Rattle.per_streams.proofs.writer.BitWriter.fill_octet.Goals as goal

nothing_begun : (octets : List ℕ) → length (octet_bits octets ++ bits 0 0) % 8 ≡ 0
nothing_begun octets =
    omega (arith, length-append (octet_bits octets) (bits 0 0), length-octet_bits octets, length-bits 0 0)

pub returns-then-used-le8-clause-ok : goal.returns-then-used-le8-clause-ok
returns-then-used-le8-clause-ok c =
    let w = c.self.inside in
    let size = length-append (octet_bits w.octets.items ++ bits w.used w.current) (bits c.args.count c.args.number) in
    let all = length-bits c.args.count c.args.number in
    let some = c.requires.some in
    rw (← c.self.view_is)
    (put_filled w.octets.items (w.used + c.args.count) c.joined-both.result c.filled.result _ _ (omega (arith, some))
    c.if-used-le8.true
    (omega (arith, size, all))
    (put_inside w.octets.items w.used w.current c.args.count c.args.number c.joined-both.result c.joined-both.ensures.bits)
    c.filled.ensures)

pub returns-clause-ok : goal.returns-clause-ok
returns-clause-ok c =
    let w = c.self.inside in
    let size = length-append (octet_bits w.octets.items ++ bits w.used w.current) (bits c.args.count c.args.number) in
    let all = length-bits c.args.count c.args.number in
    let more = c.if-used-le8.false in
    let few = c.self.invariant.0 in
    let most = c.requires.count in
    let octet = c.split_number-octet.result.0 in
    rw (← c.self.view_is, c.in_ok-push.ensures.items)
    (put_filled (w.octets.items ++ octet ∷ []) (w.used + c.args.count - 8) c.split_number-octet.result.1
    c.filled-2.result _ _ (omega (arith, more)) (omega (arith, few, most)) (omega (arith, size, all))
    (put_full w.octets.items w.used w.current c.args.count c.args.number c.joined-both.result octet
    c.split_number-octet.result.1 c.joined-both.ensures.bits c.split_number-octet.ensures.parts)
    c.filled-2.ensures)

pub returns-then-used-le8-clause-whole : goal.returns-then-used-le8-clause-whole
returns-then-used-le8-clause-whole c = nothing_begun c.self.inside.octets.items

pub returns-clause-whole : goal.returns-clause-whole
returns-clause-whole c = nothing_begun c.push.new.self.items
