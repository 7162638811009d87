use Rattle.std.proofs.Common.{◌≡◌, ◌-◌, ◌*◌, ◌+◌, ◌/◌, ◌%◌, length, take, drop, sym, ap, ◌∙◌, ◌++◌, List, Bool, arith}
use Rattle.std.proofs.lemmas.List.{length-take-le}
use Rattle.std.proofs.lemmas.Result.{on_ok_weaker}
use Rattle.per_streams.specs.Bits.{bits}
use Rattle.per_bits.proofs.OpenLaws.{counted_in_two, two_octets}
use Rattle.per_bits.proofs.Passing.{wrote_if}
use Rattle.per_bits.proofs.open.count_after.Goals as goal

pub returns : goal.returns
returns c =
    let old = c.args.writer.now in
    let place = c.args.place in
    let n = c.octets.result - place - 1 in
    let first = 128 + n / 256 in
    let front = take (8 * place) old in
    let rest = drop (8 * place + 8) old in
    let told = c.octets.ensures in
    let short = c.if-length-ge-LONG_END.false in
    let long = c.if-length-lt-SHORT_END.false in
    let room = c.requires in
    let many : length old / 8 - place - 1 ≡ n = omega (arith, told) in
    let size : length front ≡ 8 * place = length-take-le (8 * place) old (omega (arith, room)) in
    let both = two_octets first (n % 256) front rest place size in
    let mid = c.set_octet-2.ensures in
    wrote_if c.insert_octet.new.self _ c.insert_octet.result
    (on_ok_weaker c.insert_octet.result
    (λ h. counted_in_two place n old c.insert_octet.new.self many (omega (arith, short)) (omega (arith, long))
    (sym (h ∙ ap (λ (l : List Bool). take (8 * (place + 1)) l ++ (bits 8 (n % 256) ++ drop (8 * (place + 1)) l)) mid ∙ both)))
    c.insert_octet.ensures.ok)
    c.insert_octet.ensures.memory
