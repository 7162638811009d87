use Rattle.std.proofs.Common.{◌≡◌, ℕ, ◌+◌, ◌*◌, ◌^◌, ◌<◌, ◌≤◌, List, [], suc, length, take, get_or, refl, arith}
use Rattle.std.proofs.lemmas.List.{length-take-le, flat_map_more}
use Rattle.std.proofs.Math.Pow.{pow_mono}
use Rattle.std.proofs.Math.Seq.{take-suc}
use Rattle.per_streams.specs.Bits.{value, bits, octet_bits, IsBytes}
use Rattle.per_streams.specs.BitLaws.{value_below, value-bits, length-bits, length-octet_bits}
use Rattle.per_streams.specs.PartLaws.{value-append}
use Rattle.per_streams.proofs.reader.number_of_octets.Goals as goal

one_more : (os : List ℕ) (i : ℕ) → IsBytes os → i < length os
    → value (octet_bits (take i os)) * 256 + get_or os i 0 ≡ value (octet_bits (take (i + 1) os))
one_more os i bytes lt =
    let next = get_or os i 0 in
    let e : i + 1 ≡ suc i = omega arith in
    rw (
      e,
      take-suc os i 0 lt,
      ← flat_map_more (bits 8) [] (take i os) next,
      value-append (octet_bits (take i os)) (bits 8 next),
      length-bits 8 next,
      value-bits 8 next (bytes i),
    ) refl

below : (os : List ℕ) (i : ℕ) → length os ≤ 8 → i ≤ length os → value (octet_bits (take i os)) < 2 ^ 64
below os i few le =
    let front = octet_bits (take i os) in
    let len : length front ≤ 64 = omega (arith, length-octet_bits (take i os), length-take-le i os le, few) in
    omega (arith, value_below front, pow_mono {i = length front} {j = 64} len)

pub loop-octet-init : goal.loop-octet-init
unfolding value
loop-octet-init c = refl

pub overflow_mul-number : goal.overflow_mul-number
overflow_mul-number c =
    let os = c.args.octets.now in
    let i = c.loop-octet.octet-index in
    let more = one_more os i (λ k. let fits = c.type_inv.octets k in omega (arith, fits)) c.loop-octet-test.true in
    omega (arith, c.loop-octet.invariant, more, below os (i + 1) c.requires (omega (arith, c.loop-octet-test.true)))

pub overflow_add-number : goal.overflow_add-number
overflow_add-number c =
    let os = c.args.octets.now in
    let i = c.loop-octet.octet-index in
    let more = one_more os i (λ k. let fits = c.type_inv.octets k in omega (arith, fits)) c.loop-octet-test.true in
    omega (
      arith,
      c.loop-octet.invariant,
      c.from.ensures,
      more,
      below os (i + 1) c.requires (omega (arith, c.loop-octet-test.true)),
    )

pub loop-octet-preserved : goal.loop-octet-preserved
loop-octet-preserved c =
    let os = c.args.octets.now in
    let i = c.loop-octet.octet-index in
    rw (c.loop-octet.invariant, c.from.ensures) (one_more os i (λ k. let fits = c.type_inv.octets k in omega (arith, fits)) c.loop-octet-test.true)
