use Rattle.std.proofs.Common.{ℕ, ◌≡◌, ◌<◌, ◌+◌, [], ◌∷◌, length, slice_index, map, take, arith, ap, length-append}
use Rattle.std.proofs.lemmas.Str.{encode_ascii}
use Rattle.std.proofs.lemmas.List.{take_more, map-append}
use Rattle.nas_elements.specs.DigitLaws.{digits_small}
use Rattle.nas_elements.proofs.imsi.text_of.Goals as goal

pub overflow_add-digit : goal.overflow_add-digit
overflow_add-digit c =
    let l = digits_small c.args.digits.now c.requires.small c.loop-digit.digit-index (omega arith) in omega (arith, l)

pub push-requires : goal.push-requires
push-requires c =
    let l = digits_small c.args.digits.now c.requires.small c.loop-digit.digit-index (omega arith) in
    let small : c.from.result < 128 = omega (arith, l, c.from.ensures) in
    let one = ap length (encode_ascii c.from.result small) in
    (omega arith, omega (arith, one, c.loop-digit.invariant.1, c.requires.few, c.loop-digit-test.true))

pub loop-digit-preserved : goal.loop-digit-preserved
loop-digit-preserved c =
    let l = digits_small c.args.digits.now c.requires.small c.loop-digit.digit-index (omega arith) in
    let small : c.from.result < 128 = omega (arith, l, c.from.ensures) in
    let bytes = c.push.ensures.ascii small in
    let more = ap (map (λ (d : ℕ). 48 + d)) (take_more c.args.digits.now c.loop-digit.digit-index 0 c.loop-digit-test.true) in
    let both =
    map-append (λ (d : ℕ). 48 + d) (take c.loop-digit.digit-index c.args.digits.now)
    (slice_index c.args.digits.now c.loop-digit.digit-index ∷ []) in
    let text : c.push.new.self.bytes ≡ map (λ (d : ℕ). 48 + d) (take (c.loop-digit.digit-index + 1) c.args.digits.now) =
    cc (more, both, bytes, c.loop-digit.invariant.0, c.from.ensures) in
    (text, omega (arith, ap length bytes, length-append c.loop-digit.text.bytes (c.from.result ∷ []), c.loop-digit.invariant.1))
