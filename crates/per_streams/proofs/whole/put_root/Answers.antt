use Rattle.std.proofs.Common.{◌≡◌, ℕ, ◌+◌, ◌-◌, ◌*◌, ◌^◌, ◌<◌, ◌≤◌, Bool, false, List, [], ◌∷◌, ◌++◌, Ok, Err, refl, sym, ap, ◌∙◌, append_assoc, arith}
use Rattle.std.proofs.lemmas.Bool.{le-leb, lt-leb, lt-ltb}
use Rattle.std.proofs.Math.Pow.{pow_mono}
use Rattle.per_streams.specs.declared.fault.PerFault.TheVariants.{Range}
use Rattle.per_streams.specs.Bits.{bits}
use Rattle.per_streams.specs.BitLaws.{bits-zero}
use Rattle.per_streams.specs.PartLaws.{bits-join}
use Rattle.per_streams.specs.Numbers.{offset_bits, width_of}
use Rattle.per_streams.specs.Writing.{write_number}
use Rattle.per_streams.proofs.whole.put_root.Goals as goal

-- a zero bit and a number are one number
marked : (last n wide : ℕ) (out : List Bool) → last < 128 → n ≤ last → n < 2 ^ wide → wide ≡ width_of last
    → write_number 0 last n (out ++ false ∷ []) ≡ Ok (out ++ bits (1 + wide) n)
unfolding write_number offset_bits
marked last n wide out small le fits same =
    let off : n - 0 ≡ n = omega (arith) in
    let span : last - 0 ≡ last = omega (arith) in
    let alone : n ≡ 0 * 2 ^ wide + n = omega (arith) in
    let both : bits (1 + wide) n ≡ false ∷ bits wide n =
    ap (bits (1 + wide)) alone ∙ bits-join 1 wide 0 n (omega (arith)) fits ∙ ap (λ (l : List Bool). l ++ bits wide n) (bits-zero 1) in
    rw (
      le-leb 0 n (omega (arith)),
      le-leb n last le,
      off,
      span,
      lt-ltb n (2 ^ 64) (omega (arith, small, le)),
      lt-ltb last 255 (omega (arith, small)),
      both,
      same,
    )
    (ap (λ (l : List Bool). Ok l) (append_assoc out (false ∷ []) (bits (width_of last) n)))

refused : (last n : ℕ) (out : List Bool) → last < n → write_number 0 last n out ≡ Err Range
unfolding write_number
refused last n out many = rw (le-leb 0 n (omega (arith)), lt-leb n last many) refl

pub returns-then-number-last : goal.returns-then-number-last
returns-then-number-last c = refused c.args.last c.args.number (c.args.writer.now ++ false ∷ []) c.if-number-last.true

pub put_bits-requires-clause-fits : goal.put_bits-requires-clause-fits
put_bits-requires-clause-fits c =
    let le = c.if-number-last.false in
    let f = c.width.ensures.fits in
    let more = pow_mono {i = c.width.result} {j = 1 + c.width.result} (omega arith) in
    omega (arith, le, f, more)

pub returns : goal.returns
returns c =
    let le = c.if-number-last.false in
    let f = c.width.ensures.fits in
    marked c.args.last c.args.number c.width.result c.args.writer.now c.if-last-ge128.false le (omega (arith, le, f))
    c.width.ensures.exact
    ∙ ap (λ (l : List Bool). Ok l) (sym c.in_ok-put_bits.ensures.ok)
