-- What stands before the value of an element, as octets.
use Rattle.std.proofs.Common.{◌≡◌, ℕ, ◌+◌, ◌-◌, ◌*◌, ◌/◌, ◌%◌, ◌^◌, ◌<◌, ◌≤◌, Bool, false, List, ◌++◌, length, replicate, Ok, Err, refl, sym, ap, ◌∙◌, arith}
use Rattle.std.proofs.lemmas.Bool.{le-leb, lt-leb, lt-ltb}
use Rattle.per_streams.specs.declared.fault.PerFault.TheVariants.{Range}
use Rattle.per_streams.specs.Bits.{bits, pad}
use Rattle.per_streams.specs.BitLaws.{bits-zero}
use Rattle.per_streams.specs.PartLaws.{bits-join}
use Rattle.per_streams.specs.Numbers.{offset_bits, width_of}
use Rattle.per_streams.specs.Writing.{write_number}

pub id_written : (id : ℕ) (out : List Bool) → id < 65536
    → write_number 0 65535 id out ≡ Ok (out ++ (pad (length out) ++ bits 16 id))
unfolding write_number offset_bits
id_written id out small =
    let same : id - 0 ≡ id = omega (arith) in
    rw (
      le-leb 0 id (omega (arith)),
      le-leb id 65535 (omega (arith, small)),
      lt-ltb (id - 0) (2 ^ 64) (omega (arith, small)),
      same,
    ) refl

pub criticality_written : (k : ℕ) (out : List Bool) → k ≤ 2 → write_number 0 2 k out ≡ Ok (out ++ bits 2 k)
unfolding write_number offset_bits width_of
criticality_written k out small =
    let same : k - 0 ≡ k = omega (arith) in
    rw (
      le-leb 0 k (omega (arith)),
      le-leb k 2 small,
      lt-ltb (k - 0) (2 ^ 64) (omega (arith, small)),
      same,
    ) refl

pub criticality_refused : (k : ℕ) (out : List Bool) → 2 < k → write_number 0 2 k out ≡ Err Range
unfolding write_number
criticality_refused k out many = rw (le-leb 0 k (omega (arith)), lt-leb k 2 many) refl

-- a number of two octets
pub two_octets : (n : ℕ) → n < 65536 → bits 8 (n / 256) ++ bits 8 (n % 256) ≡ bits 16 n
two_octets n small =
    let whole : (n / 256) * 2 ^ 8 + n % 256 ≡ n = omega (arith) in
    sym (bits-join 8 8 (n / 256) (n % 256) (omega (arith, small)) (omega (arith))) ∙ ap (bits 16) whole

-- a criticality and the bits up to the next octet
pub mark_octet : (k : ℕ) → k ≤ 2 → bits 8 (k * 64) ≡ bits 2 k ++ replicate 6 false
mark_octet k few =
    let shifted : k * 64 ≡ k * 2 ^ 6 + 0 = omega (arith) in
    ap (bits 8) shifted ∙ bits-join 2 6 k 0 (omega (arith, few)) (omega (arith))
    ∙ ap (λ (l : List Bool). bits 2 k ++ l) (bits-zero 6)
