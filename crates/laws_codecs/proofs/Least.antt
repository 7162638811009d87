-- What the tables of widths answer is least: one bit or one octet fewer holds no number of the row.
use Rattle.std.proofs.Common.{ℕ, ◌-◌, ◌^◌, ◌<◌, ◌≤◌, inl, inr, ◌⊎◌, arith}
use Rattle.std.proofs.lemmas.Grind.{common_steps}
use Rattle.std.proofs.lemmas.Bool.{cases_lt}
use Rattle.std.proofs.Math.Pow.{pow_mono}
use Rattle.per_streams.specs.Numbers.{octets_for, width_of}
use Rattle.per_streams.specs.NumberLaws.{octets-fit}
use Rattle.per_bits.specs.LargeLaws.{octets-some}
use Rattle.laws_codecs.specs.Least.{AreFewestOctets, IsLeastWidth}
use Rattle.laws_codecs.proofs.Unspelled.{no_more}

width_holds : (n : ℕ) → n < 256 → n < 2 ^ width_of n
unfolding width_of
width_holds n lt = grind (arith, common_steps, lt)

width_floor : (n : ℕ) → 1 ≤ width_of n → 2 ^ (width_of n - 1) ≤ n
unfolding width_of
width_floor n some = grind (arith, common_steps, some)

-- where fewer hold nothing of what is at least 2 ^ (f (w - 1)), no fewer than w hold it
width_by : (n k : ℕ) → (k < width_of n) ⊎ (width_of n ≤ k) → n < 2 ^ k → width_of n ≤ k
width_by n k (inl fewer) holds =
    let floor = width_floor n (omega (arith, fewer)) in
    let under = pow_mono {i = k} {j = width_of n - 1} (omega (arith, fewer)) in
    absurd (omega (arith, floor, under, holds))
width_by n k (inr enough) holds = enough

pub width_is_least : (n : ℕ) → n < 256 → IsLeastWidth n (width_of n)
width_is_least n small = record {
  holds = width_holds n small;
  least = λ k holds. width_by n k (cases_lt k (width_of n)) holds;
}

pub octets_are_fewest : (n : ℕ) → n < 2 ^ 64 → AreFewestOctets n (octets_for n)
octets_are_fewest n small = record {
  some = octets-some n;
  hold = octets-fit n small;
  fewest = λ k some hold. no_more n k some (cases_lt k (octets_for n)) hold;
}
