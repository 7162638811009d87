-- Numbers in the fewest octets.
use Rattle.std.proofs.Common.{◌≡◌, ℕ, zero, suc, ◌-◌, ◌*◌, ◌^◌, ◌<◌, ◌≤◌, arith}
use Rattle.std.proofs.lemmas.Grind.{common_steps}
use Rattle.per_streams.specs.Numbers.{octets_for, width_of}

pub octets-fit : (n : ℕ) → n < 2 ^ 64 → n < 2 ^ (8 * octets_for n)
unfolding octets_for
octets-fit n lt = grind (arith, common_steps, lt)

pub octets-mono : (n m : ℕ) → n ≤ m → octets_for n ≤ octets_for m
unfolding octets_for
octets-mono n m le = grind (arith, common_steps, le)

pub wide_some : (n : ℕ) → 65536 ≤ n → 0 < width_of (octets_for n - 1)
unfolding octets_for width_of
wide_some n le = grind (arith, common_steps, le)

-- a number that is below 2 ^ 8k and no number of one octet less has k octets
pub octets-are : (k n : ℕ) → 1 ≤ k → k ≤ 8 → n < 2 ^ (8 * k) → 2 ^ (8 * (k - 1)) ≤ n → octets_for n ≡ k
unfolding octets_for
octets-are zero n some most lt le = grind (arith, some)
octets-are (suc zero) n some most lt le = grind (arith, common_steps, lt, le)
octets-are (suc (suc zero)) n some most lt le = grind (arith, common_steps, lt, le)
octets-are (suc (suc (suc zero))) n some most lt le = grind (arith, common_steps, lt, le)
octets-are (suc (suc (suc (suc zero)))) n some most lt le = grind (arith, common_steps, lt, le)
octets-are (suc (suc (suc (suc (suc zero))))) n some most lt le = grind (arith, common_steps, lt, le)
octets-are (suc (suc (suc (suc (suc (suc zero)))))) n some most lt le = grind (arith, common_steps, lt, le)
octets-are (suc (suc (suc (suc (suc (suc (suc zero))))))) n some most lt le = grind (arith, common_steps, lt, le)
octets-are (suc (suc (suc (suc (suc (suc (suc (suc zero)))))))) n some most lt le = grind (arith, common_steps, lt, le)
octets-are (suc (suc (suc (suc (suc (suc (suc (suc (suc k))))))))) n some most lt le = grind (arith, most)

pub octet-is : (n : ℕ) → n < 2 ^ 8 → octets_for n ≡ 1
unfolding octets_for
octet-is n lt = grind (arith, common_steps, lt)

pub octets-least : (n : ℕ) → 2 ≤ octets_for n → 2 ^ (8 * (octets_for n - 1)) ≤ n
unfolding octets_for
octets-least n some = grind (arith, common_steps, some)
