-- A bit string of a fixed length as it is kept: up to 64 bits as one number, more than 64 one by one.
use Rattle.std.specs.Prelude.{◌≡◌, ℕ, ◌<◌, ◌≤◌, ◌^◌, List, Bool, length, if◌then◌else◌, nat_le}
use Rattle.std.proofs.Common.{refl}
use Rattle.std.proofs.lemmas.Bool.{le-leb, lt-leb, eqb-true}
use Rattle.per_streams.specs.Octet.{IsLong}
use Rattle.per_streams.specs.Bits.{bits, value}
use Rattle.per_streams.specs.BitLaws.{length-bits, value-bits}
use Rattle.per_bits.specs.declared.kept.Kept.{Kept}
use Rattle.per_bits.specs.declared.kept.Kept.TheVariants.{Number, Each}

abbrev pub kept_bits : {n : ℕ} → Kept n → List Bool
kept_bits {n} (Number k) = bits n k
kept_bits {n} (Each bs) = bs

abbrev pub IsKept : {n : ℕ} → Kept n → Type 0
IsKept {n} (Number k) = (n ≤ 64) × (k < 2 ^ n)
IsKept {n} (Each bs) = (64 < n) × IsLong n bs

unfoldable pub kept_of : (n : ℕ) → List Bool → Kept n
kept_of n bs = if nat_le n 64 then Number (value bs) else Each bs

pub kept-back : {n : ℕ} (k : Kept n) → IsKept k → kept_of n (kept_bits k) ≡ k
unfolding kept_of
kept-back {n} (Number k) h = rw (le-leb n 64 h.0, value-bits n k h.1) refl
kept-back {n} (Each bs) h = rw (lt-leb n 64 h.0) refl

pub length-kept : {n : ℕ} (k : Kept n) → IsKept k → length (kept_bits k) ≡ n
length-kept {n} (Number k) h = length-bits n k
length-kept {n} (Each bs) h = eqb-true (length bs) n h.1
