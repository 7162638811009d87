-- Reading whole numbers: what is spelled is answered, and else the fault.
use Rattle.std.specs.Prelude.{ℕ, ◌+◌, ◌-◌, ◌*◌, if◌then◌else◌, nat_le, nat_lt, ◌==◌, Result, Ok, Err}
use Rattle.per_streams.specs.declared.fault.PerFault.{PerFault}
use Rattle.per_streams.specs.declared.fault.PerFault.TheVariants.{Range, NotFewest}
use Rattle.per_streams.specs.Bits.{value, Place, ◌>>=◌, take_at, align_at}
use Rattle.per_streams.specs.Numbers.{width_of, octets_for}

unfoldable pub small_at : ℕ → ℕ → Place → Result (ℕ × Place) PerFault
small_at span w s = do
  x ← take_at w s
  if nat_le (value x.0) span then Ok (value x.0, x.1) else Err Range

abbrev pub aligned_small_at : ℕ → ℕ → Place → Result (ℕ × Place) PerFault
aligned_small_at span w s = align_at s >>= λ a. small_at span w a.1

unfoldable pub large_at : ℕ → Place → Result (ℕ × Place) PerFault
large_at span s = do
  n ← small_at (octets_for span - 1) (width_of (octets_for span - 1)) s
  a ← align_at n.1
  x ← take_at (8 * (n.0 + 1)) a.1
  if nat_le (value x.0) span then (if octets_for (value x.0) == n.0 + 1 then Ok (value x.0, x.1) else Err NotFewest) else Err Range

unfoldable pub offset_at : ℕ → Place → Result (ℕ × Place) PerFault
offset_at span s =
    if nat_lt span 255 then small_at span (width_of span) s
    else if nat_lt span 256 then aligned_small_at span 8 s
    else if nat_lt span 65536 then aligned_small_at span 16 s
    else large_at span s

unfoldable pub number_at : ℕ → ℕ → Place → Result (ℕ × Place) PerFault
number_at lo hi s = do
  x ← offset_at (hi - lo) s
  Ok (lo + x.0, x.1)
