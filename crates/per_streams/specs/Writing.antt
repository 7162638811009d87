-- Writing whole numbers after the bits so far.
use Rattle.std.specs.Prelude.{◌≡◌, ℕ, ◌-◌, ◌^◌, ◌&&◌, Bool, if◌then◌else◌, nat_le, nat_lt, List, ◌++◌, length, Result, Ok, Err}
use Rattle.per_streams.specs.declared.fault.PerFault.{PerFault}
use Rattle.per_streams.specs.declared.fault.PerFault.TheVariants.{Range}
use Rattle.per_streams.specs.declared.fault.PerError.{PerError}
use Rattle.per_streams.specs.Bits.{Fails}
use Rattle.per_streams.specs.Numbers.{whole}

-- What a function returned, and what it left, is what writing gives, unless memory ran out.
abbrev pub Wrote : {X : Type 0} → Result X PerError → List Bool → Result (List Bool) PerFault → Type 0
Wrote (Ok x) after write = write ≡ Ok after
Wrote (Err e) after write = Fails e write

unfoldable pub write_number : ℕ → ℕ → ℕ → List Bool → Result (List Bool) PerFault
write_number lo hi n out =
    if nat_le lo n && (nat_le n hi && nat_lt (n - lo) (2 ^ 64)) then Ok (out ++ whole lo hi n (length out))
    else Err Range
