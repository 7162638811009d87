-- Numbers that stand for something else.
use Rattle.std.specs.Prelude.{Bool, false, true}
use Rattle.per_bits.specs.Formats.{Value}
use Rattle.snapshot_formats.specs.Formats.{flag}

-- 0 for no, 1 for yes
abbrev pub typed_flag : Bool → Value flag
typed_flag false = 0
typed_flag true = 1
