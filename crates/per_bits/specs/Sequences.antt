-- What stands in a SEQUENCE after the parts that are kept, and an alternative of a CHOICE.
use Rattle.std.specs.Prelude.{ℕ, Bool, false, List, [], ◌∷◌, ◌++◌, Result}
use Rattle.per_streams.specs.declared.fault.PerFault.{PerFault}
use Rattle.per_streams.specs.Bits.{Place, ◌>>=◌}
use Rattle.per_bits.specs.Formats.{Format, Value, extensions}
use Rattle.per_bits.specs.Reading.{read_at, skipped_at, additions_at}
use Rattle.per_bits.specs.Writing.{write_at}
use Rattle.per_streams.specs.Writing.{write_number}

-- iE-Extensions, then extension additions, each where it stands
abbrev pub later_at : Bool → Bool → Place → Result (Unit {0} × Place) PerFault
later_at extended more s = do
  passed ← skipped_at more (read_at extensions) s
  skipped_at extended additions_at passed.1

-- an alternative's index after an extension bit that is 0, and its value
abbrev pub write_alternative : ℕ → ℕ → (f : Format) → Value f → List Bool → Result (List Bool) PerFault
write_alternative last index f v out = do
  chosen ← write_number 0 last index (out ++ false ∷ [])
  write_at f v chosen
