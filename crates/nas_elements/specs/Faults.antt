-- Which fault an answer that is missing is.
use Rattle.std.specs.Prelude.{Option, Some, None, Result, Ok, Err}
use Rattle.nas_elements.specs.declared.fault.NasFault.{NasFault}
use Rattle.nas_elements.specs.declared.fault.NasFault.TheVariants.{Mandatory, OptionalPart}

-- one reading after another
infixl 10 ◌>>>◌
abbrev pub ◌>>>◌ : {A B : Type 0} → Result A NasFault → (A → Result B NasFault) → Result B NasFault
(Ok x) >>> f = f x
(Err e) >>> f = Err e

abbrev pub mandatory_part : {A : Type 0} → Option A → Result A NasFault
mandatory_part None = Err Mandatory
mandatory_part (Some a) = Ok a

abbrev pub optional_part : {A : Type 0} → Option A → Result A NasFault
optional_part None = Err OptionalPart
optional_part (Some a) = Ok a
