-- Messages of one part at most, with no optional element that is kept.
use Rattle.std.specs.Prelude.{List, [], Result, Ok, Err}
use Rattle.nas_elements.specs.declared.fault.NasFault.{NasFault}
use Rattle.nas_elements.specs.declared.rule.Domain.{Domain}
use Rattle.nas_elements.specs.Parts.{Part}
use Rattle.nas_elements.specs.Rows.{Row}

abbrev pub simple : Domain → List Part → Row
simple domain parts = record { parts = parts; domain = domain; kept = [] }

-- what a function of the code returned, as a row has it
abbrev pub in_row : {X Y : Type 0} → (X → Y) → Result X NasFault → Result Y NasFault
in_row view (Ok x) = Ok (view x)
in_row view (Err e) = Err e
