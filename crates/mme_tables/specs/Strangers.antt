-- What a caller sees of the table.
use Rattle.std.specs.Prelude.{ℕ, List}
use Rattle.stranger_machine.specs.declared.table.Known.{Known}

pub record StrangerTable : Type 0 where
  pub clock : ℕ
  pub strangers : List Known  -- by rising id, each as it is now
