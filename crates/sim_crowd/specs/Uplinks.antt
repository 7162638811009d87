-- A message that a station sends to the MME: which station, and the octets of S1AP.
use Rattle.std.specs.Prelude.{ℕ, List}

-- a message to the MME: its station and its octets
pub record UplinkView : Type 0 where
  pub station : ℕ
  pub octets : List ℕ
