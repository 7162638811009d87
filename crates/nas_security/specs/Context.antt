-- What a security context keeps.
use Rattle.std.specs.Prelude.{ℕ, List, Option}
use Rattle.eps_keys.specs.declared.direction.DirectionBit.{DirectionBit}

-- an integrity algorithm under its key: the MAC of a count, a direction and a message
abbrev pub Mac : Type 0
Mac = ℕ → DirectionBit → List ℕ → List ℕ

-- the algorithm under its key, the key set identifier, the next downlink count, and the last
-- accepted uplink count
pub record SecurityContextView (I : Type 0) : Type 0 where
  pub integrity : I
  pub ksi : ℕ
  pub down_next : ℕ
  pub up_last : Option ℕ
