-- A count that is found by one addition.
use Rattle.std.specs.Prelude.{◌≡◌, ℕ, ◌+◌, ◌%◌, ◌<◌, ◌≤◌}

-- a number from first on, less than a whole turn away, with the low bits
pub record IsNear (first bits modulus c : ℕ) : Type 0 where
  pub low : first ≤ c
  pub high : c < first + modulus
  pub same : c % modulus ≡ bits
