-- The fewest bits and the fewest octets that hold a number (X.691 clauses 11.3 and 11.5): relations that don't know how they
-- are found.
use Rattle.std.specs.Prelude.{ℕ, ◌*◌, ◌^◌, ◌<◌, ◌≤◌}

-- the least number of bits that holds n
pub record IsLeastWidth (n width : ℕ) : Type 0 where
  pub holds : n < 2 ^ width
  pub least : (k : ℕ) → n < 2 ^ k → width ≤ k

-- the fewest octets that hold n, at least one
pub record AreFewestOctets (n octets : ℕ) : Type 0 where
  pub some : 1 ≤ octets
  pub hold : n < 2 ^ (8 * octets)
  pub fewest : (k : ℕ) → 1 ≤ k → n < 2 ^ (8 * k) → octets ≤ k
