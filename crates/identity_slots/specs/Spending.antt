-- Vectors that are kept until they are spent.
use Rattle.std.specs.Prelude.{◌≡◌, ◌⊎◌, ℕ, ◌-◌, ◌^◌, ◌<◌, ◌≤◌, min, max, List, drop, length}
use Rattle.identity_slots.specs.declared.profile.Vector.{Vector}
use Rattle.identity_slots.specs.Forgetting.{first_forgotten}

-- what a contract sees of them
pub record KeptView : Type 0 where
  pub given : List Vector  -- all, as they were given
  pub spent : ℕ  -- how many are spent: of these XRES and KASME are overwritten

-- where those before a place are spent too, as far as there are any
abbrev pub spent_before : ℕ → KeptView → KeptView
spent_before place v = record v { spent = max v.spent (min place (length v.given)) }

-- no more are taken: 64 aren't spent, or 2^62 were given
abbrev pub IsStocked : KeptView → Type 0
IsStocked v = (64 ≤ length v.given - v.spent) ⊎ (2 ^ 62 ≤ length v.given)

-- what is in memory of vectors, the first of which are spent: those from a base on, before which all are spent
pub record IsWindow (base spent : ℕ) (given kept : List Vector) : Type 0 where
  pub items : kept ≡ drop base (first_forgotten spent given)
  pub based : base ≤ spent
  pub within : spent ≤ length given
  pub small : length given < 2 ^ 63

-- these vectors, none of them spent from a place on
pub record HasFrom (place : ℕ) (vectors : List Vector) (v : KeptView) : Type 0 where
  pub given : v.given ≡ vectors
  pub unspent : v.spent ≤ place
