-- What follows of vectors that are kept.
use Rattle.std.proofs.Common.{ℕ, ◌-◌, ◌≤◌, List, length, arith, le_trans}
use Rattle.std.specs.Prelude.{min, max}
use Rattle.identity_slots.specs.declared.profile.Vector.{Vector}
use Rattle.identity_slots.specs.Spending.{HasFrom, KeptView, spent_before}

-- none of them is spent from a later place on
pub from_later : (m n : ℕ) (given : List Vector) (v : KeptView) → HasFrom m given v → m ≤ n → HasFrom n given v
from_later m n given v h le = record { given = h.given; unspent = le_trans h.unspent le }

-- nor from the next one on
pub from_next_place : (n : ℕ) (given : List Vector) (v : KeptView) → HasFrom (n - 1) given v → HasFrom n given v
from_next_place n given v h = from_later (n - 1) n given v h (omega arith)

within : (m n k l : ℕ) → m ≤ k → k ≤ n → max m (min n l) ≤ n
within m n k l a b = omega arith

-- nor where those before it are spent too
pub from_spent : (m n : ℕ) (given : List Vector) (v : KeptView) → HasFrom m given v → m ≤ n → HasFrom n given (spent_before n v)
from_spent m n given v h le = record { given = h.given; unspent = within v.spent n m (length v.given) h.unspent le }
