-- Which vector a state takes next.
use Rattle.std.specs.Prelude.{ℕ, ◌-◌, ◌≤◌}
use Rattle.emm_state.specs.declared.solo.Phase.{Phase}
use Rattle.emm_state.specs.declared.solo.Phase.TheVariants.{Authenticating}
use Rattle.emm_state.specs.declared.solo.Solo.{Solo}

-- the least place of a vector that may yet become a context: while a challenge is out that of its vector, which was taken last
abbrev pub next_place : Phase → ℕ → ℕ
next_place Authenticating next = next - 1
next_place _ next = next

-- how many vectors are spent, which no step asks for again: those before that place
abbrev pub vectors_spent : Solo → ℕ
vectors_spent s = next_place s.phase s.next_vector

-- a state that asks for no vector that was spent before it
abbrev pub IsOnward : Solo → Solo → Type 0
IsOnward old new = vectors_spent old ≤ vectors_spent new
