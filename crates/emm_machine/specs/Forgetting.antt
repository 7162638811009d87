-- What is forgotten where a state is left for another: the secrets of vectors, and a context.
use Rattle.std.specs.Prelude.{◌≡◌, ◌==◌, Bool, true, false, List, length, min, Option, Some, None, if◌then◌else◌}
use Rattle.identity_slots.specs.declared.profile.Vector.{Vector}
use Rattle.identity_slots.specs.Spending.{KeptView}
use Rattle.emm_state.specs.declared.solo.Context.{Context}
use Rattle.emm_state.specs.declared.solo.Solo.{Solo}
use Rattle.emm_state.specs.Taking.{vectors_spent}

-- these vectors, of which those are spent, and no others, that no step of the state asks for again
pub record AreSpentFor (vectors : List Vector) (solo : Solo) (v : KeptView) : Type 0 where
  pub given : v.given ≡ vectors
  pub spent : v.spent ≡ min (vectors_spent solo) (length vectors)

-- a context goes on where it is of the same vector
abbrev pub goes_on : Option Context → Option Context → Bool
goes_on None new = true
goes_on (Some x) None = false
goes_on (Some x) (Some y) = x.place == y.place

-- a state that was left for a new one: without its context, where that has ended
abbrev pub left_for : Solo → Solo → Solo
left_for new old = if goes_on old.context new.context then old else record old { context = None }
