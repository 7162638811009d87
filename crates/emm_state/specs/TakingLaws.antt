-- What follows of the vector that a state takes next.
use Rattle.std.proofs.Common.{◌≡◌, ℕ, ◌-◌, ◌≤◌, List, arith, le_refl, subst}
use Rattle.identity_slots.specs.declared.profile.Vector.{Vector}
use Rattle.identity_slots.specs.Spending.{HasFrom, KeptView}
use Rattle.identity_slots.specs.SpendingLaws.{from_later}
use Rattle.emm_state.specs.declared.solo.Phase.{Phase}
use Rattle.emm_state.specs.declared.solo.Phase.TheVariants.{Authenticating}
use Rattle.emm_state.specs.declared.solo.Solo.{Solo}
use Rattle.emm_state.specs.Taking.{next_place, vectors_spent}

within : (p : Phase) (next : ℕ) → next_place p next ≤ next
within Authenticating next = omega arith
within _ next = le_refl next

-- where none is spent that a state may yet ask for, its next one isn't
pub from_next : (s : Solo) (given : List Vector) (v : KeptView) → HasFrom (vectors_spent s) given v → HasFrom s.next_vector given v
from_next s given v h = from_later (vectors_spent s) s.next_vector given v h (within s.phase s.next_vector)

-- nor, while a challenge is out, that of the challenge
pub from_challenged : (s : Solo) (given : List Vector) (v : KeptView) → s.phase ≡ Authenticating → HasFrom (vectors_spent s) given v
    → HasFrom (s.next_vector - 1) given v
from_challenged s given v is h = subst (λ (p : Phase). HasFrom (next_place p s.next_vector) given v) is h
