-- What becomes of a step where vectors come late: it is the same with more vectors, or it asked for one when none was left.
use Rattle.std.specs.Prelude.{◌≡◌, ◌⊎◌, List, ◌++◌, slice_get, None}
use Rattle.identity_slots.specs.declared.profile.Vector.{Vector}
use Rattle.mme_types.specs.Events.{Item}
use Rattle.emm_state.specs.declared.setting.Setting.{Setting}
use Rattle.emm_state.specs.declared.solo.Phase.TheVariants.{Deregistered}
use Rattle.emm_state.specs.declared.solo.Solo.{Solo}
use Rattle.emm_machine.specs.Given.{having}
use Rattle.emm_machine.specs.Steps.{solo_step}
use Rattle.laws_subscriber.specs.Sound.{IsSound}

-- with further vectors at the end of the list the step is the same
abbrev pub GoesOn : Setting → Solo → Item → Type 0
GoesOn s solo item = (more : List Vector) → solo_step (having (s.vectors ++ more) s) solo item ≡ solo_step s solo item

-- none is left, and the phone is deregistered: it is refused and forgotten
pub record RanOut (s : Setting) (solo : Solo) (item : Item) : Type 0 where
  pub none : slice_get s.vectors solo.next_vector ≡ None
  pub away : (solo_step s solo item).solo.phase ≡ Deregistered

-- one or the other, at every step
abbrev pub GoesOnOrRanOut : Type 0
GoesOnOrRanOut = (s : Setting) (solo : Solo) (item : Item) → IsSound s solo → GoesOn s solo item ⊎ RanOut s solo item
