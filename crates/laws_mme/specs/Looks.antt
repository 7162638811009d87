-- Which vectors a step of one subscriber's machine looks at: two places of the list at most. So vectors may come late.
use Rattle.std.specs.Prelude.{◌≡◌, ◌-◌, true, List, [], ◌∷◌, ◌++◌, slice_get, IsSome}
use Rattle.identity_slots.specs.declared.profile.Vector.{Vector}
use Rattle.mme_types.specs.Events.{Item}
use Rattle.emm_state.specs.declared.setting.Setting.{Setting}
use Rattle.emm_state.specs.declared.solo.Phase.TheVariants.{Authenticating}
use Rattle.emm_state.specs.declared.solo.Solo.{Solo}
use Rattle.emm_machine.specs.Given.{having}
use Rattle.emm_machine.specs.Steps.{solo_after, solo_answers, solo_step}
use Rattle.laws_subscriber.specs.Sound.{IsSound}
use Rattle.laws_mme.specs.Challenges.{may_challenge}

-- ---- another list of vectors

-- two lists have the same vectors where a step looks
pub record LooksSame (vs us : List Vector) (solo : Solo) (item : Item) : Type 0 where
  -- the next one, where the item may have the phone challenged
  pub next : may_challenge solo item ≡ true → slice_get vs solo.next_vector ≡ slice_get us solo.next_vector
  -- while a challenge is out its own
  pub challenged : solo.phase ≡ Authenticating → slice_get vs (solo.next_vector - 1) ≡ slice_get us (solo.next_vector - 1)

-- then the step is the same: all that it sends and accepts, and the state after it
abbrev pub StepsLookAtTwo : Type 0
StepsLookAtTwo =
    (s : Setting) (vs : List Vector) (solo : Solo) (item : Item) → LooksSame vs s.vectors solo item
    → solo_step (having vs s) solo item ≡ solo_step s solo item

-- at each item of a list
abbrev pub LooksSameAlong : Setting → List Vector → Solo → List Item → Type 0
LooksSameAlong s vs solo [] = Unit {0}
LooksSameAlong s vs solo (item ∷ items) = LooksSame vs s.vectors solo item × LooksSameAlong s vs (solo_step s solo item).solo items

-- then the run is the same
pub record RunsSame (s t : Setting) (solo : Solo) (items : List Item) : Type 0 where
  pub answers : solo_answers t solo items ≡ solo_answers s solo items
  pub state : solo_after t solo items ≡ solo_after s solo items

abbrev pub RunsLookAtTwo : Type 0
RunsLookAtTwo =
    (s : Setting) (vs : List Vector) (solo : Solo) (items : List Item) → LooksSameAlong s vs solo items
    → RunsSame s (having vs s) solo items

-- ---- vectors that come late

-- there is a vector where the item may have the phone challenged
abbrev pub HasOneLeft : List Vector → Solo → Item → Type 0
HasOneLeft vs solo item = may_challenge solo item ≡ true → IsSome (slice_get vs solo.next_vector)

-- at each item of a list
abbrev pub NeverRunsOut : Setting → Solo → List Item → Type 0
NeverRunsOut s solo [] = Unit {0}
NeverRunsOut s solo (item ∷ items) = HasOneLeft s.vectors solo item × NeverRunsOut s (solo_step s solo item).solo items

-- where none is asked for that isn't there, the run is the same with further vectors at the end of the list
abbrev pub VectorsMayComeLate : Type 0
VectorsMayComeLate =
    (s : Setting) (more : List Vector) (solo : Solo) (items : List Item) → IsSound s solo → NeverRunsOut s solo items
    → RunsSame s (having (s.vectors ++ more) s) solo items
