-- That nobody can see what is kept of a phone that left.
use Rattle.std.specs.Prelude.{◌≡◌, List}
use Rattle.mme_types.specs.Events.{Item}
use Rattle.emm_state.specs.declared.setting.Setting.{Setting}
use Rattle.emm_state.specs.declared.solo.Solo.{Solo}
use Rattle.emm_machine.specs.Steps.{solo_after, solo_answers}
use Rattle.emm_machine.specs.Words.{states_of}
use Rattle.laws_mme.specs.Left.{HasLeft}

-- two phones that left: their slots gave as many ids, and the next vector has the same place. The tracking area and what was asked
-- for last may differ
pub record AreAlike (x y : Solo) : Type 0 where
  pub one : HasLeft x
  pub other : HasLeft y
  pub associations : x.associations ≡ y.associations
  pub tmsis : x.tmsis ≡ y.tmsis
  pub next_vector : x.next_vector ≡ y.next_vector

-- they are sent the same over a list of items, item by item, and are in the same states after it
pub record AreToldAlike (s : Setting) (x y : Solo) (items : List Item) : Type 0 where
  pub answers : solo_answers s x items ≡ solo_answers s y items
  pub states : states_of (solo_after s x items) ≡ states_of (solo_after s y items)

abbrev pub NobodySees : Type 0
NobodySees = (s : Setting) (x y : Solo) (items : List Item) → AreAlike x y → AreToldAlike s x y items
