-- What a contract sees of a state that was prepared.
use Rattle.std.specs.Prelude.{ℕ}
use Rattle.emm_state.specs.declared.solo.Solo.{Solo}

-- a slot, and the state of its machine after an event
pub record SteppedView : Type 0 where
  pub slot : ℕ
  pub solo : Solo
