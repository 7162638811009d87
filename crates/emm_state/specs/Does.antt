-- What an action that may be stopped does.
use Rattle.std.specs.Prelude.{◌≡◌, Option, Some, None, Result, Ok, Err}
use Rattle.emm_state.specs.declared.draft.StepStop.{StepStop}
use Rattle.emm_state.specs.declared.draft.StepStop.TheVariants.{Spent, NoMemory}

-- one action after another; none where a downlink count is spent
infixl 10 ◌>>=◌
abbrev pub ◌>>=◌ : {A B : Type 0} → Option A → (A → Option B) → Option B
(Some x) >>= f = f x
None >>= f = None

-- it leaves what the action gives, or a count is spent there, or memory ran out
abbrev pub Does : {D : Type 0} → Result (Unit {0}) StepStop → D → Option D → Type 0
Does (Ok done) new after = after ≡ Some new
Does (Err Spent) new after = after ≡ None
Does (Err NoMemory) new after = Unit {0}

-- the same, with a value
abbrev pub Makes : {X D : Type 0} → Result X StepStop → D → Option (X × D) → Type 0
Makes (Ok x) new after = after ≡ Some (x, new)
Makes (Err Spent) new after = after ≡ None
Makes (Err NoMemory) new after = Unit {0}
