-- What holds of the states that a restore takes.
use Rattle.std.specs.Prelude.{◌≡◌, ℕ, ◌++◌, true, List, length, replicate}
use Rattle.per_bits.specs.Formats.{Value}
use Rattle.identity_slots.specs.declared.profile.Vector.{Vector}
use Rattle.emm_state.specs.declared.setting.Setting.{Setting}
use Rattle.emm_state.specs.Taking.{vectors_spent}
use Rattle.emm_machine.specs.Freshness.{IsInUse}
use Rattle.laws_subscriber.specs.Clocked.{IsClocked}
use Rattle.laws_subscriber.specs.Sound.{IsSound}
use Rattle.mme_core.specs.Remembered.{husk, kasme_in}
use Rattle.snapshot_formats.specs.Formats.{saved_state}
use Rattle.snapshot_states.specs.Fit.{fits}
use Rattle.snapshot_states.specs.States.{named_state}

-- a state is sound where husks of its context's KASME stand for the vectors that are spent
abbrev pub FitsAreSound : Type 0
FitsAreSound =
    (s : Setting) (spent : ℕ) (rest : List Vector) (v : Value saved_state) → fits spent (length rest) v ≡ true
    → s.vectors ≡ replicate spent (husk (kasme_in (named_state spent v).context)) ++ rest → IsSound s (named_state spent v)

-- its countdowns are those of its phase
abbrev pub FitsAreClocked : Type 0
FitsAreClocked = (spent unspent : ℕ) (v : Value saved_state) → fits spent unspent v ≡ true → IsClocked (named_state spent v)

-- no vector of its context can become one again
abbrev pub FitsAreInUse : Type 0
FitsAreInUse = (spent unspent : ℕ) (v : Value saved_state) → fits spent unspent v ≡ true → IsInUse (named_state spent v)

-- and as many of its vectors are spent
abbrev pub FitsAreSpent : Type 0
FitsAreSpent = (spent : ℕ) (v : Value saved_state) → vectors_spent (named_state spent v) ≡ spent
