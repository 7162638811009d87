-- What is asked of a session.
use Rattle.std.specs.Prelude.{ℕ, List, Option, Some, None, Result, Ok, Err}
use Rattle.identity_slots.specs.Provisioned.{slot_of_imsi}
use Rattle.emm_machine.specs.declared.subscriber.States.{States}
use Rattle.trace_progress.specs.Effects.{states_of_imsi}
use Rattle.c_session.specs.declared.refusal.Refusal.{Refusal}
use Rattle.c_session.specs.declared.refusal.Refusal.TheVariants.{UnknownImsi}
use Rattle.c_session.specs.declared.session.Session.{Session}
use Rattle.c_session.specs.Arguments.{imsi_of}
use Rattle.c_session.specs.Refusals.{◌>>=◌}
use Rattle.c_session.specs.Sessions.{world_in}

-- what somebody has, where somebody has the IMSI
abbrev pub known : {A : Type 0} → Option A → Result A Refusal
known None = Err UnknownImsi
known (Some x) = Ok x

-- the states of the subscriber of an IMSI
abbrev pub states_of : Session → List ℕ → Result States Refusal
states_of s imsi = imsi_of imsi >>= (λ i. world_in s.progress >>= (λ world. known (states_of_imsi i world)))

-- its slot
abbrev pub slot_of : Session → List ℕ → Result ℕ Refusal
slot_of s imsi = imsi_of imsi >>= (λ i. world_in s.progress >>= (λ world. known (slot_of_imsi i world.sight.profiles)))
