-- Octets that are no S1AP message of the profile: they change nothing, and nobody but their station is sent anything for them.
use Rattle.std.specs.Prelude.{◌≡◌, ◌≤◌, ℕ, List, length, ◌∷◌, ◌++◌, All, Result, Ok}
use Rattle.std.specs.Borrow.{Bor}
use Rattle.s1ap_pdus.specs.declared.pdu.Pdu.{Pdu}
use Rattle.s1ap_pdus.specs.Pdus.{SpellsMessage}
use Rattle.mme_core.specs.declared.event.Event.{Event}
use Rattle.mme_core.specs.declared.event.Event.TheVariants.{In}
use Rattle.mme_core.specs.declared.event.StepFault.{StepFault}
use Rattle.mme_answering.specs.declared.out.Out.{Out}
use Rattle.mme_answering.specs.declared.out.Owner.TheVariants.{Station}
use Rattle.mme_core.specs.World.{World, replies, reply, world_after, world_run}

-- they spell no message of the profile, in whatever order of elements (TS 36.413 clause 10, X.691)
abbrev pub IsGarbage : List ℕ → Type 0
IsGarbage octets = (m : Pdu (List ℕ)) → SpellsMessage m octets → ⊥

-- a message for the station itself, to it
pub record IsForStation (e : ℕ) (o : Out) : Type 0 where
  pub owner : o.owner ≡ Station e
  pub station : o.station ≡ e

-- ---- at an event

-- the MME is as it was, and at most one message is sent, for the station and to it
pub record ReachesNobody (w : World) (e : ℕ) (octets : Bor (List ℕ)) : Type 0 where
  pub same : world_after w (In e octets) ≡ w
  pub told : (outs : List Out) → reply w (In e octets) ≡ Ok outs → (length outs ≤ 1) × All (IsForStation e) outs

abbrev pub GarbageReachesNobody : Type 0
GarbageReachesNobody = (w : World) (e : ℕ) (octets : Bor (List ℕ)) → IsGarbage octets.now → ReachesNobody w e octets

-- ---- over a run

-- wherever it stands in a list, the MME after the list and the replies to all other events are as without it
pub record IsAsWithout (w : World) (seen unseen : List Event) (event : Event) : Type 0 where
  pub after : world_run w (seen ++ event ∷ unseen) ≡ world_run w (seen ++ unseen)
  pub before : List (Result (List Out) StepFault)
  pub own : Result (List Out) StepFault
  pub later : List (Result (List Out) StepFault)
  pub many : length before ≡ length seen
  pub with : replies w (seen ++ event ∷ unseen) ≡ before ++ own ∷ later
  pub without : replies w (seen ++ unseen) ≡ before ++ later

abbrev pub GarbageIsAsNothing : Type 0
GarbageIsAsNothing =
    (w : World) (seen unseen : List Event) (e : ℕ) (octets : Bor (List ℕ)) → IsGarbage octets.now
    → IsAsWithout w seen unseen (In e octets)
