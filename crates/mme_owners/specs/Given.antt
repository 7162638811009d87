-- A vector more for one of the subscribers.
use Rattle.std.specs.Prelude.{◌≡◌, ◌≢◌, ◌↔◌, ℕ, Bool, true, List, slice_get, Result, Err, IfErr, OnErr, OnOk}
use Rattle.std.specs.Option.{option_map_or}
use Rattle.identity_slots.specs.declared.profile.Vector.{Vector}
use Rattle.identity_slots.specs.declared.provision.ProvisionFault.{ProvisionFault}
use Rattle.identity_slots.specs.declared.provision.ProvisionFault.TheVariants.{Full, NoMemory}
use Rattle.emm_machine.specs.Given.{is_stocked, with_given}
use Rattle.emm_machine.specs.SubscriberView.{SubscriberView}
use Rattle.mme_owners.specs.Changed.{changed_at}

-- the subscriber of a slot has the vector after all others
abbrev pub given_at : ℕ → Vector → List SubscriberView → List SubscriberView
given_at slot v ws = changed_at slot (with_given v) ws

-- whether a slot takes no vector: its subscriber takes none, or nobody has it
abbrev pub is_stocked_at : ℕ → List SubscriberView → Bool
is_stocked_at slot ws = option_map_or is_stocked (slice_get ws slot) true

-- a vector is given to the subscriber of a slot: the answer, and all of them afterwards
pub record TakesOneVector (slot : ℕ) (v : Vector) (old : List SubscriberView) (answer : Result (Unit {0}) ProvisionFault)
    (new : List SubscriberView) : Type 0 where
  -- where the slot takes none it is refused as full, and else for lack of memory alone
  pub full : (answer ≡ Err Full) ↔ (is_stocked_at slot old ≡ true)
  pub fault : IfErr answer (λ fault. fault ≢ NoMemory → fault ≡ Full)
  -- that subscriber has it, and no other is another
  pub given : OnOk answer (new ≡ given_at slot v old)
  -- refused, all are as they were
  pub err : OnErr answer (new ≡ old)
