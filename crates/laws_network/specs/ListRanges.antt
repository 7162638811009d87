-- The ranges of a list in a RESET: how many items, and each id that an item gives (TS 36.413 clauses 9.1.8.1, 9.2.3.3, 9.2.3.4).
use Rattle.std.specs.Prelude.{ℕ, ◌^◌, ◌<◌, ◌≤◌, length, Option, Some, None}
use Rattle.std.specs.List.{AllByRecursion}
use Rattle.s1ap_elements.specs.declared.reset.ListedAssociation.{ListedAssociation}
use Rattle.mme_types.specs.Listed.{ToReset}

-- an id, where it is given
abbrev pub IsBelow : ℕ → Option ℕ → Type 0
IsBelow bound None = Unit {0}
IsBelow bound (Some id) = id < bound

pub record AssociationInRange (a : ListedAssociation) : Type 0 where
  pub mme_ue_id : IsBelow (2 ^ 32) a.mme_ue_id
  pub enb_ue_id : IsBelow (2 ^ 24) a.enb_ue_id

pub record ListInRange (items : ToReset) : Type 0 where
  pub some : 1 ≤ length items
  pub few : length items ≤ 256
  pub each : AllByRecursion (λ i. AssociationInRange i.value) items
