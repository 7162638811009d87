-- What RESET resets, by its names, and as its format has it.
use Rattle.std.specs.Prelude.{ℕ, List, [], ◌∷◌, get_or, map, ◌⊎◌}
use Rattle.std.proofs.Common.{inl, inr}
use Rattle.per_bits.specs.Formats.{Value, left_of, right_of}
use Rattle.s1ap_elements.specs.declared.container.Listed.{Listed}
use Rattle.s1ap_elements.specs.Ids as id
use Rattle.s1ap_elements.specs.Formats.{reject, ignore, listed_association, associations_to_reset, associations_reset, reset_type}
use Rattle.s1ap_elements.specs.declared.reset.ResetAll.{ResetAll}
use Rattle.s1ap_elements.specs.declared.reset.ResetAll.TheVariants as reset
use Rattle.s1ap_elements.specs.declared.reset.ListedAssociation.{ListedAssociation}
use Rattle.s1ap_elements.specs.declared.reset.ResetType.{ResetType}
use Rattle.s1ap_elements.specs.declared.reset.ResetType.TheVariants.{All, Part}

abbrev pub typed_reset_all : ResetAll → ℕ ⊎ ℕ
typed_reset_all reset.ResetAll = left_of 0
typed_reset_all (reset.Extended n) = right_of n

abbrev pub named_reset_all : ℕ ⊎ ℕ → ResetAll
named_reset_all (inl n) = get_or (reset.ResetAll ∷ []) n reset.ResetAll
named_reset_all (inr n) = reset.Extended n

abbrev pub typed_listed_association : ListedAssociation → Value listed_association
typed_listed_association a = (a.mme_ue_id, (a.enb_ue_id, tt))

abbrev pub named_listed_association : Value listed_association → ListedAssociation
named_listed_association v = record { mme_ue_id = v.0; enb_ue_id = v.1.0 }

-- an element of the associations that are to be reset
abbrev pub AssociationToReset : Type 0
AssociationToReset = Listed ListedAssociation id.ue_associated_logical_s1_connection_item reject

abbrev pub typed_associations_to_reset : List AssociationToReset → Value associations_to_reset
typed_associations_to_reset xs = map (λ a. (typed_listed_association a.value, tt)) xs

abbrev pub named_associations_to_reset : Value associations_to_reset → List AssociationToReset
named_associations_to_reset v = map (λ x. record { value = named_listed_association x.0 }) v

-- an element of the associations that were reset
abbrev pub AssociationReset : Type 0
AssociationReset = Listed ListedAssociation id.ue_associated_logical_s1_connection_item ignore

abbrev pub typed_associations_reset : List AssociationReset → Value associations_reset
typed_associations_reset xs = map (λ a. (typed_listed_association a.value, tt)) xs

abbrev pub named_associations_reset : Value associations_reset → List AssociationReset
named_associations_reset v = map (λ x. record { value = named_listed_association x.0 }) v

abbrev pub typed_reset_type : ResetType → Value reset_type
typed_reset_type (All a) = left_of (typed_reset_all a)
typed_reset_type (Part xs) = right_of (typed_associations_to_reset xs)

abbrev pub named_reset_type : Value reset_type → ResetType
named_reset_type (inl a) = All (named_reset_all a)
named_reset_type (inr xs) = Part (named_associations_to_reset xs)
