-- What RESET resets keeps its names.
use Rattle.std.proofs.Common.{◌≡◌, ℕ, List, [], ◌∷◌, refl, ap, inl, inr, ◌⊎◌}
use Rattle.per_bits.specs.Formats.{Value, either, enumerated, last}
use Rattle.s1ap_elements.specs.Formats.{associations_to_reset, associations_reset, reset_type}
use Rattle.s1ap_elements.specs.Resets.{AssociationToReset, AssociationReset, typed_reset_all, named_reset_all, typed_listed_association, named_listed_association, typed_associations_to_reset, named_associations_to_reset, typed_associations_reset, named_associations_reset, typed_reset_type, named_reset_type}
use Rattle.s1ap_elements.specs.declared.reset.ResetAll.{ResetAll}
use Rattle.s1ap_elements.specs.declared.reset.ResetAll.TheVariants as reset
use Rattle.s1ap_elements.specs.declared.reset.ResetType.{ResetType}
use Rattle.s1ap_elements.specs.declared.reset.ResetType.TheVariants.{All, Part}
use Rattle.s1ap_elements.specs.ListLaws.{map_back}
use Rattle.s1ap_causes.specs.NameLaws.{Spelled, chosen_spelled, left_spelled, names_again}

reset_all_again : (a : ResetAll) → named_reset_all (typed_reset_all a) ≡ a
reset_all_again reset.ResetAll = refl
reset_all_again (reset.Extended n) = refl

pub associations_to_reset_again : (xs : List AssociationToReset)
    → named_associations_to_reset (typed_associations_to_reset xs) ≡ xs
associations_to_reset_again xs =
    map_back (λ a. (typed_listed_association a.value, tt)) (λ x. record { value = named_listed_association x.0 }) (λ a. refl) xs

pub associations_to_reset_spelled : (v : Value associations_to_reset)
    → typed_associations_to_reset (named_associations_to_reset v) ≡ v
associations_to_reset_spelled v =
    map_back (λ x. record { value = named_listed_association x.0 }) (λ a. (typed_listed_association a.value, tt)) (λ x. refl) v

pub associations_reset_again : (xs : List AssociationReset)
    → named_associations_reset (typed_associations_reset xs) ≡ xs
associations_reset_again xs =
    map_back (λ a. (typed_listed_association a.value, tt)) (λ x. record { value = named_listed_association x.0 }) (λ a. refl) xs

pub associations_reset_spelled : (v : Value associations_reset) → typed_associations_reset (named_associations_reset v) ≡ v
associations_reset_spelled v =
    map_back (λ x. record { value = named_listed_association x.0 }) (λ a. (typed_listed_association a.value, tt)) (λ x. refl) v

pub reset_type_again : (t : ResetType) → named_reset_type (typed_reset_type t) ≡ t
reset_type_again (All a) = ap (λ x. All x) (reset_all_again a)
reset_type_again (Part xs) = ap (λ x. Part x) (associations_to_reset_again xs)

reset_all_spelled : (v : ℕ ⊎ ℕ) → Spelled (enumerated 0) v → typed_reset_all (named_reset_all v) ≡ v
reset_all_spelled (inl k) s = names_again typed_reset_all (reset.ResetAll ∷ []) reset.ResetAll 0 (refl, tt) refl k s
reset_all_spelled (inr k) s = refl

whole_spelled : (v : ℕ ⊎ ℕ) → Spelled reset_type (inl v) → Spelled (enumerated 0) v
whole_spelled v s =
    left_spelled (enumerated 0) (last associations_to_reset) v
    (chosen_spelled (either (enumerated 0) (last associations_to_reset)) (inl v) s)

pub reset_type_spelled : (v : Value reset_type) → Spelled reset_type v → typed_reset_type (named_reset_type v) ≡ v
reset_type_spelled (inl v) s = ap (λ (x : ℕ ⊎ ℕ). inl x) (reset_all_spelled v (whole_spelled v s))
reset_type_spelled (inr v) s = ap (λ (x : Value associations_to_reset). inr x) (associations_to_reset_spelled v)
