-- Which associations a list in a RESET means (TS 36.413 clause 8.7.1.2.2).
use Rattle.std.specs.Prelude.{ℕ, ◌==◌, ◌&&◌, ◌||◌, Bool, true, List, Option, Some, None, is_some}
use Rattle.std.specs.List.{list_any}
use Rattle.s1ap_pdus.specs.s1ap_elements.declared.reset.ListedAssociation.{ListedAssociation}
use Rattle.s1ap_pdus.specs.s1ap_elements.Resets.{AssociationToReset}

-- what a RESET of a part names, item by item
abbrev pub ToReset : Type 0
ToReset = List AssociationToReset

-- an id that is given has to be the association's
abbrev pub agrees : Option ℕ → ℕ → Bool
agrees None id = true
agrees (Some given) id = given == id

-- an item that gives an id, and whose ids are the association's
abbrev pub matches : ℕ → ℕ → ListedAssociation → Bool
matches mme_ue_id enb_ue_id item =
    (is_some item.mme_ue_id || is_some item.enb_ue_id) && (agrees item.mme_ue_id mme_ue_id && agrees item.enb_ue_id enb_ue_id)

-- some item matches the association with these ids
abbrev pub is_listed : ℕ → ℕ → ToReset → Bool
is_listed mme_ue_id enb_ue_id items = list_any (λ item. matches mme_ue_id enb_ue_id item.value) items
