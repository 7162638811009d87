-- The items of a RESET of a part, as the associations are asked for them.
use Rattle.s1ap_elements.specs.Resets.{AssociationToReset}
use Rattle.association_table.specs.declared.association.Listed.{Listed}

abbrev pub listed_item : AssociationToReset → Listed
listed_item item = record { id = item.value.mme_ue_id; enb_ue_id = item.value.enb_ue_id }
