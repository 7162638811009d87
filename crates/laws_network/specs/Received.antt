-- What a station's octets tell of phones is in range: the ids, the NAS octets and the tracking area, and the lists of a RESET.
use Rattle.std.specs.Prelude.{◌≡◌, ℕ, List, Some, Ok}
use Rattle.s1ap_elements.specs.declared.reset.ResetType.TheVariants.{Part}
use Rattle.s1ap_pdus.specs.declared.pdu.InitialUeMessage.{InitialUeMessage}
use Rattle.s1ap_pdus.specs.declared.pdu.Pdu.{Pdu}
use Rattle.s1ap_pdus.specs.declared.pdu.Pdu.TheVariants as pdu
use Rattle.s1ap_pdus.specs.declared.pdu.Reset.{Reset}
use Rattle.s1ap_pdus.specs.Pdus.{decoded}
use Rattle.mme_types.specs.declared.event.UeMessage.{UeMessage}
use Rattle.mme_types.specs.Listed.{ToReset}
use Rattle.mme_routing.specs.Outcomes.{entry_of, ue_message_in}
use Rattle.laws_network.specs.SubscriberRanges.{EntryInRange, MessageInRange}
use Rattle.laws_network.specs.ListRanges.{ListInRange}

-- INITIAL UE MESSAGE
abbrev pub EntriesAreInRange : Type 0
EntriesAreInRange =
    (os : List ℕ) (e : ℕ) (m : InitialUeMessage (List ℕ)) → decoded os ≡ Ok (pdu.InitialUeMessage m) → EntryInRange (entry_of e m)

-- a message with an MME UE S1AP ID
abbrev pub MessagesAreInRange : Type 0
MessagesAreInRange =
    (os : List ℕ) (e : ℕ) (p : Pdu (List ℕ)) (m : UeMessage (List ℕ)) → decoded os ≡ Ok p → ue_message_in e p ≡ Some m
    → MessageInRange m

-- RESET of a part
abbrev pub ResetsAreInRange : Type 0
ResetsAreInRange =
    (os : List ℕ) (m : Reset) (items : ToReset) → decoded os ≡ Ok (pdu.Reset m) → m.reset_type ≡ Part items → ListInRange items
