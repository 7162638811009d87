-- S1AP messages by their kinds and the ids of the association that they name.
use Rattle.std.specs.Prelude.{◌≡◌, ◌⊎◌, ℕ, List, Option, Some, None, Result, Ok, Err}
use Rattle.s1ap_elements.specs.declared.phone.UeS1apIds.{UeS1apIds}
use Rattle.s1ap_elements.specs.declared.phone.UeS1apIds.TheVariants.{Pair, MmeUeId}
use Rattle.s1ap_rows.specs.declared.fault.S1apFault.{S1apFault}
use Rattle.s1ap_pdus.specs.declared.pdu.Pdu.{Pdu}
use Rattle.s1ap_pdus.specs.declared.pdu.Pdu.TheVariants as pdu
use Rattle.s1ap_pdus.specs.Pdus.{decoded}
use Rattle.c_codecs.specs.declared.fault.CodecFault.{CodecFault}
use Rattle.c_codecs.specs.declared.fault.CodecFault.TheVariants.{NoMemory}
use Rattle.c_codecs.specs.declared.s1ap.S1apMessage.{S1apMessage}
use Rattle.c_codecs.specs.Faults.{of_s1ap}

-- a message that names no association, one of its ids, or both
abbrev pub of_none : ℕ → S1apMessage
of_none kind = record { kind = kind; mme_ue_id = None; enb_ue_id = None }

abbrev pub of_enb : ℕ → ℕ → S1apMessage
of_enb kind enb_ue_id = record { kind = kind; mme_ue_id = None; enb_ue_id = Some enb_ue_id }

abbrev pub of_both : ℕ → ℕ → ℕ → S1apMessage
of_both kind mme_ue_id enb_ue_id = record { kind = kind; mme_ue_id = Some mme_ue_id; enb_ue_id = Some enb_ue_id }

abbrev pub of_ids : ℕ → UeS1apIds → S1apMessage
of_ids kind (Pair ids) = of_both kind ids.mme_ue_id ids.enb_ue_id
of_ids kind (MmeUeId id) = record { kind = kind; mme_ue_id = Some id; enb_ue_id = None }

-- the kind of a message, counted from 1 in the order of the clauses of TS 36.413, and its ids
abbrev pub summary : Pdu (List ℕ) → S1apMessage
summary (pdu.S1SetupRequest m) = of_none 1
summary (pdu.S1SetupResponse m) = of_none 2
summary (pdu.S1SetupFailure m) = of_none 3
summary (pdu.InitialUeMessage m) = of_enb 4 m.enb_ue_id
summary (pdu.DownlinkNasTransport m) = of_both 5 m.mme_ue_id m.enb_ue_id
summary (pdu.UplinkNasTransport m) = of_both 6 m.mme_ue_id m.enb_ue_id
summary (pdu.NasNonDeliveryIndication m) = of_both 7 m.mme_ue_id m.enb_ue_id
summary (pdu.UeCapabilityInfoIndication m) = of_both 8 m.mme_ue_id m.enb_ue_id
summary (pdu.InitialContextSetupRequest m) = of_both 9 m.mme_ue_id m.enb_ue_id
summary (pdu.InitialContextSetupResponse m) = of_both 10 m.mme_ue_id m.enb_ue_id
summary (pdu.InitialContextSetupFailure m) = of_both 11 m.mme_ue_id m.enb_ue_id
summary (pdu.UeContextReleaseRequest m) = of_both 12 m.mme_ue_id m.enb_ue_id
summary (pdu.UeContextReleaseCommand m) = of_ids 13 m.ids
summary (pdu.UeContextReleaseComplete m) = of_both 14 m.mme_ue_id m.enb_ue_id
summary (pdu.Paging m) = of_none 15
summary (pdu.PathSwitchRequest m) = of_both 16 m.source_mme_ue_id m.enb_ue_id
summary (pdu.PathSwitchRequestAcknowledge m) = of_both 17 m.mme_ue_id m.enb_ue_id
summary (pdu.PathSwitchRequestFailure m) = of_both 18 m.mme_ue_id m.enb_ue_id
summary (pdu.Reset m) = of_none 19
summary (pdu.ResetAcknowledge m) = of_none 20
summary (pdu.ErrorIndication m) = record { kind = 21; mme_ue_id = m.mme_ue_id; enb_ue_id = m.enb_ue_id }

abbrev pub summed : Result (Pdu (List ℕ)) S1apFault → Result S1apMessage CodecFault
summed (Ok m) = Ok (summary m)
summed (Err fault) = Err (of_s1ap fault)

-- what octets are answered: the message that they spell or their fault, or memory ran out
abbrev pub Summed : List ℕ → Result S1apMessage CodecFault → Type 0
Summed octets result = (result ≡ Err NoMemory) ⊎ (result ≡ summed (decoded octets))
