-- As what each message is read that an MME sends (TS 36.413 clause 8).
use Rattle.std.specs.Prelude.{◌≡◌, ℕ, Bool, true, false, List, All, Ok}
use Rattle.s1ap_pdus.specs.declared.pdu.Pdu.{Pdu}
use Rattle.s1ap_pdus.specs.declared.pdu.Pdu.TheVariants as pdu
use Rattle.s1ap_pdus.specs.Pdus.{decoded}
use Rattle.mme_answering.specs.declared.out.Out.{Out}
use Rattle.mme_answering.specs.declared.out.Owner.{Owner}
use Rattle.mme_answering.specs.declared.out.Owner.TheVariants.{Station, Stranger, Subscriber}
use Rattle.mme_core.specs.declared.event.Event.{Event}
use Rattle.mme_core.specs.World.{World, reply}

-- ---- the messages that an MME sends

-- for a station itself (TS 36.413 clauses 8.7.1, 8.7.2, 8.7.3, 8.4.4.3)
abbrev pub is_for_station : Pdu (List ℕ) → Bool
is_for_station (pdu.S1SetupResponse m) = true
is_for_station (pdu.S1SetupFailure m) = true
is_for_station (pdu.ResetAcknowledge m) = true
is_for_station (pdu.ErrorIndication m) = true
is_for_station (pdu.PathSwitchRequestFailure m) = true
is_for_station _ = false

-- for a phone that no subscriber is known for: NAS, a release, and what answers a message with its id (TS 36.413 clauses 8.6.2.2,
-- 8.3.3)
abbrev pub is_for_stranger : Pdu (List ℕ) → Bool
is_for_stranger (pdu.DownlinkNasTransport m) = true
is_for_stranger (pdu.UeContextReleaseCommand m) = true
is_for_stranger (pdu.ErrorIndication m) = true
is_for_stranger (pdu.PathSwitchRequestFailure m) = true
is_for_stranger _ = false

-- for a subscriber's phone: a context with radio keys, the next hop, and PAGING besides (TS 36.413 clauses 8.3.1, 8.4.4, 8.5)
abbrev pub is_for_subscriber : Pdu (List ℕ) → Bool
is_for_subscriber (pdu.DownlinkNasTransport m) = true
is_for_subscriber (pdu.UeContextReleaseCommand m) = true
is_for_subscriber (pdu.ErrorIndication m) = true
is_for_subscriber (pdu.PathSwitchRequestFailure m) = true
is_for_subscriber (pdu.InitialContextSetupRequest m) = true
is_for_subscriber (pdu.PathSwitchRequestAcknowledge m) = true
is_for_subscriber (pdu.Paging m) = true
is_for_subscriber _ = false

abbrev pub is_for : Owner → Pdu (List ℕ) → Bool
is_for (Station n) m = is_for_station m
is_for (Stranger id) m = is_for_stranger m
is_for (Subscriber slot) m = is_for_subscriber m

-- ---- what is sent

-- its octets are a message of the grammar, of a kind that its owner is sent
pub record IsReadAsSuch (o : Out) : Type 0 where
  pub message : Pdu (List ℕ)
  pub reads : decoded o.octets ≡ Ok message
  pub kind : is_for o.owner message ≡ true

-- all that is sent at an event, whatever the MME is
abbrev pub EverythingIsOfAnMme : Type 0
EverythingIsOfAnMme = (w : World) (event : Event) (outs : List Out) → reply w event ≡ Ok outs → All IsReadAsSuch outs
