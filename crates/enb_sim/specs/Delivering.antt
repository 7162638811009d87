-- What a station makes of the MME's messages.
use Rattle.std.specs.Prelude.{ℕ, ◌==◌, ◌&&◌, Bool, true, false, not, find, filter, if◌then◌else◌, List, [], ◌∷◌, ◌++◌, Option, Some, None, Result, Ok, Err, option_map}
use Rattle.std.specs.List.{list_any}
use Rattle.std.specs.Borrow.{Bor}
use Rattle.s1ap_elements.specs.Bearers.{ErabToBeSetupItem}
use Rattle.s1ap_elements.specs.declared.phone.UeIdPair.{UeIdPair}
use Rattle.s1ap_elements.specs.declared.phone.UeS1apIds.{UeS1apIds}
use Rattle.s1ap_elements.specs.declared.phone.UeS1apIds.TheVariants.{Pair, MmeUeId}
use Rattle.s1ap_rows.specs.declared.fault.S1apFault.{S1apFault}
use Rattle.s1ap_pdus.specs.declared.pdu.Pdu.{Pdu}
use Rattle.s1ap_pdus.specs.declared.pdu.Pdu.TheVariants as pdu
use Rattle.s1ap_pdus.specs.Pdus.{decoded, encoded, listed}
use Rattle.enb_sim.specs.declared.delivering.Delivery.{Delivery}
use Rattle.enb_sim.specs.declared.delivering.PhoneNas.{PhoneNas}
use Rattle.enb_sim.specs.declared.profile.StationProfile.{StationProfile}
use Rattle.enb_sim.specs.Sending.{complete_pdu, context_pdu}

-- a station: what never changes of it, whether it is set up, and the associations that it holds, by their two numbers
pub record StationView : Type 0 where
  pub profile : StationProfile
  pub ready : Bool
  pub pairs : List UeIdPair

-- a NAS message for the phone of an association
pub record PhoneNasView : Type 0 where
  pub pair : UeIdPair
  pub nas : List ℕ

-- what a station answers by S1AP, what it hands to a phone, and what it is then
pub record Delivered : Type 0 where
  pub octets : Option (List ℕ)
  pub nas : Option PhoneNasView
  pub station : StationView

-- what a call answered, without where octets lie in memory, and the station after it
abbrev pub seen_nas : PhoneNas → PhoneNasView
seen_nas n = record { pair = n.pair; nas = n.nas.now }

abbrev pub seen_delivery : Delivery → StationView → Delivered
seen_delivery d s = record { octets = option_map (λ o. o.items) d.octets; nas = option_map seen_nas d.nas; station = s }

-- ---- associations

abbrev pub is_pair : UeIdPair → UeIdPair → Bool
is_pair a b = a.mme_ue_id == b.mme_ue_id && a.enb_ue_id == b.enb_ue_id

abbrev pub holds_pair : UeIdPair → List UeIdPair → Bool
holds_pair pair pairs = list_any (λ p. is_pair p pair) pairs

abbrev pub with_pair : UeIdPair → List UeIdPair → List UeIdPair
with_pair pair pairs = if holds_pair pair pairs then pairs else pairs ++ pair ∷ []

abbrev pub without_pair : UeIdPair → List UeIdPair → List UeIdPair
without_pair pair pairs = filter (λ p. not (is_pair p pair)) pairs

-- that with this number of the MME
abbrev pub pair_of : ℕ → List UeIdPair → Option UeIdPair
pair_of mme_ue_id pairs = find (λ p. p.mme_ue_id == mme_ue_id) pairs

-- ---- each message

abbrev pub pair_with : ℕ → ℕ → UeIdPair
pair_with mme_ue_id enb_ue_id = record { mme_ue_id = mme_ue_id; enb_ue_id = enb_ue_id }

abbrev pub unmoved : StationView → Delivered
unmoved s = record { octets = None; nas = None; station = s }

abbrev pub holding : UeIdPair → StationView → StationView
holding pair s = record s { pairs = with_pair pair s.pairs }

abbrev pub handed : UeIdPair → Option (List ℕ) → Option PhoneNasView
handed pair None = None
handed pair (Some nas) = Some (record { pair = pair; nas = nas })

-- the first of the bearers to be set up: its number, and the NAS message beside it
abbrev pub first_bearer : List (ErabToBeSetupItem (List ℕ)) → Option (ℕ × Option (List ℕ))
first_bearer [] = None
first_bearer (e ∷ es) = Some (e.value.id, e.value.nas)

-- without where the message lies in memory
abbrev pub seen_bearer : Option (ℕ × Option (Bor (List ℕ))) → Option (ℕ × Option (List ℕ))
seen_bearer None = None
seen_bearer (Some found) = Some (found.0, listed found.1)

-- a context for the first bearer
abbrev pub served : UeIdPair → Option (ℕ × Option (List ℕ)) → StationView → Delivered
served pair None s = unmoved (holding pair s)
served pair (Some found) s =
    record { octets = encoded (context_pdu s.profile pair found.0); nas = handed pair found.1; station = holding pair s }

abbrev pub ended : Option UeIdPair → StationView → Delivered
ended None s = unmoved s
ended (Some pair) s =
    record { octets = encoded (complete_pdu pair); nas = None; station = record s { pairs = without_pair pair s.pairs } }

abbrev pub named_pair : UeS1apIds → List UeIdPair → Option UeIdPair
named_pair (Pair pair) pairs = Some pair
named_pair (MmeUeId mme_ue_id) pairs = pair_of mme_ue_id pairs

abbrev pub received : Pdu (List ℕ) → StationView → Delivered
received (pdu.S1SetupResponse m) s = unmoved (record s { ready = true })
received (pdu.S1SetupFailure m) s = unmoved (record s { ready = false })
received (pdu.DownlinkNasTransport m) s =
    let pair = pair_with m.mme_ue_id m.enb_ue_id in
    record { octets = None; nas = handed pair (Some m.nas); station = holding pair s }
received (pdu.InitialContextSetupRequest m) s = served (pair_with m.mme_ue_id m.enb_ue_id) (first_bearer m.erabs) s
received (pdu.UeContextReleaseCommand m) s = ended (named_pair m.ids s.pairs) s
received (pdu.PathSwitchRequestAcknowledge m) s = unmoved (holding (pair_with m.mme_ue_id m.enb_ue_id) s)
received _ s = unmoved s

abbrev pub read_delivery : Result (Pdu (List ℕ)) S1apFault → StationView → Delivered
read_delivery (Ok m) s = received m s
read_delivery (Err fault) s = unmoved s

-- S1AP octets of the MME: what can't be read changes nothing
unfoldable pub delivered : List ℕ → StationView → Delivered
delivered os s = read_delivery (decoded os) s
