-- What a station makes of the MME's octets.
use Rattle.std.proofs.Common.{◌≡◌, ℕ, ◌-◌, ◌^◌, ◌<◌, ◌≤◌, ◌==◌, Bool, true, false, cond, not, List, [], ◌∷◌, ◌++◌, filter, find, Option, Some, None, Result, Ok, Err, refl, arith}
use Rattle.std.specs.Prelude.{option_map}
use Rattle.std.specs.List.{AllByRecursion}
use Rattle.per_streams.specs.Octet.{all_below}
use Rattle.per_streams.specs.WholeOctets.{bytes-below}
use Rattle.per_bits.specs.Formats.{octet_string}
use Rattle.s1ap_elements.specs.declared.phone.UeIdPair.{UeIdPair}
use Rattle.s1ap_elements.specs.declared.phone.UeS1apIds.{UeS1apIds}
use Rattle.s1ap_elements.specs.declared.phone.UeS1apIds.TheVariants.{Pair, MmeUeId}
use Rattle.s1ap_elements.specs.Bearers.{ErabToBeSetupItem, typed_erabs_to_be_setup}
use Rattle.s1ap_elements.specs.Formats.{enb_ue_id, erab_to_be_setup, item, mme_ue_id, reject, ue_s1ap_ids}
use Rattle.s1ap_elements.specs.Ids as ids
use Rattle.s1ap_elements.specs.Phones.{typed_ue_s1ap_ids}
use Rattle.s1ap_rows.specs.declared.fault.S1apFault.{S1apFault}
use Rattle.s1ap_pdus.specs.declared.pdu.Pdu.{Pdu}
use Rattle.s1ap_pdus.specs.declared.pdu.Pdu.TheVariants as pdu
use Rattle.s1ap_pdus.specs.Pdus.{decoded, typed}
use Rattle.s1ap_pdus.specs.Profile.{rows_of}
use Rattle.enb_sim.specs.Delivering.{Delivered, StationView, delivered, ended, first_bearer, handed, holding, holds_pair, is_pair, named_pair, pair_with, read_delivery, received, served, unmoved}
use Rattle.enb_sim.specs.Sending.{complete_pdu, context_pdu}
use Rattle.laws_codecs.specs.Ranged.{DecodedIsInRange, Ranged, RangedIf, RowsRanged}
use Rattle.laws_simulation.specs.StationRanges.{PairInRange, StationInRange}
use Rattle.laws_simulation.specs.Stations.{AnswersAreSent, HandsOctets, IsSentIf, answer_message, message_owed}
use Rattle.laws_simulation.proofs.StationActs.{S1apLawsGiven, short_sent}
use Rattle.laws_simulation.proofs.StationMessages.{short_complete, short_context}

-- ---- what was decoded

mme_of : (id : ℕ) → Ranged mme_ue_id id → id < 2 ^ 32
mme_of id h = let high : id - 0 ≤ 4294967295 - 0 = h.1 in omega (arith, high)

enb_of : (id : ℕ) → Ranged enb_ue_id id → id < 2 ^ 24
enb_of id h = let high : id - 0 ≤ 16777215 - 0 = h.1 in omega (arith, high)

pair_read : (m b : ℕ) → Ranged mme_ue_id m → Ranged enb_ue_id b → PairInRange (pair_with m b)
pair_read m b h k = record { mme_ue_id = mme_of m h; enb_ue_id = enb_of b k }

-- ---- associations

abbrev PairInRangeIf : Option UeIdPair → Type 0
PairInRangeIf None = Unit {0}
PairInRangeIf (Some pair) = PairInRange pair

pairs_end : (pairs : List UeIdPair) (pair : UeIdPair) → AllByRecursion PairInRange pairs → PairInRange pair
    → AllByRecursion PairInRange (pairs ++ pair ∷ [])
pairs_end [] pair h k = (k, tt)
pairs_end (p ∷ ps) pair h k = (h.0, pairs_end ps pair h.1 k)

pairs_either : (b : Bool) (xs ys : List UeIdPair) → AllByRecursion PairInRange xs → AllByRecursion PairInRange ys
    → AllByRecursion PairInRange (cond b xs ys)
pairs_either true xs ys h k = h
pairs_either false xs ys h k = k

holding_well : (pair : UeIdPair) (s : StationView) → PairInRange pair → StationInRange s → StationInRange (holding pair s)
holding_well pair s k h = record {
  profile = h.profile;
  pairs = pairs_either (holds_pair pair s.pairs) s.pairs (s.pairs ++ pair ∷ []) h.pairs (pairs_end s.pairs pair h.pairs k);
}

pairs_kept : (test : UeIdPair → Bool) (pairs : List UeIdPair) → AllByRecursion PairInRange pairs
    → AllByRecursion PairInRange (filter test pairs)
pairs_kept test [] h = tt
pairs_kept test (p ∷ ps) h =
    let rest = pairs_kept test ps h.1 in pairs_either (test p) (p ∷ filter test ps) (filter test ps) (h.0, rest) rest

found_either : (b : Bool) (pair : UeIdPair) (o : Option UeIdPair) → PairInRange pair → PairInRangeIf o
    → PairInRangeIf (cond b (Some pair) o)
found_either true pair o h k = h
found_either false pair o h k = k

found_pair : (test : UeIdPair → Bool) (pairs : List UeIdPair) → AllByRecursion PairInRange pairs → PairInRangeIf (find test pairs)
found_pair test [] h = tt
found_pair test (p ∷ ps) h = found_either (test p) p (find test ps) h.0 (found_pair test ps h.1)

named_well : (names : UeS1apIds) (pairs : List UeIdPair) → Ranged ue_s1ap_ids (typed_ue_s1ap_ids names)
    → AllByRecursion PairInRange pairs → PairInRangeIf (named_pair names pairs)
named_well (Pair pair) pairs r h = record { mme_ue_id = mme_of pair.mme_ue_id r.0; enb_ue_id = enb_of pair.enb_ue_id r.1.0 }
named_well (MmeUeId m) pairs r h = found_pair (λ p. p.mme_ue_id == m) pairs h

-- ---- what is owed and what is done

record IsDoneWell (owed : Option (Pdu (List ℕ))) (d : Delivered) : Type 0 where
  sent : IsSentIf owed d.octets
  hands : HandsOctets d.nas
  station : StationInRange d.station

still_well : (s : StationView) → StationInRange s → IsDoneWell None (unmoved s)
still_well s h = record { sent = refl; hands = tt; station = h }

abbrev NasBelowIf : Option (List ℕ) → Type 0
NasBelowIf None = Unit {0}
NasBelowIf (Some nas) = all_below 256 nas ≡ true

handed_well : (pair : UeIdPair) (nas : Option (List ℕ)) → NasBelowIf nas → HandsOctets (handed pair nas)
handed_well pair None h = tt
handed_well pair (Some nas) h = h

-- INITIAL CONTEXT SETUP REQUEST
abbrev FirstInRange : Option (ℕ × Option (List ℕ)) → Type 0
FirstInRange None = Unit {0}
FirstInRange (Some found) = (found.0 < 16) × NasBelowIf found.1

nas_below : (nas : Option (List ℕ)) → RangedIf (Ranged octet_string) nas → NasBelowIf nas
nas_below None h = tt
nas_below (Some nas) h = bytes-below nas h

first_well : (es : List (ErabToBeSetupItem (List ℕ)))
    → AllByRecursion (Ranged (item ids.erab_to_be_setup_item_ctxt_su_req reject erab_to_be_setup)) (typed_erabs_to_be_setup es)
    → FirstInRange (first_bearer es)
first_well [] h = tt
first_well (e ∷ es) h =
    let bearer = h.0.0 in
    let high : e.value.id - 0 ≤ 15 - 0 = bearer.0.1 in
    (omega (arith, high), nas_below e.value.nas bearer.1.1.1.1.0)

served_well : S1apLawsGiven → (pair : UeIdPair) (o : Option (ℕ × Option (List ℕ))) (s : StationView) → PairInRange pair
    → FirstInRange o → StationInRange s → IsDoneWell (option_map (λ found. context_pdu s.profile pair found.0) o) (served pair o s)
served_well laws pair None s p f h = record { sent = refl; hands = tt; station = holding_well pair s p h }
served_well laws pair (Some found) s p f h = record {
  sent = short_sent laws (context_pdu s.profile pair found.0) (short_context s.profile pair found.0 h.profile p f.0) _ refl;
  hands = handed_well pair found.1 f.1;
  station = holding_well pair s p h;
}

-- UE CONTEXT RELEASE COMMAND
ended_well : S1apLawsGiven → (o : Option UeIdPair) (s : StationView) → PairInRangeIf o → StationInRange s
    → IsDoneWell (option_map complete_pdu o) (ended o s)
ended_well laws None s p h = still_well s h
ended_well laws (Some pair) s p h = record {
  sent = short_sent laws (complete_pdu pair) (short_complete pair p) _ refl;
  hands = tt;
  station = record { profile = h.profile; pairs = pairs_kept (λ q. not (is_pair q pair)) s.pairs h.pairs };
}

received_well : S1apLawsGiven → (m : Pdu (List ℕ)) (s : StationView) → RowsRanged (rows_of (typed m).0) (typed m).1
    → StationInRange s → IsDoneWell (answer_message m s) (received m s)
received_well laws (pdu.S1SetupResponse m) s r h =
    record { sent = refl; hands = tt; station = record { profile = h.profile; pairs = h.pairs } }
received_well laws (pdu.S1SetupFailure m) s r h =
    record { sent = refl; hands = tt; station = record { profile = h.profile; pairs = h.pairs } }
received_well laws (pdu.DownlinkNasTransport m) s r h =
    let pair = pair_with m.mme_ue_id m.enb_ue_id in
    record {
      sent = refl;
      hands = bytes-below m.nas r.1.1.0;
      station = holding_well pair s (pair_read m.mme_ue_id m.enb_ue_id r.0 r.1.0) h;
    }
received_well laws (pdu.InitialContextSetupRequest m) s r h =
    served_well laws (pair_with m.mme_ue_id m.enb_ue_id) (first_bearer m.erabs) s (pair_read m.mme_ue_id m.enb_ue_id r.0 r.1.0)
    (first_well m.erabs r.1.1.1.0.2) h
received_well laws (pdu.UeContextReleaseCommand m) s r h =
    ended_well laws (named_pair m.ids s.pairs) s (named_well m.ids s.pairs r.0 h.pairs) h
received_well laws (pdu.PathSwitchRequestAcknowledge m) s r h = record {
  sent = refl;
  hands = tt;
  station = holding_well (pair_with m.mme_ue_id m.enb_ue_id) s (pair_read m.mme_ue_id m.enb_ue_id r.0 r.1.0) h;
}
received_well laws _ s r h = still_well s h

read_well : S1apLawsGiven → DecodedIsInRange → (os : List ℕ) (s : StationView) (read : Result (Pdu (List ℕ)) S1apFault)
    → decoded os ≡ read → StationInRange s → IsDoneWell (message_owed read s) (read_delivery read s)
read_well laws ranged os s (Ok m) e h = received_well laws m s (ranged m os e) h
read_well laws ranged os s (Err fault) e h = still_well s h

pub answers_are_sent : S1apLawsGiven → DecodedIsInRange → AnswersAreSent
unfolding delivered
answers_are_sent laws ranged os s h =
    let done = read_well laws ranged os s (decoded os) refl h in
    record { sent = done.sent; handed = done.hands; station = done.station }
