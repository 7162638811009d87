-- The parts of the messages that stations send are in range.
use Rattle.std.proofs.Common.{◌≡◌, ℕ, zero, suc, ◌+◌, ◌-◌, ◌^◌, ◌<◌, ◌≤◌, Bool, true, false, ltb, eqb, List, [], ◌∷◌, length, filter, not, Option, Some, None, Ok, inl, inr, refl, subst, arith}
use Rattle.std.specs.List.{AllByRecursion}
use Rattle.std.proofs.lemmas.Bool.{and_from, eq-eqb, lt-ltb}
use Rattle.std.proofs.lemmas.List.{length-map}
use Rattle.std.proofs.lemmas.Option.{same_Some}
use Rattle.per_streams.specs.Bits.{IsBytes}
use Rattle.per_streams.specs.Each.{SpellsEach}
use Rattle.per_streams.specs.Octet.{AreBytes, all_below}
use Rattle.per_bits.specs.Formats.{Format, flag_of, flags_after, number, octets, octets_between, octet_string, bit_string, bits_between, enumerated, closed, items, open_type, plain, sequence, choice, Fields, done, must, may, skip, fixed, marked, Alternatives, last, either, Value, Values, Chosen}
use Rattle.per_bits.specs.Spelling.{Spells, SpellsChosen, SpellsFields, SpellsOptional}
use Rattle.s1ap_elements.specs.declared.reset.ListedAssociation.{ListedAssociation}
use Rattle.s1ap_elements.specs.declared.reset.ResetType.{ResetType}
use Rattle.s1ap_elements.specs.declared.phone.Tai.{Tai}
use Rattle.s1ap_elements.specs.Ids as ids
use Rattle.s1ap_elements.specs.Formats.{reject, item, associations_to_reset, enb_ue_id, listed_association, mme_ue_id, reset_type, tai}
use Rattle.s1ap_elements.specs.Phones.{typed_tai}
use Rattle.s1ap_elements.specs.Resets.{typed_associations_to_reset, typed_listed_association, typed_reset_type}
use Rattle.s1ap_rows.specs.Rows.{Rows, ie, end, needed, optional, unkept, Kept, Slots}
use Rattle.s1ap_rows.specs.Spelling.{AreElements, IsKept, OfRow, Raw, has_id}
use Rattle.s1ap_pdus.specs.declared.pdu.Pdu.{Pdu}
use Rattle.s1ap_pdus.specs.declared.pdu.Pdu.TheVariants as pdu
use Rattle.s1ap_pdus.specs.Pdus.{SpellsMessage, decoded, typed}
use Rattle.s1ap_pdus.specs.Profile.{rows_of}
use Rattle.mme_types.specs.declared.event.UeBody.{UeBody}
use Rattle.mme_types.specs.declared.event.UeMessage.{UeMessage}
use Rattle.mme_types.specs.Listed.{ToReset}
use Rattle.mme_routing.specs.Outcomes.{ue_message, ue_message_in}
use Rattle.laws_network.specs.Ranges.{TaiInRange}
use Rattle.laws_network.specs.SubscriberRanges.{BodyInRange, MessageInRange}
use Rattle.laws_network.specs.ListRanges.{AssociationInRange, IsBelow, ListInRange}
use Rattle.laws_network.specs.Received.{EntriesAreInRange, MessagesAreInRange, ResetsAreInRange}
use Rattle.laws_codecs.specs.Ranged.{DecodedIsInRange, Ranged, RangedIf, RowsRanged}

-- ---- parts

bytes_below : (os : List ℕ) → IsBytes os → all_below 256 os ≡ true
bytes_below [] h = refl
bytes_below (o ∷ os) h = and_from (ltb o 256) (all_below 256 os) (lt-ltb o 256 (h 0)) (bytes_below os (λ i. h (suc i)))

bytes_of : (n : ℕ) (os : List ℕ) → (length os ≡ n) × IsBytes os → AreBytes n os
bytes_of n os h = and_from (eqb (length os) n) (all_below 256 os) (eq-eqb (length os) n h.0) (bytes_below os h.1)

tai_of : (t : Tai) → Ranged tai (typed_tai t) → TaiInRange t
tai_of t h = record { plmn = bytes_of 3 t.plmn h.0; tac = bytes_of 2 t.tac h.1.0 }

mme_ue_id_of : (id : ℕ) → Ranged mme_ue_id id → id < 2 ^ 32
mme_ue_id_of id h = let high : id - 0 ≤ 4294967295 - 0 = h.1 in omega (arith, high)

enb_ue_id_of : (id : ℕ) → Ranged enb_ue_id id → id < 2 ^ 24
enb_ue_id_of id h = let high : id - 0 ≤ 16777215 - 0 = h.1 in omega (arith, high)

-- ---- lists

below_mme : (o : Option ℕ) → RangedIf (Ranged mme_ue_id) o → IsBelow (2 ^ 32) o
below_mme None h = tt
below_mme (Some id) h = mme_ue_id_of id h

below_enb : (o : Option ℕ) → RangedIf (Ranged enb_ue_id) o → IsBelow (2 ^ 24) o
below_enb None h = tt
below_enb (Some id) h = enb_ue_id_of id h

association_of : (a : ListedAssociation) → Ranged listed_association (typed_listed_association a) → AssociationInRange a
association_of a h = record { mme_ue_id = below_mme a.mme_ue_id h.0; enb_ue_id = below_enb a.enb_ue_id h.1.0 }

each_of : (xs : ToReset) → AllByRecursion (Ranged (item ids.ue_associated_logical_s1_connection_item reject listed_association)) (typed_associations_to_reset xs) → AllByRecursion (λ i. AssociationInRange i.value) xs
each_of [] h = tt
each_of (i ∷ more) h = (association_of i.value h.0.0, each_of more h.1)

list_of : (xs : ToReset) → Ranged associations_to_reset (typed_associations_to_reset xs) → ListInRange xs
list_of xs h =
    let low : 1 ≤ length (typed_associations_to_reset xs) = h.0 in
    let high : length (typed_associations_to_reset xs) - 1 ≤ 256 - 1 = h.1 in
    let long : length (typed_associations_to_reset xs) ≡ length xs = length-map xs _ in
    record { some = omega (arith, low, long); few = omega (arith, low, high, long); each = each_of xs h.2 }

-- ---- messages

pub entries_are_in_range : DecodedIsInRange → EntriesAreInRange
entries_are_in_range ranged os e m is =
    let r = ranged (pdu.InitialUeMessage m) os is in
    record { enb_ue_id = enb_ue_id_of m.enb_ue_id r.0; nas = bytes_below m.nas r.1.0; tai = tai_of m.tai r.1.1.0 }

in_range_of : (e mme enb : ℕ) (body : UeBody (List ℕ)) (m : UeMessage (List ℕ)) → Some (ue_message e mme enb body) ≡ Some m
    → Ranged mme_ue_id mme → Ranged enb_ue_id enb
    → BodyInRange body → MessageInRange m
in_range_of e mme enb body m is a b fits =
    subst MessageInRange (same_Some (ue_message e mme enb body) m is) (record { mme_ue_id = mme_ue_id_of mme a; enb_ue_id = enb_ue_id_of enb b; body = fits })

told_in_range : (os : List ℕ) (e : ℕ) (p : Pdu (List ℕ)) (m : UeMessage (List ℕ)) → RowsRanged (rows_of (typed p).0) (typed p).1
    → ue_message_in e p ≡ Some m → MessageInRange m
told_in_range os e (pdu.UplinkNasTransport x) m r is =
    in_range_of e x.mme_ue_id x.enb_ue_id _ m is r.0 r.1.0 (bytes_below x.nas r.1.1.0, tai_of x.tai r.1.1.1.1.0)
told_in_range os e (pdu.NasNonDeliveryIndication x) m r is = in_range_of e x.mme_ue_id x.enb_ue_id _ m is r.0 r.1.0 tt
told_in_range os e (pdu.UeCapabilityInfoIndication x) m r is = in_range_of e x.mme_ue_id x.enb_ue_id _ m is r.0 r.1.0 tt
told_in_range os e (pdu.InitialContextSetupResponse x) m r is = in_range_of e x.mme_ue_id x.enb_ue_id _ m is r.0 r.1.0 tt
told_in_range os e (pdu.InitialContextSetupFailure x) m r is = in_range_of e x.mme_ue_id x.enb_ue_id _ m is r.0 r.1.0 tt
told_in_range os e (pdu.UeContextReleaseRequest x) m r is = in_range_of e x.mme_ue_id x.enb_ue_id _ m is r.0 r.1.0 tt
told_in_range os e (pdu.UeContextReleaseComplete x) m r is = in_range_of e x.mme_ue_id x.enb_ue_id _ m is r.0 r.1.0 tt
told_in_range os e (pdu.PathSwitchRequest x) m r is = in_range_of e x.source_mme_ue_id x.enb_ue_id _ m is r.1.1.0 r.0 tt
told_in_range os e _ m r is = absurd (cc is)

pub messages_are_in_range : DecodedIsInRange → MessagesAreInRange
messages_are_in_range ranged os e p m is told = told_in_range os e p m (ranged p os is) told

pub resets_are_in_range : DecodedIsInRange → ResetsAreInRange
resets_are_in_range ranged os m xs is part =
    let r = ranged (pdu.Reset m) os is in
    list_of xs (subst (λ (t : ResetType). Ranged reset_type (typed_reset_type t)) part r.1.0)
