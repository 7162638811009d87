-- Laws of the MME: lists of events that are the same to a slot, events that may change places, and the one output of an event.
use Rattle.std.specs.Prelude.{◌≡◌, ◌≢◌, ℕ, Bool, true, false, List, [], map, filter, flat_map, Option, Some, None, Ok, slice_get}
use Rattle.std.specs.Borrow.{Bor}
use Rattle.sorted_list.specs.Ordered.{Rising}
use Rattle.s1ap_elements.specs.declared.station.SupportedTa.{SupportedTa}
use Rattle.s1ap_pdus.specs.declared.pdu.InitialUeMessage.{InitialUeMessage}
use Rattle.s1ap_pdus.specs.declared.pdu.Pdu.{Pdu}
use Rattle.s1ap_pdus.specs.declared.pdu.Pdu.TheVariants as pdu
use Rattle.s1ap_pdus.specs.Pdus.{decoded}
use Rattle.identity_slots.specs.Provisioned.{slot_of_id, slot_of_imsi}
use Rattle.mme_types.specs.declared.stations.StationState.TheVariants.{Ready}
use Rattle.mme_types.specs.Stations.{station_at}
use Rattle.mme_types.specs.Events.{Item, Nothing}
use Rattle.emm_machine.specs.SubscriberView.{SubscriberView}
use Rattle.stranger_machine.specs.declared.state.Stranger.{Stranger}
use Rattle.stranger_machine.specs.Machine.{stranger_step}
use Rattle.stranger_machine.specs.Table.{known_id, stranger_at}
use Rattle.mme_core.specs.declared.event.Event.{Event}
use Rattle.mme_core.specs.declared.event.Event.TheVariants.{In as InEvent, Data as DataEvent, Cancel as CancelEvent}
use Rattle.mme_answering.specs.declared.out.Out.{Out}
use Rattle.mme_routing.specs.Naming.{named_slot}
use Rattle.mme_core.specs.Projection.{AreInOrder, Told, alone_after, answer_told, is_slot, is_station, is_stranger, item_for, own_told, owned_by, projection, stranger_input, subscriber_told, told}
use Rattle.mme_core.specs.Sight.{Sight}
use Rattle.mme_routing.specs.Destinations.{Destination, Subscriber}
use Rattle.mme_core.specs.World.{World, event_fault, happens, replies, reply, station_of, strangers_in, unless, subscriber_step, world_after, world_run}

-- ---- what is the same to a slot

-- whether something reaches a slot
abbrev pub is_something : Item → Bool
is_something Nothing = false
is_something _ = true

-- the items that are something
abbrev pub busy : List Item → List Item
busy items = filter is_something items

-- what is told at each event, in one row
abbrev pub in_order : List (List Told) → List Told
in_order = flat_map (λ told. told)

-- two lists of events that are the same to a slot tell its machine the same, and leave it the same
abbrev pub SameToSlot : Type 0
SameToSlot =
    (slot : ℕ) (s t : Sight) (g h : ℕ → Option Stranger) (es ds : List Event) (w : SubscriberView)
    → busy (projection slot s g es) ≡ busy (projection slot t h ds)
    → (in_order (subscriber_told w (projection slot s g es)) ≡ in_order (subscriber_told w (projection slot t h ds)))
    × (alone_after w (projection slot s g es) ≡ alone_after w (projection slot t h ds))

-- and so two MMEs that have the same subscriber there
abbrev pub SameFromMme : Type 0
SameFromMme =
    (slot : ℕ) (w v : World) (es ds : List Event) (x : SubscriberView) → Rising known_id w.strangers → Rising known_id v.strangers
    → slice_get w.subscribers slot ≡ Some x → slice_get v.subscribers slot ≡ Some x
    → busy (projection slot w.sight (strangers_in w) es) ≡ busy (projection slot v.sight (strangers_in v) ds)
    → (in_order (told (is_slot slot) (replies w es)) ≡ in_order (told (is_slot slot) (replies v ds)))
    × (slice_get (world_run w es).subscribers slot ≡ slice_get (world_run v ds).subscribers slot)

-- ---- a subscriber is as its machine alone

-- after a list of events each subscriber is in the state of its machine over what the list has for its slot
abbrev pub GoesAlone : Type 0
GoesAlone =
    (w : World) (events : List Event) (slot : ℕ) (x : SubscriberView) → Rising known_id w.strangers
    → slice_get w.subscribers slot ≡ Some x
    → slice_get (world_run w events).subscribers slot ≡ Some (alone_after x (projection slot w.sight (strangers_in w) events))

-- ---- events that name a slot

-- the slot that an event goes to
abbrev pub slot_named : Destination → Option ℕ
slot_named (Subscriber slot item) = Some slot
slot_named _ = None

-- the slot that an event names: the one that it goes to, no stranger being asked
abbrev pub event_name : Sight → Event → Option ℕ
event_name s event = slot_named (happens s event).destination

-- data for an IMSI and the end of its subscription name its slot
abbrev pub NamedByImsi : Type 0
NamedByImsi =
    (s : Sight) (imsi : List ℕ)
    → (event_name s (DataEvent imsi) ≡ slot_of_imsi imsi s.profiles)
    × (event_name s (CancelEvent imsi) ≡ slot_of_imsi imsi s.profiles)

-- an INITIAL UE MESSAGE of a station that is set up names the slot that it names by its identity
abbrev pub NamedByIdentity : Type 0
NamedByIdentity =
    (s : Sight) (e : ℕ) (octets : Bor (List ℕ)) (tas : List SupportedTa) (m : InitialUeMessage (List ℕ))
    → station_at s.stations e ≡ Ready tas → decoded octets.now ≡ Ok (pdu.InitialUeMessage m)
    → event_name s (InEvent e octets) ≡ named_slot s.config.network s.profiles m.nas m.s_tmsi

-- the MME's id in a message that a station sends for a UE; of PATH SWITCH REQUEST the source's
abbrev pub id_in : Pdu (List ℕ) → Option ℕ
id_in (pdu.UplinkNasTransport m) = Some m.mme_ue_id
id_in (pdu.NasNonDeliveryIndication m) = Some m.mme_ue_id
id_in (pdu.UeCapabilityInfoIndication m) = Some m.mme_ue_id
id_in (pdu.InitialContextSetupResponse m) = Some m.mme_ue_id
id_in (pdu.InitialContextSetupFailure m) = Some m.mme_ue_id
id_in (pdu.UeContextReleaseRequest m) = Some m.mme_ue_id
id_in (pdu.UeContextReleaseComplete m) = Some m.mme_ue_id
id_in (pdu.PathSwitchRequest m) = Some m.source_mme_ue_id
id_in _ = None

-- and a message with an id the slot that the id is of
abbrev pub NamedById : Type 0
NamedById =
    (s : Sight) (e : ℕ) (octets : Bor (List ℕ)) (tas : List SupportedTa) (m : Pdu (List ℕ)) (id : ℕ)
    → station_at s.stations e ≡ Ready tas → decoded octets.now ≡ Ok m → id_in m ≡ Some id
    → event_name s (InEvent e octets) ≡ slot_of_id id s.profiles

-- two events that name different slots may change places
abbrev pub Exchanges : Type 0
Exchanges =
    (w : World) (a b : Event) (s t : ℕ) → event_name w.sight a ≡ Some s → event_name w.sight b ≡ Some t → s ≢ t
    → (world_after (world_after w a) b ≡ world_after (world_after w b) a)
    × (reply (world_after w a) b ≡ reply w b)
    × (reply (world_after w b) a ≡ reply w a)

-- ---- one output

-- what the machine of a subscriber, if there is one, sends at an item
abbrev pub told_if : Option SubscriberView → Item → List Told
told_if None item = []
told_if (Some x) item = map answer_told (subscriber_step x item).sent

-- each owner's messages are those of its machine, and the owners stand in their order
pub record IsOutput (w : World) (event : Event) (outs : List Out) : Type 0 where
  pub stations : (e : ℕ) → owned_by (is_station e) outs
      ≡ unless (event_fault w.sight event) [] (own_told (station_of event) e (happens w.sight event).sent)
  pub strangers : (id : ℕ) → owned_by (is_stranger id) outs
      ≡ map answer_told (stranger_step w.sight.profiles id (stranger_at id w.strangers) (stranger_input w.sight id event)).sent
  pub subscribers : (slot : ℕ)
      → owned_by (is_slot slot) outs ≡ told_if (slice_get w.subscribers slot) (item_for slot w.sight (strangers_in w) event)
  pub order : AreInOrder outs

-- the output of an event that is not refused is one
abbrev pub RepliesSo : Type 0
RepliesSo =
    (w : World) (event : Event) (outs : List Out) → Rising known_id w.strangers → reply w event ≡ Ok outs → IsOutput w event outs

-- and there is no other
abbrev pub OneOutput : Type 0
OneOutput = (w : World) (event : Event) (xs ys : List Out) → IsOutput w event xs → IsOutput w event ys → xs ≡ ys
