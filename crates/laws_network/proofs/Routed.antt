-- Where an event goes is in range, as the station's octets tell it.
use Rattle.std.proofs.Common.{◌≡◌, ℕ, zero, suc, ◌^◌, ◌<◌, Bool, true, false, cond, List, [], ◌∷◌, length, Option, Some, None, Result, Ok, Err, refl, arith}
use Rattle.s1ap_elements.specs.declared.reset.ResetType.{ResetType}
use Rattle.s1ap_elements.specs.declared.reset.ResetType.TheVariants.{All, Part}
use Rattle.s1ap_elements.specs.declared.station.SupportedTa.{SupportedTa}
use Rattle.s1ap_rows.specs.declared.fault.S1apFault.{S1apFault}
use Rattle.s1ap_pdus.specs.declared.pdu.InitialUeMessage.{InitialUeMessage}
use Rattle.s1ap_pdus.specs.declared.pdu.Pdu.{Pdu}
use Rattle.s1ap_pdus.specs.declared.pdu.Pdu.TheVariants as pdu
use Rattle.s1ap_pdus.specs.Pdus.{decoded}
use Rattle.identity_slots.specs.declared.profile.Profile.{Profile}
use Rattle.identity_slots.specs.Ids.{is_of_slot, stranger_id}
use Rattle.identity_slots.specs.Provisioned.{slot_of_id, slot_of_imsi}
use Rattle.mme_types.specs.declared.event.UeMessage.{UeMessage}
use Rattle.mme_types.specs.declared.network.Network.{Network}
use Rattle.mme_types.specs.declared.stations.StationState.{StationState}
use Rattle.mme_types.specs.declared.stations.StationState.TheVariants.{Down, Up, Ready}
use Rattle.mme_types.specs.Events.{Cancel, Claim, Data, Item}
use Rattle.mme_types.specs.Stations.{station_at}
use Rattle.mme_routing.specs.Destinations.{Destination}
use Rattle.mme_routing.specs.Destinations as to
use Rattle.mme_routing.specs.Naming.{named_slot}
use Rattle.mme_routing.specs.Outcomes.{Outcome, begins_anew, broadcasts, enters, entry_of, entry_routed, goes_to, message_of_slot, outcome_of, outcome_of_message, phone_message_if, ue_message_in}
use Rattle.mme_routing.specs.Resets.{reset}
use Rattle.mme_core.specs.declared.event.Event.{Event}
use Rattle.mme_core.specs.declared.event.Event.TheVariants.{Up as UpEvent, Lost as LostEvent, In as InEvent, Tick as TickEvent, Data as DataEvent, Cancel as CancelEvent}
use Rattle.mme_core.specs.Sight.{Sight}
use Rattle.mme_core.specs.World.{happens, to_slot}
use Rattle.laws_network.specs.SubscriberRanges.{EntryInRange, ItemInRange, MessageInRange}
use Rattle.laws_network.specs.Received.{EntriesAreInRange, MessagesAreInRange}

abbrev pub DestinationInRange : Destination → Type 0
DestinationInRange to.Nobody = Unit {0}
DestinationInRange (to.Subscriber n item) = ItemInRange item
DestinationInRange (to.Beginner id m) = ItemInRange (Claim id m)
DestinationInRange (to.Stranger m) = MessageInRange m
DestinationInRange (to.Everyone notice) = Unit {0}

-- a station that is set up is one of those that there are
ready_below : (stations : List StationState) (e : ℕ) (tas : List SupportedTa) → station_at stations e ≡ Ready tas
    → e < length stations
ready_below [] e tas is = absurd (cc is)
ready_below (s ∷ stations) zero tas is = omega arith
ready_below (s ∷ stations) (suc e) tas is = let less = ready_below stations e tas is in omega (arith, less)

-- an id that is made of one of 128 stations and an eNB UE S1AP ID has 32 bits
stranger_id_below : (e enb_ue_id : ℕ) → e < 128 → enb_ue_id < 2 ^ 24 → stranger_id e enb_ue_id < 2 ^ 32
stranger_id_below e enb_ue_id low less = omega (arith, low, less)

-- ---- by message

entry_goes : (o : Option ℕ) (e : ℕ) (m : InitialUeMessage (List ℕ)) → e < 128 → EntryInRange (entry_of e m)
    → DestinationInRange (entry_routed o e m).destination
entry_goes (Some slot) e m low fits = fits
entry_goes None e m low fits = (stranger_id_below e m.enb_ue_id low fits.enb_ue_id, fits)

enters_so : (n : Network) (ps : List Profile) (e : ℕ) (state : StationState) (m : InitialUeMessage (List ℕ))
    → ((tas : List SupportedTa) → state ≡ Ready tas → e < 128)
    → EntryInRange (entry_of e m) → DestinationInRange (enters n ps e state m).destination
enters_so n ps e Down m low fits = tt
enters_so n ps e Up m low fits = tt
enters_so n ps e (Ready tas) m low fits = entry_goes (named_slot n ps m.nas m.s_tmsi) e m (low tas refl) fits

of_slot : (o : Option ℕ) (m : UeMessage (List ℕ)) → MessageInRange m → DestinationInRange (message_of_slot o m).destination
of_slot (Some slot) m fits = fits
of_slot None m fits = tt

by_id : (b : Bool) (o : Option ℕ) (m : UeMessage (List ℕ)) → MessageInRange m
    → DestinationInRange (cond b (message_of_slot o m) (goes_to (to.Stranger m))).destination
by_id true o m fits = of_slot o m fits
by_id false o m fits = fits

phone_goes : (ps : List Profile) (e : ℕ) (state : StationState) (o : Option (UeMessage (List ℕ)))
    → ((m : UeMessage (List ℕ)) → o ≡ Some m → MessageInRange m)
    → DestinationInRange (phone_message_if ps e state o).destination
phone_goes ps e state None fits = tt
phone_goes ps e Down (Some m) fits = tt
phone_goes ps e Up (Some m) fits = tt
phone_goes ps e (Ready tas) (Some m) fits = by_id (is_of_slot m.mme_ue_id) (slot_of_id m.mme_ue_id ps) m (fits m refl)

reset_goes : (e : ℕ) (state : StationState) (t : ResetType) → DestinationInRange (reset e state t).destination
reset_goes e Down t = tt
reset_goes e Up t = tt
reset_goes e (Ready tas) (All a) = tt
reset_goes e (Ready tas) (Part items) = tt

set_up_goes : (b : Bool) (x y : Outcome) → DestinationInRange x.destination → DestinationInRange y.destination
    → DestinationInRange (cond b x y).destination
set_up_goes true x y h k = h
set_up_goes false x y h k = k

-- ---- by event

module _ (entries : EntriesAreInRange) (messages : MessagesAreInRange) where
  message_goes : (n : Network) (ps : List Profile) (e : ℕ) (state : StationState) (os : List ℕ) (p : Pdu (List ℕ))
      → decoded os ≡ Ok p
      → ((tas : List SupportedTa) → state ≡ Ready tas → e < 128)
      → DestinationInRange (outcome_of_message n ps e state p).destination
  message_goes n ps e state os (pdu.S1SetupRequest m) is low =
      set_up_goes (broadcasts n.plmn m.supported_tas) (begins_anew e _ _) (begins_anew e _ _) tt tt
  message_goes n ps e state os (pdu.Reset m) is low = reset_goes e state m.reset_type
  message_goes n ps e state os (pdu.ErrorIndication m) is low = tt
  message_goes n ps e state os (pdu.ResetAcknowledge m) is low = tt
  message_goes n ps e state os (pdu.InitialUeMessage m) is low = enters_so n ps e state m low (entries os e m is)
  message_goes n ps e state os p is low = phone_goes ps e state (ue_message_in e p) (λ m told. messages os e p m is told)

  octets_go : (n : Network) (ps : List Profile) (e : ℕ) (state : StationState) (os : List ℕ) (r : Result (Pdu (List ℕ)) S1apFault)
      → decoded os ≡ r
      → ((tas : List SupportedTa) → state ≡ Ready tas → e < 128) → DestinationInRange (outcome_of n ps e state r).destination
  octets_go n ps e state os (Ok p) is low = message_goes n ps e state os p is low
  octets_go n ps e state os (Err fault) is low = tt

  slot_goes : (o : Option ℕ) (item : Item) → ItemInRange item → DestinationInRange (to_slot o item)
  slot_goes None item fits = tt
  slot_goes (Some slot) item fits = fits

  pub goes_in_range : (s : Sight) (event : Event) → length s.stations ≡ 128 → DestinationInRange (happens s event).destination
  unfolding happens
  goes_in_range s (UpEvent e) many = tt
  goes_in_range s (LostEvent e) many = tt
  goes_in_range s (InEvent e octets) many =
      octets_go s.config.network s.profiles e (station_at s.stations e) octets.now (decoded octets.now) refl
      (λ tas is. let less = ready_below s.stations e tas is in omega (arith, less, many))
  goes_in_range s TickEvent many = tt
  goes_in_range s (DataEvent imsi) many = slot_goes (slot_of_imsi imsi s.profiles) (Data s.stations) tt
  goes_in_range s (CancelEvent imsi) many = slot_goes (slot_of_imsi imsi s.profiles) Cancel tt
