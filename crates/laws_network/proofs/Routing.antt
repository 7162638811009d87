-- What comes of an event: what is sent for its station, where the event goes, and which stations stay as they are.
use Rattle.std.proofs.Common.{◌≡◌, ◌≢◌, ◌⊎◌, ◌<◌, ℕ, zero, suc, Bool, true, false, cond, inl, inr, List, [], ◌∷◌, length, All, Option, Some, None, Result, Ok, Err, refl, sym, ◌∙◌, ap, subst, true≢false, arith}
use Rattle.std.specs.Prelude.{slice_set, unwrap_or}
use Rattle.std.proofs.lemmas.List.{get_or-set_other, get_or-set_same, set-get_or}
use Rattle.std.proofs.lemmas.List.Elements.{All-cons, All-nil, All-weaker}
use Rattle.std.proofs.lemmas.Option.{same_Some}
use Rattle.s1ap_causes.specs.declared.cause.Cause.{Cause}
use Rattle.s1ap_elements.specs.declared.reset.ResetType.{ResetType}
use Rattle.s1ap_elements.specs.declared.reset.ResetType.TheVariants as resets
use Rattle.s1ap_elements.specs.declared.station.SupportedTa.{SupportedTa}
use Rattle.s1ap_rows.specs.declared.fault.S1apFault.{S1apFault}
use Rattle.s1ap_pdus.specs.declared.pdu.InitialUeMessage.{InitialUeMessage}
use Rattle.s1ap_pdus.specs.declared.pdu.Pdu.{Pdu}
use Rattle.s1ap_pdus.specs.declared.pdu.Pdu.TheVariants as pdu
use Rattle.s1ap_pdus.specs.Pdus.{decoded, encoded}
use Rattle.identity_slots.specs.declared.profile.Profile.{Profile}
use Rattle.identity_slots.specs.Ids.{enb_ue_ids, is_of_slot, station_in, stranger_id}
use Rattle.identity_slots.specs.Provisioned.{slot_of_id, slot_of_imsi}
use Rattle.mme_types.specs.declared.event.UeBody.{UeBody}
use Rattle.mme_types.specs.declared.event.UeBody.TheVariants as bodies
use Rattle.mme_types.specs.declared.event.UeMessage.{UeMessage}
use Rattle.mme_types.specs.declared.network.Network.{Network}
use Rattle.mme_types.specs.declared.octets.Answer.{Answer}
use Rattle.mme_types.specs.declared.stations.StationState.{StationState}
use Rattle.mme_types.specs.declared.stations.StationState.TheVariants.{Down, Up, Ready}
use Rattle.mme_types.specs.Answers.{answer_of}
use Rattle.mme_types.specs.Events.{Cancel, Data, Item}
use Rattle.mme_types.specs.Stations.{station_at}
use Rattle.stranger_machine.specs.declared.turn.Notice.TheVariants.{Gone}
use Rattle.stranger_machine.specs.Machine.{unknown}
use Rattle.stranger_machine.specs.Turns.{sent_to}
use Rattle.mme_routing.specs.Naming.{named_slot}
use Rattle.mme_routing.specs.Destinations.{Destination}
use Rattle.mme_routing.specs.Destinations as to
use Rattle.mme_routing.specs.Outcomes.{Outcome, answered, begins_anew, broadcasts, cause_of, enters, entry_of, entry_routed, goes_to, indicated, indication, message_of_slot, not_compatible, outcome_of, outcome_of_message, phone_message_if, setup_failure, setup_response, ue_message_in}
use Rattle.mme_routing.specs.Resets.{reset}
use Rattle.mme_core.specs.declared.event.Event.{Event}
use Rattle.mme_core.specs.declared.event.Event.TheVariants.{Up as UpEvent, Lost as LostEvent, In as InEvent, Tick as TickEvent, Data as DataEvent, Cancel as CancelEvent}
use Rattle.mme_core.specs.declared.event.StepFault.TheVariants.{AlreadyUp, NotUp}
use Rattle.mme_core.specs.Sight.{Sight}
use Rattle.mme_core.specs.World.{event_fault, happens, if_down, placed, sight_moved, station_of, to_slot}
use Rattle.laws_network.specs.SubscriberRanges.{EntryInRange}
use Rattle.laws_network.specs.Received.{EntriesAreInRange}
use Rattle.laws_network.specs.Placed.{IsConnected, IsReady, is_connected, is_ready}
use Rattle.laws_network.specs.Spoken.{emptied, emptied_by, emptied_by_reset}
use Rattle.laws_network.proofs.PlacedSteps.{ComesFromReady}
use Rattle.laws_network.proofs.PlacedTurns.{is_gone}

-- ---- where an event goes that leaves the stations

abbrev pub GoesFrom : List StationState → Destination → Type 0
GoesFrom stations to.Nobody = Unit {0}
GoesFrom stations (to.Subscriber n item) = ComesFromReady stations item
GoesFrom stations (to.Beginner id m) = IsReady stations m.station × (m.station ≡ station_in id)
GoesFrom stations (to.Stranger m) = IsReady stations m.station
GoesFrom stations (to.Everyone notice) = is_gone notice ≡ false

abbrev pub IsTo : ℕ → Answer → Type 0
IsTo e a = a.station ≡ e

-- what comes of what a station sends, by its state before: what is sent goes to it, it stays connected, and either no station
-- changes, or all associations at the station end
record ComesOf (stations : List StationState) (e : ℕ) (state : StationState) (h : Outcome) : Type 0 where
  own : All (IsTo e) h.sent
  connected : is_connected (unwrap_or h.state state) ≡ true
  goes : ((h.state ≡ None) × GoesFrom stations h.destination) ⊎ (h.destination ≡ to.Everyone (Gone e))

written : (e : ℕ) (o : Option (List ℕ)) → All (IsTo e) (answer_of e None o)
written e None = All-nil (IsTo e)
written e (Some octets) = All-cons (IsTo e) _ [] refl (All-nil (IsTo e))

told : (e : ℕ) (message : Pdu (List ℕ)) → All (IsTo e) (sent_to e message)
told e message = written e (encoded message)

indicated_so : (e : ℕ) (cause : Option Cause) → All (IsTo e) (indicated e cause)
indicated_so e None = All-nil (IsTo e)
indicated_so e (Some cause) = told e (indication cause)

unknown_so : (body : UeBody (List ℕ)) (m : UeMessage (List ℕ)) → All (IsTo m.station) (unknown body m)
unfolding unknown
unknown_so bodies.UeContextReleaseComplete m = All-nil (IsTo m.station)
unknown_so bodies.PathSwitch m = told m.station _
unknown_so (bodies.Uplink nas tai) m = told m.station _
unknown_so (bodies.UeContextReleaseRequest cause) m = told m.station _
unknown_so bodies.InitialContextSetupFailure m = told m.station _
unknown_so bodies.Notice m = told m.station _

-- the station of a message with an MME UE S1AP ID
IsFrom : ℕ → Option (UeMessage (List ℕ)) → Type 0
IsFrom e None = Unit {0}
IsFrom e (Some m) = m.station ≡ e

message_from : (e : ℕ) (p : Pdu (List ℕ)) → IsFrom e (ue_message_in e p)
unfolding IsFrom
message_from e (pdu.UplinkNasTransport m) = refl
message_from e (pdu.NasNonDeliveryIndication m) = refl
message_from e (pdu.UeCapabilityInfoIndication m) = refl
message_from e (pdu.InitialContextSetupResponse m) = refl
message_from e (pdu.InitialContextSetupFailure m) = refl
message_from e (pdu.UeContextReleaseRequest m) = refl
message_from e (pdu.UeContextReleaseComplete m) = refl
message_from e (pdu.PathSwitchRequest m) = refl
message_from e _ = tt

module _ (stations : List StationState) (e : ℕ) (state : StationState) (is : station_at stations e ≡ state)
    (connected : is_connected state ≡ true) where
  only_sends : (sent : List Answer) → All (IsTo e) sent → ComesOf stations e state (answered sent)
  only_sends sent all = record { own = all; connected = connected; goes = inl (refl, tt) }

  only_goes : (d : Destination) → GoesFrom stations d → ComesOf stations e state (goes_to d)
  only_goes d from = record { own = All-nil (IsTo e); connected = connected; goes = inl (refl, from) }

  not_now : ComesOf stations e state (not_compatible e)
  not_now = only_sends _ (told e _)

  begins_so : (new : Option StationState) (sent : List Answer) → is_connected (unwrap_or new state) ≡ true → All (IsTo e) sent
      → ComesOf stations e state (begins_anew e new sent)
  begins_so new sent there all = record { own = all; connected = there; goes = inr refl }

  set_up_so : (network : Network) (tas : List SupportedTa) (b : Bool)
      → ComesOf stations e state
      (cond b (begins_anew e (Some (Ready tas)) (sent_to e (setup_response network))) (begins_anew e (Some Up) (sent_to e setup_failure)))
  set_up_so network tas true = begins_so (Some (Ready tas)) _ refl (told e _)
  set_up_so network tas false = begins_so (Some Up) _ refl (told e _)

ready_at : (stations : List StationState) (e : ℕ) (tas : List SupportedTa) → station_at stations e ≡ Ready tas → IsReady stations e
ready_at stations e tas is = ap is_ready is

reset_so : (stations : List StationState) (e : ℕ) (state : StationState) → station_at stations e ≡ state → is_connected state ≡ true
    → (t : ResetType) → ComesOf stations e state (reset e state t)
reset_so stations e Down is connected t = not_now stations e Down is connected
reset_so stations e Up is connected t = not_now stations e Up is connected
reset_so stations e (Ready tas) is connected (resets.All a) =
    begins_so stations e (Ready tas) is connected None _ refl (told e _)
reset_so stations e (Ready tas) is connected (resets.Part items) =
    record { own = told e _; connected = refl; goes = inl (refl, refl) }

-- the station of a stranger's id
own_station : (e n : ℕ) → n < enb_ue_ids → e ≡ station_in (stranger_id e n)
own_station e n low = omega (arith, low)

entry_so : (stations : List StationState) (e : ℕ) (tas : List SupportedTa) → station_at stations e ≡ Ready tas → (o : Option ℕ)
    → (m : InitialUeMessage (List ℕ)) → EntryInRange (entry_of e m) → ComesOf stations e (Ready tas) (entry_routed o e m)
entry_so stations e tas is (Some slot) m fits = only_goes stations e (Ready tas) is refl _ (ready_at stations e tas is)
entry_so stations e tas is None m fits =
    only_goes stations e (Ready tas) is refl _ (ready_at stations e tas is, own_station e m.enb_ue_id fits.enb_ue_id)

enters_so : (stations : List StationState) (e : ℕ) (state : StationState) → station_at stations e ≡ state → is_connected state ≡ true
    → (n : Network) (ps : List Profile) (m : InitialUeMessage (List ℕ)) → EntryInRange (entry_of e m)
    → ComesOf stations e state (enters n ps e state m)
enters_so stations e Down is connected n ps m fits = not_now stations e Down is connected
enters_so stations e Up is connected n ps m fits = not_now stations e Up is connected
enters_so stations e (Ready tas) is connected n ps m fits = entry_so stations e tas is (named_slot n ps m.nas m.s_tmsi) m fits

by_id : (stations : List StationState) (e : ℕ) (tas : List SupportedTa) → station_at stations e ≡ Ready tas → (b : Bool)
    → (o : Option ℕ) (m : UeMessage (List ℕ)) → m.station ≡ e
    → ComesOf stations e (Ready tas) (cond b (message_of_slot o m) (goes_to (to.Stranger m)))
by_id stations e tas is true (Some slot) m from =
    only_goes stations e (Ready tas) is refl _ (subst (IsReady stations) (sym from) (ready_at stations e tas is))
by_id stations e tas is true None m from =
    only_sends stations e (Ready tas) is refl _ (subst (λ (n : ℕ). All (IsTo n) (unknown m.body m)) from (unknown_so m.body m))
by_id stations e tas is false o m from =
    only_goes stations e (Ready tas) is refl _ (subst (IsReady stations) (sym from) (ready_at stations e tas is))

phone_so : (stations : List StationState) (e : ℕ) (state : StationState) → station_at stations e ≡ state → is_connected state ≡ true
    → (ps : List Profile) (o : Option (UeMessage (List ℕ))) → IsFrom e o → ComesOf stations e state (phone_message_if ps e state o)
unfolding IsFrom
phone_so stations e state is connected ps None from = not_now stations e state is connected
phone_so stations e Down is connected ps (Some m) from =
    subst (λ (n : ℕ). ComesOf stations e Down (not_compatible n)) (sym from) (not_now stations e Down is connected)
phone_so stations e Up is connected ps (Some m) from =
    subst (λ (n : ℕ). ComesOf stations e Up (not_compatible n)) (sym from) (not_now stations e Up is connected)
phone_so stations e (Ready tas) is connected ps (Some m) from =
    by_id stations e tas is (is_of_slot m.mme_ue_id) (slot_of_id m.mme_ue_id ps) m from

module _ (entries : EntriesAreInRange) where
  message_so : (stations : List StationState) (e : ℕ) (state : StationState) → station_at stations e ≡ state
      → is_connected state ≡ true → (n : Network) (ps : List Profile) (os : List ℕ) (p : Pdu (List ℕ)) → decoded os ≡ Ok p
      → ComesOf stations e state (outcome_of_message n ps e state p)
  message_so stations e state is connected n ps os (pdu.S1SetupRequest m) from =
      set_up_so stations e state is connected n m.supported_tas (broadcasts n.plmn m.supported_tas)
  message_so stations e state is connected n ps os (pdu.Reset m) from = reset_so stations e state is connected m.reset_type
  message_so stations e state is connected n ps os (pdu.ErrorIndication m) from =
      only_sends stations e state is connected [] (All-nil (IsTo e))
  message_so stations e state is connected n ps os (pdu.ResetAcknowledge m) from =
      only_sends stations e state is connected [] (All-nil (IsTo e))
  message_so stations e state is connected n ps os (pdu.InitialUeMessage m) from =
      enters_so stations e state is connected n ps m (entries os e m from)
  message_so stations e state is connected n ps os p from =
      phone_so stations e state is connected ps (ue_message_in e p) (message_from e p)

  octets_so : (stations : List StationState) (e : ℕ) (state : StationState) → station_at stations e ≡ state
      → is_connected state ≡ true → (n : Network) (ps : List Profile) (os : List ℕ) (r : Result (Pdu (List ℕ)) S1apFault)
      → decoded os ≡ r → ComesOf stations e state (outcome_of n ps e state r)
  octets_so stations e state is connected n ps os (Ok p) from = message_so stations e state is connected n ps os p from
  octets_so stations e state is connected n ps os (Err fault) from =
      only_sends stations e state is connected _ (indicated_so e (cause_of fault))

-- ---- the stations after an event

abbrev pub Same : List StationState → List StationState → ℕ → Type 0
Same before after n = station_at after n ≡ station_at before n

-- those that are set up stay as they are, and the event comes from one of them; or all associations at a station end, and the other
-- stations stay
abbrev pub MovesSo : List StationState → List StationState → Destination → Type 0
MovesSo before after d =
    (((n : ℕ) → IsReady before n → Same before after n) × GoesFrom before d)
    ⊎ ((e : ℕ) × (d ≡ to.Everyone (Gone e)) × ((n : ℕ) → n ≢ e → Same before after n))

-- what is sent for a station goes to it, and it is connected before and after
pub record IsOwnTo (before after : List StationState) (station : Option ℕ) (a : Answer) : Type 0 where
  pub to : station ≡ Some a.station
  pub before_it : IsConnected before a.station
  pub after_it : IsConnected after a.station

pub record HappensSo (s : Sight) (event : Event) : Type 0 where
  pub own : All (IsOwnTo s.stations (sight_moved s event).stations (station_of event)) (happens s event).sent
  pub moves : MovesSo s.stations (sight_moved s event).stations (happens s event).destination

down_at : (state : StationState) → if_down state None (Some AlreadyUp) ≡ None → state ≡ Down
down_at Down is = refl
down_at Up is = absurd (cc is)
down_at (Ready tas) is = absurd (cc is)

not_down : (state : StationState) → if_down state (Some NotUp) None ≡ None → is_connected state ≡ true
not_down Down is = absurd (cc is)
not_down Up is = refl
not_down (Ready tas) is = refl

there_is : (stations : List StationState) (e : ℕ) → is_connected (station_at stations e) ≡ true → e < length stations
there_is [] e is = absurd (cc is)
there_is (x ∷ xs) zero is = omega arith
there_is (x ∷ xs) (suc e) is = let less = there_is xs e is in omega (arith, less)

other_station : (stations : List StationState) (e : ℕ) (new : StationState) (n : ℕ) → n ≢ e
    → station_at (slice_set stations e new) n ≡ station_at stations n
other_station stations e new n ne = get_or-set_other stations e n new Down ne

-- a station that is set up isn't one that is down
apart : (stations : List StationState) (e n : ℕ) → station_at stations e ≡ Down → IsReady stations n → n ≢ e
apart stations e n down ready same =
    true≢false (sym ready ∙ ap (λ (m : ℕ). is_ready (station_at stations m)) same ∙ ap is_ready down)

same_set : (stations : List StationState) (e : ℕ) (new : Option StationState) → new ≡ None
    → slice_set stations e (unwrap_or new (station_at stations e)) ≡ stations
same_set stations e new none =
    ap (λ (o : Option StationState). slice_set stations e (unwrap_or o (station_at stations e))) none ∙ set-get_or stations e Down

from_station : (s : Sight) (e : ℕ) (h : Outcome) → is_connected (station_at s.stations e) ≡ true
    → ComesOf s.stations e (station_at s.stations e) h
    → All (IsOwnTo s.stations (placed (Some e) h.state s.stations) (Some e)) h.sent
    × MovesSo s.stations (placed (Some e) h.state s.stations) h.destination
from_station s e h connected c =
    let after : IsConnected (placed (Some e) h.state s.stations) e =
    ap is_connected (get_or-set_same s.stations e (unwrap_or h.state (station_at s.stations e)) Down (there_is s.stations e connected))
    ∙ c.connected in (
      All-weaker (IsTo e) (IsOwnTo s.stations (placed (Some e) h.state s.stations) (Some e)) (λ a to. record {
        to = ap Some (sym to);
        before_it = subst (IsConnected s.stations) (sym to) connected;
        after_it = subst (IsConnected (placed (Some e) h.state s.stations)) (sym to) after;
      }) h.sent c.own,
      elim c.goes [
        | inl stays ↦ inl (
          λ n ready. ap (λ (ss : List StationState). station_at ss n) (same_set s.stations e h.state stays.0),
          stays.1,
        )
        | inr gone ↦ inr (e, gone, λ n ne. other_station s.stations e (unwrap_or h.state (station_at s.stations e)) n ne)
      ],
    )

slot_goes : (stations : List StationState) (o : Option ℕ) (item : Item) → ComesFromReady stations item
    → GoesFrom stations (to_slot o item)
slot_goes stations None item from = tt
slot_goes stations (Some slot) item from = from

pub happens_so : EntriesAreInRange → (s : Sight) (event : Event) → event_fault s event ≡ None → HappensSo s event
unfolding happens
happens_so entries s (UpEvent e) taken =
    let down = down_at (station_at s.stations e) taken in
    record {
      own = All-nil (IsOwnTo s.stations (placed (Some e) (Some Up) s.stations) (Some e));
      moves = inl (λ n ready. other_station s.stations e Up n (apart s.stations e n down ready), tt);
    }
happens_so entries s (LostEvent e) taken = record {
  own = All-nil (IsOwnTo s.stations (placed (Some e) (Some Down) s.stations) (Some e));
  moves = inr (e, refl, λ n ne. other_station s.stations e Down n ne);
}
happens_so entries s (InEvent e octets) taken =
    let connected = not_down (station_at s.stations e) taken in
    let so = from_station s e (outcome_of s.config.network s.profiles e (station_at s.stations e) (decoded octets.now)) connected
    (octets_so entries s.stations e (station_at s.stations e) refl connected s.config.network s.profiles octets.now (decoded octets.now) refl) in
    record { own = so.0; moves = so.1 }
happens_so entries s TickEvent taken =
    record { own = All-nil (IsOwnTo s.stations s.stations None); moves = inl (λ n ready. refl, refl) }
happens_so entries s (DataEvent imsi) taken = record {
  own = All-nil (IsOwnTo s.stations s.stations None);
  moves = inl (λ n ready. refl, slot_goes s.stations (slot_of_imsi imsi s.profiles) (Data s.stations) refl);
}
happens_so entries s (CancelEvent imsi) taken = record {
  own = All-nil (IsOwnTo s.stations s.stations None);
  moves = inl (λ n ready. refl, slot_goes s.stations (slot_of_imsi imsi s.profiles) Cancel tt);
}

-- ---- a station is left empty

whole_reset : (e : ℕ) (state : StationState) (t : ResetType) (n : ℕ) → emptied_by_reset e state t ≡ Some n
    → (reset e state t).destination ≡ to.Everyone (Gone n)
whole_reset e Down t n is = absurd (cc is)
whole_reset e Up t n is = absurd (cc is)
whole_reset e (Ready tas) (resets.All a) n is = ap (λ (m : ℕ). to.Everyone (Gone m)) (same_Some e n is)
whole_reset e (Ready tas) (resets.Part items) n is = absurd (cc is)

set_up_empties : (b : Bool) (e : ℕ) (x y : Outcome) (n : ℕ) → x.destination ≡ to.Everyone (Gone e)
    → y.destination ≡ to.Everyone (Gone e) → e ≡ n → (cond b x y).destination ≡ to.Everyone (Gone n)
set_up_empties true e x y n h k is = h ∙ ap (λ (m : ℕ). to.Everyone (Gone m)) is
set_up_empties false e x y n h k is = k ∙ ap (λ (m : ℕ). to.Everyone (Gone m)) is

octets_empty : (n : Network) (ps : List Profile) (e : ℕ) (state : StationState) (r : Result (Pdu (List ℕ)) S1apFault) (m : ℕ)
    → emptied_by e state r ≡ Some m → (outcome_of n ps e state r).destination ≡ to.Everyone (Gone m)
octets_empty n ps e state (Ok (pdu.S1SetupRequest p)) m is =
    set_up_empties (broadcasts n.plmn p.supported_tas) e _ _ m refl refl (same_Some e m is)
octets_empty n ps e state (Ok (pdu.Reset p)) m is = whole_reset e state p.reset_type m is
octets_empty n ps e state _ m is = absurd (cc is)

pub goes_to_all : (s : Sight) (event : Event) (e : ℕ) → emptied s event ≡ Some e
    → (happens s event).destination ≡ to.Everyone (Gone e)
unfolding happens
goes_to_all s (LostEvent n) e is = ap (λ (m : ℕ). to.Everyone (Gone m)) (same_Some n e is)
goes_to_all s (InEvent n octets) e is =
    octets_empty s.config.network s.profiles n (station_at s.stations n) (decoded octets.now) e is
goes_to_all s _ e is = absurd (cc is)
