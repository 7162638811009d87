-- Two events that name different slots may change places.
use Rattle.std.proofs.Common.{◌≡◌, ◌≢◌, ℕ, ◌+◌, List, [], ◌∷◌, ◌++◌, map, set, Bool, true, false, Option, Some, None, Result, Ok, Err, refl, sym, ◌∙◌, ap, ◌⊎◌, inl, inr}
use Rattle.std.specs.Prelude.{if◌then◌else◌, unwrap_or}
use Rattle.std.proofs.lemmas.Bool.{cases_eq}
use Rattle.std.proofs.lemmas.List.{set-get_or}
use Rattle.s1ap_elements.specs.declared.reset.ResetType.{ResetType}
use Rattle.s1ap_elements.specs.declared.reset.ResetType.TheVariants.{All, Part}
use Rattle.s1ap_rows.specs.declared.fault.S1apFault.{S1apFault}
use Rattle.s1ap_pdus.specs.declared.pdu.Pdu.{Pdu}
use Rattle.s1ap_pdus.specs.declared.pdu.Pdu.TheVariants as pdu
use Rattle.s1ap_pdus.specs.declared.pdu.InitialUeMessage.{InitialUeMessage}
use Rattle.s1ap_pdus.specs.Pdus.{decoded}
use Rattle.identity_slots.specs.declared.profile.Profile.{Profile}
use Rattle.identity_slots.specs.Ids.{is_of_slot}
use Rattle.identity_slots.specs.Provisioned.{slot_of_id, slot_of_imsi}
use Rattle.mme_types.specs.declared.event.UeMessage.{UeMessage}
use Rattle.mme_types.specs.declared.stations.StationState.{StationState}
use Rattle.mme_types.specs.declared.stations.StationState.TheVariants.{Down, Up, Ready}
use Rattle.mme_types.specs.Stations.{station_at}
use Rattle.mme_types.specs.Events.{Item, Nothing, Initial, Message, Data, Cancel}
use Rattle.emm_machine.specs.SubscriberView.{SubscriberView}
use Rattle.stranger_machine.specs.Turns.{sent_to}
use Rattle.mme_types.specs.declared.network.Network.{Network}
use Rattle.mme_core.specs.declared.event.Event.{Event}
use Rattle.mme_core.specs.declared.event.Event.TheVariants.{Up as UpEvent, Lost as LostEvent, In as InEvent, Tick as TickEvent, Data as DataEvent, Cancel as CancelEvent}
use Rattle.mme_core.specs.declared.event.StepFault.TheVariants.{NotUp}
use Rattle.mme_core.specs.Laws.{Exchanges, event_name, slot_named}
use Rattle.mme_routing.specs.Naming.{named_slot}
use Rattle.mme_core.specs.Sight.{Sight}
use Rattle.mme_routing.specs.Destinations.{Subscriber, Stranger, for_one, item_at, strangers_left}
use Rattle.mme_routing.specs.Outcomes.{Outcome, broadcasts, begins_anew, enters, entry_routed, entry_of, goes_to, outcome_of, outcome_of_message, setup_failure, setup_response, phone_message, phone_message_if, message_of_slot, ue_message_in}
use Rattle.mme_routing.specs.Resets.{reset}
use Rattle.mme_core.specs.World.{World, each_after, each_sent, event_fault, happens, if_down, if_known, items_of, world_moved, to_slot, outputs, reply, reply_of, sight_moved, slot_out, station_of, station_sent, strangers_in, strangers_sent, unless, subscriber_after, subscriber_step, world_after}
use Rattle.mme_answering.specs.Laws.{at_nothing, item_other, stays}

-- ---- subscribers, each of whom one of two events has nothing for

after_apart : (w : SubscriberView) (i j : Item) → (i ≡ Nothing) ⊎ (j ≡ Nothing)
    → subscriber_after (subscriber_after w i) j ≡ subscriber_after (subscriber_after w j) i
after_apart w i j (inl e) =
    ap (λ k. subscriber_after (subscriber_after w k) j) e ∙ ap (λ x. subscriber_after x j) (stays w)
    ∙ sym (ap (λ k. subscriber_after (subscriber_after w j) k) e ∙ stays (subscriber_after w j))
after_apart w i j (inr e) =
    ap (λ k. subscriber_after (subscriber_after w i) k) e ∙ stays (subscriber_after w i)
    ∙ sym (ap (λ k. subscriber_after (subscriber_after w k) i) e ∙ ap (λ x. subscriber_after x i) (stays w))

each_after_apart : (i j : ℕ → Item) → ((m : ℕ) → (i m ≡ Nothing) ⊎ (j m ≡ Nothing)) → (n : ℕ) (ws : List SubscriberView)
    → each_after j n (each_after i n ws) ≡ each_after i n (each_after j n ws)
each_after_apart i j apart n [] = refl
each_after_apart i j apart n (w ∷ ws) =
    ap (λ x. x ∷ each_after j (n + 1) (each_after i (n + 1) ws)) (after_apart w (i n) (j n) (apart n))
    ∙ ap (λ xs. subscriber_after (subscriber_after w (j n)) (i n) ∷ xs) (each_after_apart i j apart (n + 1) ws)

sent_apart : (w : SubscriberView) (i j : Item) → (i ≡ Nothing) ⊎ (j ≡ Nothing)
    → (subscriber_step (subscriber_after w i) j).sent ≡ (subscriber_step w j).sent
sent_apart w i j (inl e) =
    ap (λ k. (subscriber_step (subscriber_after w k) j).sent) e ∙ ap (λ x. (subscriber_step x j).sent) (stays w)
sent_apart w i j (inr e) =
    ap (λ k. (subscriber_step (subscriber_after w i) k).sent) e
    ∙ ap (λ d. d.sent) (at_nothing w.setting (subscriber_after w i).solo)
    ∙ sym (ap (λ k. (subscriber_step w k).sent) e ∙ ap (λ d. d.sent) (at_nothing w.setting w.solo))

each_sends_apart : (i j : ℕ → Item) → ((m : ℕ) → (i m ≡ Nothing) ⊎ (j m ≡ Nothing)) → (n : ℕ) (ws : List SubscriberView)
    → each_sent j n (each_after i n ws) ≡ each_sent j n ws
each_sends_apart i j apart n [] = refl
each_sends_apart i j apart n (w ∷ ws) =
    ap (λ sent. map (slot_out n) sent ++ each_sent j (n + 1) (each_after i (n + 1) ws)) (sent_apart w (i n) (j n) (apart n))
    ∙ ap (λ outs. map (slot_out n) (subscriber_step w (j n)).sent ++ outs) (each_sends_apart i j apart (n + 1) ws)

apart_slots : (s t : ℕ) (i j : Item) → s ≢ t → (m : ℕ) → (for_one s i m ≡ Nothing) ⊎ (for_one t j m ≡ Nothing)
apart_slots s t i j ne m = elim (cases_eq m s) [
  | inl same ↦ inr (item_other t m j (λ k. ne (sym same ∙ k)))
  | inr other ↦ inl (item_other s m i other)
]

-- ---- what a station sends that names a slot

-- it goes to the slot, and nothing else happens
record NamesIn (state : StationState) (h : Outcome) (slot : ℕ) : Type 0 where
  accepted : if_down state (Some NotUp) None ≡ None
  same : h.state ≡ None
  silent : h.sent ≡ []
  item : Item
  goes : h.destination ≡ Subscriber slot item

-- a station that is ready names one
named_in : (state : StationState) (n slot : ℕ) (item : Item) → if_down state (Some NotUp) None ≡ None → Some n ≡ Some slot
    → NamesIn state (goes_to (Subscriber n item)) slot
named_in state n slot item up is =
    let same : n ≡ slot = cc in
    record { accepted = up; same = refl; silent = refl; item = item; goes = ap (λ k. Subscriber k item) same }

named_set_up : (b : Bool) (x y : Outcome) (state : StationState) (slot : ℕ) → slot_named x.destination ≡ None
    → slot_named y.destination ≡ None
    → slot_named (if b then x else y).destination ≡ Some slot → NamesIn state (if b then x else y) slot
named_set_up true x y state slot h k is = cc
named_set_up false x y state slot h k is = cc

named_reset : (e : ℕ) (state : StationState) (t : ResetType) (slot : ℕ) → slot_named (reset e state t).destination ≡ Some slot
    → NamesIn state (reset e state t) slot
named_reset e Down t slot is = cc
named_reset e Up t slot is = cc
named_reset e (Ready tas) (All all) slot is = cc
named_reset e (Ready tas) (Part items) slot is = cc

named_entry : (o : Option ℕ) (e : ℕ) (state : StationState) (m : InitialUeMessage (List ℕ)) (slot : ℕ)
    → if_down state (Some NotUp) None ≡ None
    → slot_named (entry_routed o e m).destination ≡ Some slot → NamesIn state (entry_routed o e m) slot
named_entry None e state m slot up is = cc
named_entry (Some n) e state m slot up is = named_in state n slot (Initial (entry_of e m)) up is

named_enters : (n : Network) (ps : List Profile) (e : ℕ) (state : StationState) (m : InitialUeMessage (List ℕ)) (slot : ℕ)
    → slot_named (enters n ps e state m).destination ≡ Some slot → NamesIn state (enters n ps e state m) slot
named_enters n ps e Down m slot is = cc
named_enters n ps e Up m slot is = cc
named_enters n ps e (Ready tas) m slot is = named_entry (named_slot n ps m.nas m.s_tmsi) e (Ready tas) m slot refl is

named_by_slot : (b : Bool) (o : Option ℕ) (r : Outcome) (state : StationState) (m : UeMessage (List ℕ)) (slot : ℕ)
    → if_down state (Some NotUp) None ≡ None → slot_named r.destination ≡ None
    → slot_named (if b then message_of_slot o m else r).destination ≡ Some slot
    → NamesIn state (if b then message_of_slot o m else r) slot
named_by_slot true (Some n) r state m slot up none is = named_in state n slot (Message m) up is
named_by_slot true None r state m slot up none is = cc
named_by_slot false o r state m slot up none is = cc

named_phone : (ps : List Profile) (state : StationState) (m : UeMessage (List ℕ)) (slot : ℕ)
    → slot_named (phone_message ps state m).destination ≡ Some slot → NamesIn state (phone_message ps state m) slot
named_phone ps Down m slot is = cc
named_phone ps Up m slot is = cc
named_phone ps (Ready tas) m slot is =
    named_by_slot (is_of_slot m.mme_ue_id) (slot_of_id m.mme_ue_id ps) (goes_to (Stranger m)) (Ready tas) m slot refl refl is

named_phone_if : (ps : List Profile) (e : ℕ) (state : StationState) (o : Option (UeMessage (List ℕ))) (slot : ℕ)
    → slot_named (phone_message_if ps e state o).destination ≡ Some slot → NamesIn state (phone_message_if ps e state o) slot
named_phone_if ps e state (Some m) slot is = named_phone ps state m slot is
named_phone_if ps e state None slot is = cc

named_message : (n : Network) (ps : List Profile) (e : ℕ) (state : StationState) (m : Pdu (List ℕ)) (slot : ℕ)
    → slot_named (outcome_of_message n ps e state m).destination ≡ Some slot
    → NamesIn state (outcome_of_message n ps e state m) slot
named_message n ps e state (pdu.S1SetupRequest m) slot is =
    named_set_up (broadcasts n.plmn m.supported_tas) (begins_anew e (Some (Ready m.supported_tas)) (sent_to e (setup_response n)))
    (begins_anew e (Some Up) (sent_to e setup_failure)) state slot refl refl is
named_message n ps e state (pdu.Reset m) slot is = named_reset e state m.reset_type slot is
named_message n ps e state (pdu.ErrorIndication m) slot is = cc
named_message n ps e state (pdu.ResetAcknowledge m) slot is = cc
named_message n ps e state (pdu.InitialUeMessage m) slot is = named_enters n ps e state m slot is
named_message n ps e state m slot is = named_phone_if ps e state (ue_message_in e m) slot is

named_heard : (n : Network) (ps : List Profile) (e : ℕ) (state : StationState) (r : Result (Pdu (List ℕ)) S1apFault) (slot : ℕ)
    → slot_named (outcome_of n ps e state r).destination ≡ Some slot → NamesIn state (outcome_of n ps e state r) slot
named_heard n ps e state (Err fault) slot is = cc
named_heard n ps e state (Ok m) slot is = named_message n ps e state m slot is

-- ---- an event that names a slot

-- it is accepted, goes to the slot alone, and nothing else happens
record Names (s : Sight) (event : Event) (slot : ℕ) : Type 0 where
  accepted : event_fault s event ≡ None
  same : sight_moved s event ≡ s
  silent : (happens s event).sent ≡ []
  item : Item
  goes : (happens s event).destination ≡ Subscriber slot item

named_if : (o : Option ℕ) (item : Item) (slot : ℕ) → slot_named (to_slot o item) ≡ Some slot
    → (if_known o ≡ None) × (to_slot o item ≡ Subscriber slot item)
named_if None item slot is = absurd cc
named_if (Some n) item slot is =
    let same : n ≡ slot = cc in
    (refl, ap (λ k. Subscriber k item) same)

names : (s : Sight) (event : Event) (slot : ℕ) → event_name s event ≡ Some slot → Names s event slot
unfolding happens
names s (UpEvent e) slot is = cc
names s (LostEvent e) slot is = cc
names s (InEvent e octets) slot is =
    let n = named_heard s.config.network s.profiles e (station_at s.stations e) (decoded octets.now) slot is in
    record {
      accepted = n.accepted;
      silent = n.silent;
      item = n.item;
      goes = n.goes;
      same = ap (λ (stations : List StationState). record { config = s.config; clock = s.clock; stations = stations; profiles = s.profiles })
          (ap (λ state. set s.stations e (unwrap_or state (station_at s.stations e))) n.same ∙ set-get_or s.stations e Down);
    }
names s TickEvent slot is = cc
names s (DataEvent imsi) slot is =
    let n = named_if (slot_of_imsi imsi s.profiles) (Data s.stations) slot is in
    record { accepted = n.0; same = refl; silent = refl; item = Data s.stations; goes = n.1 }
names s (CancelEvent imsi) slot is =
    let n = named_if (slot_of_imsi imsi s.profiles) Cancel slot is in
    record { accepted = n.0; same = refl; silent = refl; item = Cancel; goes = n.1 }

-- ---- the MME at such an event

named_items : (w : World) (event : Event) (slot : ℕ) (n : Names w.sight event slot)
    → items_of w.sight (strangers_in w) event ≡ for_one slot n.item
named_items w event slot n = ap (λ d. item_at d w.sight.profiles (strangers_in w)) n.goes

named_after : (w : World) (event : Event) (slot : ℕ) (n : Names w.sight event slot)
    → world_after w event ≡ record { sight = w.sight; strangers = w.strangers; subscribers = each_after (for_one slot n.item) 0 w.subscribers }
named_after w event slot n =
    let each = each_after (items_of w.sight (strangers_in w) event) 0 w.subscribers in
    ap (λ o. unless o w (world_moved w event)) n.accepted
    ∙ ap (λ (s : Sight). record { sight = s; strangers = strangers_left w.sight.profiles (happens w.sight event).destination w.strangers; subscribers = each }) n.same
    ∙ ap (λ d. record { sight = w.sight; strangers = strangers_left w.sight.profiles d w.strangers; subscribers = each }) n.goes
    ∙ ap (λ items. record { sight = w.sight; strangers = w.strangers; subscribers = each_after items 0 w.subscribers }) (named_items w event slot n)

nothing_said : (o : Option ℕ) → station_sent o [] ≡ []
nothing_said None = refl
nothing_said (Some e) = refl

named_reply : (w : World) (event : Event) (slot : ℕ) (n : Names w.sight event slot)
    → reply w event ≡ Ok (each_sent (for_one slot n.item) 0 w.subscribers)
named_reply w event slot n =
    let others = strangers_sent w.sight.profiles (happens w.sight event).destination w.strangers in
    let each = each_sent (items_of w.sight (strangers_in w) event) 0 w.subscribers in
    ap (λ o. reply_of o (outputs w event)) n.accepted
    ∙ ap (λ sent. Ok (station_sent (station_of event) sent ++ (others ++ each))) n.silent
    ∙ ap (λ outs. Ok (outs ++ (others ++ each))) (nothing_said (station_of event))
    ∙ ap (λ d. Ok (strangers_sent w.sight.profiles d w.strangers ++ each)) n.goes
    ∙ ap (λ items. Ok (each_sent items 0 w.subscribers)) (named_items w event slot n)

exchanged : (w : World) (a b : Event) (s t : ℕ) → Names w.sight a s → Names w.sight b t → s ≢ t
    → (world_after (world_after w a) b ≡ world_after (world_after w b) a) × (reply (world_after w a) b ≡ reply w b)
    × (reply (world_after w b) a ≡ reply w a)
exchanged w a b s t p q ne =
    let i = for_one s p.item in
    let j = for_one t q.item in
    let apart = apart_slots s t p.item q.item ne in
    let back = apart_slots t s q.item p.item (λ same. ne (sym same)) in
    let first : World = record { sight = w.sight; strangers = w.strangers; subscribers = each_after i 0 w.subscribers } in
    let second : World = record { sight = w.sight; strangers = w.strangers; subscribers = each_after j 0 w.subscribers } in (
      ap (λ v. world_after v b) (named_after w a s p) ∙ named_after first b t q
          ∙ ap (λ (ws : List SubscriberView). record { sight = w.sight; strangers = w.strangers; subscribers = ws }) (each_after_apart i j apart 0 w.subscribers)
          ∙ sym (ap (λ v. world_after v a) (named_after w b t q) ∙ named_after second a s p),
      ap (λ v. reply v b) (named_after w a s p) ∙ named_reply first b t q ∙ ap Ok (each_sends_apart i j apart 0 w.subscribers)
          ∙ sym (named_reply w b t q),
      ap (λ v. reply v a) (named_after w b t q) ∙ named_reply second a s p ∙ ap Ok (each_sends_apart j i back 0 w.subscribers)
          ∙ sym (named_reply w a s p),
    )

pub exchanges : Exchanges
exchanges w a b s t p q ne = exchanged w a b s t (names w.sight a s p) (names w.sight b t q) ne
