-- The lines of a stranger: each stranger that sends has an id that is made of one of 128 stations and a number.
use Rattle.std.proofs.Common.{◌≡◌, ℕ, zero, suc, ◌^◌, ◌<◌, ◌≤◌, ◌==◌, Bool, true, false, cond, List, [], ◌∷◌, length, map, Option, Some, None, Result, Ok, Err, refl, sym, ap, subst, ◌∙◌, inl, inr, arith}
use Rattle.std.specs.Prelude.{option_map}
use Rattle.std.proofs.lemmas.Bool.{cases_eq, eq-eqb, ne_eqb}
use Rattle.std.proofs.lemmas.Bool.Decides.{nat_tests}
use Rattle.sorted_list.specs.Laws.{at_over}
use Rattle.sorted_list.specs.Ordered.{Every, Rising, at}
use Rattle.s1ap_elements.specs.declared.reset.ResetType.{ResetType}
use Rattle.s1ap_elements.specs.declared.reset.ResetType.TheVariants.{All, Part}
use Rattle.s1ap_rows.specs.declared.fault.S1apFault.{S1apFault}
use Rattle.s1ap_pdus.specs.declared.pdu.InitialUeMessage.{InitialUeMessage}
use Rattle.s1ap_pdus.specs.declared.pdu.Pdu.{Pdu}
use Rattle.s1ap_pdus.specs.declared.pdu.Pdu.TheVariants as pdu
use Rattle.s1ap_pdus.specs.Pdus.{decoded}
use Rattle.identity_slots.specs.declared.profile.Profile.{Profile}
use Rattle.identity_slots.specs.Ids.{is_of_slot, station_in, stranger_id, strangers}
use Rattle.identity_slots.specs.Provisioned.{slot_of_id, slot_of_imsi}
use Rattle.mme_types.specs.declared.event.UeMessage.{UeMessage}
use Rattle.mme_types.specs.declared.network.Network.{Network}
use Rattle.mme_types.specs.declared.stations.StationState.{StationState}
use Rattle.mme_types.specs.declared.stations.StationState.TheVariants.{Down, Up, Ready}
use Rattle.mme_types.specs.Events.{Item}
use Rattle.mme_types.specs.Stations.{station_at}
use Rattle.stranger_machine.specs.declared.state.Stranger.{Stranger as StrangerState}
use Rattle.stranger_machine.specs.declared.state.Stranger.TheVariants.{Waiting, Held}
use Rattle.stranger_machine.specs.declared.table.Known.{Known}
use Rattle.stranger_machine.specs.declared.turn.Notice.{Notice}
use Rattle.stranger_machine.specs.declared.turn.Notice.TheVariants.{Tick, Gone, Listed}
use Rattle.stranger_machine.specs.Machine.{Begins, Receives, is_meant, loses, notes, stranger_step, ticks, unlists}
use Rattle.stranger_machine.specs.Table.{known_id, stranger_at}
use Rattle.stranger_machine.specs.Turns.{closing, stays}
use Rattle.mme_routing.specs.Naming.{named_slot}
use Rattle.mme_routing.specs.Destinations.{Destination}
use Rattle.mme_routing.specs.Destinations as to
use Rattle.mme_routing.specs.Outcomes.{Outcome, begins_anew, broadcasts, enters, entry_of, entry_routed, goes_to, message_of_slot, outcome_of, outcome_of_message, phone_message_if, ue_message_in}
use Rattle.mme_routing.specs.Resets.{reset}
use Rattle.mme_answering.specs.declared.out.Owner.TheVariants.{Stranger}
use Rattle.mme_answering.specs.Sending.{each_known, strangers_sent, stranger_out}
use Rattle.mme_core.specs.Apart.{AreApart, IdsBeginApart, IdsStayApart}
use Rattle.mme_core.specs.declared.event.Event.{Event}
use Rattle.mme_core.specs.declared.event.Event.TheVariants.{Up as UpEvent, Lost as LostEvent, In as InEvent, Tick as TickEvent, Data as DataEvent, Cancel as CancelEvent}
use Rattle.mme_core.specs.Kept.{BeginsKept, IsKept, StaysKept}
use Rattle.mme_core.specs.Projection.{stranger_told}
use Rattle.mme_core.specs.Sight.{Sight}
use Rattle.mme_core.specs.World.{World, happens, replies, to_slot, world_after}
use Rattle.laws_apart.specs.Alone.{WaitsMade}
use Rattle.laws_network.specs.SubscriberRanges.{EntryInRange, MessageInRange}
use Rattle.laws_network.specs.Received.{EntriesAreInRange, MessagesAreInRange}
use Rattle.laws_network.specs.Placed.{AllPlaced, BeginsPlaced, IsReady, IsStrangerPlaced, StaysPlaced}
use Rattle.laws_mme.specs.OwnersAlone.{StrangerIsTold}
use Rattle.laws_simulation.specs.OwnLines.{StrangerIsPrinted, StrangerIsPrintedFrom}
use Rattle.laws_simulation.specs.Printed.{lines_for, told_lines}
use Rattle.laws_simulation.specs.TraceRuns.{events_in}
use Rattle.laws_simulation.proofs.BegunRuns.{run_printed}
use Rattle.laws_simulation.proofs.MessageLines.{AllAgree, all_agree}
use Rattle.laws_simulation.proofs.Names.{IsStrangerId, agree_stranger_slot, agree_stranger_station, agree_strangers}
use Rattle.laws_simulation.proofs.Owners.{mapped_agree, reply_agrees}
use Rattle.laws_simulation.proofs.Played.{EachAgrees, lines_printed}
use Rattle.laws_simulation.proofs.SlotLines.{begins_apart}
use Rattle.laws_simulation.proofs.StationLines.{EachLow, StationLow, events_low}

-- ---- where an event goes

-- the id of the stranger that it goes to, if it goes to one
abbrev GoesToId : Destination → Type 0
GoesToId (to.Beginner id m) = IsStrangerId id
GoesToId (to.Stranger m) = IsStrangerId m.mme_ue_id
GoesToId _ = Unit {0}

made_id : (e n : ℕ) → e < 128 → n < 2 ^ 24 → IsStrangerId (stranger_id e n)
made_id e n low less = record { from = omega arith; station = omega (arith, low, less) }

other_id : (id : ℕ) → is_of_slot id ≡ false → id < 2 ^ 32 → IsStrangerId id
other_id id is less =
    let over : strangers ≤ id = grind (arith, nat_tests, is) in record { from = over; station = omega (arith, less, over) }

entry_goes : (o : Option ℕ) (e : ℕ) (m : InitialUeMessage (List ℕ)) → e < 128 → EntryInRange (entry_of e m)
    → GoesToId (entry_routed o e m).destination
entry_goes (Some slot) e m low fits = tt
entry_goes None e m low fits = made_id e m.enb_ue_id low fits.enb_ue_id

enters_so : (n : Network) (ps : List Profile) (e : ℕ) (state : StationState) (m : InitialUeMessage (List ℕ)) → e < 128
    → EntryInRange (entry_of e m) → GoesToId (enters n ps e state m).destination
enters_so n ps e Down m low fits = tt
enters_so n ps e Up m low fits = tt
enters_so n ps e (Ready tas) m low fits = entry_goes (named_slot n ps m.nas m.s_tmsi) e m low fits

of_slot : (o : Option ℕ) (m : UeMessage (List ℕ)) → GoesToId (message_of_slot o m).destination
of_slot (Some slot) m = tt
of_slot None m = tt

by_id : (b : Bool) (o : Option ℕ) (m : UeMessage (List ℕ)) → (b ≡ false → IsStrangerId m.mme_ue_id)
    → GoesToId (cond b (message_of_slot o m) (goes_to (to.Stranger m))).destination
by_id true o m fits = of_slot o m
by_id false o m fits = fits refl

phone_goes : (ps : List Profile) (e : ℕ) (state : StationState) (o : Option (UeMessage (List ℕ)))
    → ((m : UeMessage (List ℕ)) → o ≡ Some m → MessageInRange m) → GoesToId (phone_message_if ps e state o).destination
phone_goes ps e state None fits = tt
phone_goes ps e Down (Some m) fits = tt
phone_goes ps e Up (Some m) fits = tt
phone_goes ps e (Ready tas) (Some m) fits =
    by_id (is_of_slot m.mme_ue_id) (slot_of_id m.mme_ue_id ps) m (λ is. other_id m.mme_ue_id is (fits m refl).mme_ue_id)

reset_goes : (e : ℕ) (state : StationState) (t : ResetType) → GoesToId (reset e state t).destination
reset_goes e Down t = tt
reset_goes e Up t = tt
reset_goes e (Ready tas) (All a) = tt
reset_goes e (Ready tas) (Part items) = tt

set_up_goes : (b : Bool) (x y : Outcome) → GoesToId x.destination → GoesToId y.destination → GoesToId (cond b x y).destination
set_up_goes true x y h k = h
set_up_goes false x y h k = k

slot_goes : (o : Option ℕ) (item : Item) → GoesToId (to_slot o item)
slot_goes None item = tt
slot_goes (Some slot) item = tt

module _ (entries : EntriesAreInRange) (messages : MessagesAreInRange) where
  message_goes : (n : Network) (ps : List Profile) (e : ℕ) (state : StationState) (os : List ℕ) (p : Pdu (List ℕ))
      → decoded os ≡ Ok p → e < 128 → GoesToId (outcome_of_message n ps e state p).destination
  message_goes n ps e state os (pdu.S1SetupRequest m) is low =
      set_up_goes (broadcasts n.plmn m.supported_tas) (begins_anew e _ _) (begins_anew e _ _) tt tt
  message_goes n ps e state os (pdu.Reset m) is low = reset_goes e state m.reset_type
  message_goes n ps e state os (pdu.ErrorIndication m) is low = tt
  message_goes n ps e state os (pdu.ResetAcknowledge m) is low = tt
  message_goes n ps e state os (pdu.InitialUeMessage m) is low = enters_so n ps e state m low (entries os e m is)
  message_goes n ps e state os p is low = phone_goes ps e state (ue_message_in e p) (λ m told. messages os e p m is told)

  octets_go : (n : Network) (ps : List Profile) (e : ℕ) (state : StationState) (os : List ℕ) (r : Result (Pdu (List ℕ)) S1apFault)
      → decoded os ≡ r → e < 128 → GoesToId (outcome_of n ps e state r).destination
  octets_go n ps e state os (Ok p) is low = message_goes n ps e state os p is low
  octets_go n ps e state os (Err fault) is low = tt

  pub event_goes : (s : Sight) (event : Event) → StationLow event → GoesToId (happens s event).destination
  unfolding happens
  event_goes s (UpEvent e) low = tt
  event_goes s (LostEvent e) low = tt
  event_goes s (InEvent e octets) low =
      octets_go s.config.network s.profiles e (station_at s.stations e) octets.now (decoded octets.now) refl (low e refl)
  event_goes s TickEvent low = tt
  event_goes s (DataEvent imsi) low = slot_goes (slot_of_imsi imsi s.profiles) _
  event_goes s (CancelEvent imsi) low = slot_goes (slot_of_imsi imsi s.profiles) _

-- ---- those that a notice comes to

silent_either : (b : Bool) (s : Option StrangerState) → (cond b (closing []) (stays s [])).sent ≡ []
silent_either true s = refl
silent_either false s = refl

-- one that is held sends nothing
held_silent : (id slot : ℕ) (notice : Notice) → (notes id (Some (Held slot)) notice).sent ≡ []
unfolding notes ticks loses unlists
held_silent id slot Tick = refl
held_silent id slot (Gone e) = silent_either (station_in id == e) (Some (Held slot))
held_silent id slot (Listed e items) = silent_either (is_meant id e items) (Some (Held slot))

ready_below : (stations : List StationState) (e : ℕ) → IsReady stations e → e < length stations
ready_below [] e is = absurd (cc is)
ready_below (s ∷ stations) zero is = omega arith
ready_below (s ∷ stations) (suc e) is = let less = ready_below stations e is in omega (arith, less)

one_agrees : (id : ℕ) → IsStrangerId id → (stations : List StationState) → length stations ≡ 128 → (notice : Notice)
    → (n : ℕ) (s : StrangerState) → WaitsMade n (Some s) → IsReady stations (station_in n)
    → AllAgree (Stranger id) (map (stranger_out n) (notes n (Some s) notice).sent)
one_agrees id h stations many notice n (Waiting k left repeats) made ready =
    let is = made.made in
    let low = ready_below stations (station_in n) ready in
    mapped_agree (Stranger id) (Stranger n) (notes n (Some (Waiting k left repeats)) notice).sent
    (agree_strangers id n h (record { from = omega (arith, is); station = omega (arith, low, many) }))
one_agrees id h stations many notice n (Held slot) made ready =
    subst (λ sent. AllAgree (Stranger id) (map (stranger_out n) sent)) (sym (held_silent n slot notice)) tt

-- each in the table, by its own id
head_waits : (k : Known) (ks : List Known) → ((id : ℕ) → WaitsMade id (stranger_at id (k ∷ ks))) → WaitsMade k.id (Some k.stranger)
head_waits k ks waits =
    subst (λ b. WaitsMade k.id (option_map (λ (x : Known). x.stranger) (cond b (Some k) (at known_id k.id ks)))) (eq-eqb k.id k.id refl) (waits k.id)

tail_waits : (k : Known) (ks : List Known) → Rising known_id (k ∷ ks) → ((id : ℕ) → WaitsMade id (stranger_at id (k ∷ ks)))
    → (id : ℕ) → WaitsMade id (stranger_at id ks)
tail_waits k ks rising waits id = elim (cases_eq k.id id) [
  | inl is ↦
      subst (λ (n : ℕ). WaitsMade n (stranger_at n ks)) is
      (subst (λ (o : Option Known). WaitsMade k.id (option_map (λ x. x.stranger) o)) (sym (at_over known_id k.id ks rising.0)) tt)
  | inr ne ↦
      subst (λ b. WaitsMade id (option_map (λ (x : Known). x.stranger) (cond b (Some k) (at known_id id ks)))) (ne_eqb k.id id ne) (waits id)
]

known_agree : (id : ℕ) → IsStrangerId id → (stations : List StationState) → length stations ≡ 128 → (notice : Notice)
    → (ks : List Known) → Rising known_id ks → ((n : ℕ) → WaitsMade n (stranger_at n ks))
    → Every (IsStrangerPlaced stations) ks → AllAgree (Stranger id) (each_known notice ks)
known_agree id h stations many notice [] rising waits placed = tt
known_agree id h stations many notice (k ∷ ks) rising waits placed =
    all_agree (Stranger id) (map (stranger_out k.id) (notes k.id (Some k.stranger) notice).sent) (each_known notice ks)
    (one_agrees id h stations many notice k.id k.stranger (head_waits k ks waits) placed.0.ready)
    (known_agree id h stations many notice ks rising.1 (tail_waits k ks rising waits) placed.1)

-- ---- one event

strangers_agree : (id : ℕ) → IsStrangerId id → (stations : List StationState) → length stations ≡ 128 → (ps : List Profile)
    → (d : Destination) → GoesToId d → (ks : List Known) → Rising known_id ks → ((n : ℕ) → WaitsMade n (stranger_at n ks))
    → Every (IsStrangerPlaced stations) ks → AllAgree (Stranger id) (strangers_sent ps d ks)
strangers_agree id h stations many ps to.Nobody goes ks rising waits placed = tt
strangers_agree id h stations many ps (to.Subscriber n item) goes ks rising waits placed = tt
strangers_agree id h stations many ps (to.Beginner n m) goes ks rising waits placed =
    mapped_agree (Stranger id) (Stranger n) (stranger_step ps n (stranger_at n ks) (Begins m)).sent (agree_strangers id n h goes)
strangers_agree id h stations many ps (to.Stranger m) goes ks rising waits placed =
    mapped_agree (Stranger id) (Stranger m.mme_ue_id) (stranger_step ps m.mme_ue_id (stranger_at m.mme_ue_id ks) (Receives m)).sent
    (agree_strangers id m.mme_ue_id h goes)
strangers_agree id h stations many ps (to.Everyone notice) goes ks rising waits placed =
    known_agree id h stations many notice ks rising waits placed

-- ---- a list of events

module _ (entries : EntriesAreInRange) (messages : MessagesAreInRange) (kept : StaysKept) (stay : IdsStayApart) (placed : StaysPlaced) where
  stranger_agrees : (id : ℕ) → IsStrangerId id → (w : World) (es : List Event) → EachLow es → IsKept w → AreApart w → AllPlaced w
      → EachAgrees (Stranger id) (replies w es)
  stranger_agrees id h w [] low is apart there = tt
  stranger_agrees id h w (e ∷ es) low is apart there = (
    reply_agrees (Stranger id) w e (λ n said. agree_stranger_station id n)
        (strangers_agree id h w.sight.stations is.stations w.sight.profiles (happens w.sight e).destination (event_goes entries messages w.sight e low.0) w.strangers apart.rising apart.waiting there.strangers)
        (λ k below. agree_stranger_slot id k),
    stranger_agrees id h (world_after w e) es low.1 (kept w (e ∷ []) is) (stay w (e ∷ []) apart) (placed w (e ∷ []) there),
  )

  pub stranger_is_printed_from : StrangerIsTold → StrangerIsPrintedFrom
  stranger_is_printed_from told w line texts e enb_ue_id is apart there low less =
      let id = stranger_id e enb_ue_id in
      lines_printed (Stranger id) w line texts
      (stranger_agrees id (made_id e enb_ue_id low less) w (events_in w texts) (events_low w texts) is apart there)
      ∙ ap (told_lines (Stranger id)) (told w (events_in w texts) id is.rising)

  pub stranger_is_printed : BeginsKept → IdsBeginApart → BeginsPlaced → StrangerIsTold → StrangerIsPrinted
  stranger_is_printed begins_kept begins begins_placed told octets run e enb_ue_id is low less =
      let r = run_printed octets run is in
      let id = stranger_id e enb_ue_id in
      ap (lines_for (Stranger id)) r.printed
      ∙ stranger_is_printed_from told run.mme r.number r.texts e enb_ue_id
      (subst IsKept (sym r.fresh) (begins_kept r.config r.provisioned)) (begins_apart begins octets run r)
      (subst AllPlaced (sym r.fresh) (begins_placed r.config r.provisioned)) low less
      ∙ ap (λ events. told_lines (Stranger id) (stranger_told run.mme.sight id (stranger_at id run.mme.strangers) events)) (sym r.events)
      ∙ ap (λ (w : World). told_lines (Stranger id) (stranger_told run.mme.sight id (stranger_at id w.strangers) run.events)) r.fresh
