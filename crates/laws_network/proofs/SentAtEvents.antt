-- The whole output of an event: how much it is, and as what it is read.
use Rattle.std.proofs.Common.{◌≡◌, ◌≤◌, ◌<◌, ℕ, ◌+◌, Bool, true, false, cond, inl, inr, List, [], ◌∷◌, ◌++◌, map, length, max, All, Option, Some, None, Ok, refl, sym, ap, subst, arith}
use Rattle.std.specs.Prelude.{◌==◌}
use Rattle.std.proofs.lemmas.Bool.{eqb-true}
use Rattle.std.proofs.lemmas.Bool.Decides.{nat_tests}
use Rattle.std.proofs.lemmas.List.{length-append, length-map}
use Rattle.std.proofs.lemmas.List.Elements.{All-append, All-map, All-nil, All-weaker}
use Rattle.std.proofs.lemmas.Result.{IfOk-at_ok}
use Rattle.s1ap_pdus.specs.declared.pdu.Pdu.{Pdu}
use Rattle.s1ap_pdus.specs.Pdus.{decoded, encoded}
use Rattle.identity_slots.specs.declared.profile.Profile.{Profile}
use Rattle.identity_slots.specs.Provisioned.{slot_of_imsi}
use Rattle.mme_types.specs.declared.octets.Answer.{Answer}
use Rattle.mme_types.specs.Events as items
use Rattle.mme_types.specs.Events.{Item}
use Rattle.mme_types.specs.Stations.{station_at}
use Rattle.emm_state.specs.declared.setting.Setting.{Setting}
use Rattle.emm_state.specs.declared.solo.Solo.{Solo}
use Rattle.emm_machine.specs.Steps.{solo_step}
use Rattle.emm_machine.specs.SubscriberView.{SubscriberView}
use Rattle.stranger_machine.specs.declared.state.Stranger.{Stranger}
use Rattle.stranger_machine.specs.declared.table.Known.{Known}
use Rattle.stranger_machine.specs.declared.turn.Notice.{Notice}
use Rattle.stranger_machine.specs.declared.turn.Notice.TheVariants as notices
use Rattle.stranger_machine.specs.Machine.{Begins, Receives, is_of_station, notes}
use Rattle.stranger_machine.specs.Table.{stranger_at}
use Rattle.stranger_machine.specs.Turns.{Call}
use Rattle.mme_routing.specs.Destinations.{Destination, for_one, if_called, item_at}
use Rattle.mme_routing.specs.Destinations as to
use Rattle.mme_routing.specs.Outcomes.{Outcome}
use Rattle.mme_answering.specs.declared.out.Out.{Out}
use Rattle.mme_core.specs.declared.event.Event.{Event}
use Rattle.mme_core.specs.declared.event.Event.TheVariants.{Up as UpEvent, Lost as LostEvent, In as InEvent, Tick as TickEvent, Data as DataEvent, Cancel as CancelEvent}
use Rattle.mme_core.specs.declared.event.StepFault.{StepFault}
use Rattle.mme_core.specs.Sight.{Sight}
use Rattle.mme_core.specs.World.{World, each_known, each_sent, event_fault, happens, items_of, outputs, reply_of, slot_out, station_of, station_out, station_sent, stranger_out, strangers_in, strangers_sent, subscriber_step, to_slot}
use Rattle.laws_mme.specs.Work.{SendsAtMost, paged_again}
use Rattle.laws_network.specs.Few.{EventsSendFew, most_at, most_at_tick}
use Rattle.laws_network.specs.Kinds.{EverythingIsOfAnMme, IsReadAsSuch, is_for_station, is_for_stranger, is_for_subscriber}
use Rattle.laws_network.proofs.Outcomes.{IsFewOutcome, goes_nowhere, goes_to_phone, outcome_few}
use Rattle.laws_network.proofs.SentByMachines.{AreFew, CallsAlone, IsOfKind, is_of_phone, is_quiet, noted_few, noted_silent, phone_of_kind, silent_few, turned_few}

-- ---- as what it is read

of_station : (e : ℕ) (sent : List Answer) → All (IsOfKind is_for_station) sent → All IsReadAsSuch (map (station_out e) sent)
of_station e sent all =
    All-map IsReadAsSuch (station_out e) sent
    (All-weaker (IsOfKind is_for_station) (λ a. IsReadAsSuch (station_out e a))
    (λ a k. record { message = k.message; reads = k.reads; kind = k.is }) sent all)

of_stranger : (id : ℕ) (sent : List Answer) → All (IsOfKind is_for_stranger) sent → All IsReadAsSuch (map (stranger_out id) sent)
of_stranger id sent all =
    All-map IsReadAsSuch (stranger_out id) sent
    (All-weaker (IsOfKind is_for_stranger) (λ a. IsReadAsSuch (stranger_out id a))
    (λ a k. record { message = k.message; reads = k.reads; kind = k.is }) sent all)

of_slot : (slot : ℕ) (sent : List Answer) → All (IsOfKind is_for_subscriber) sent → All IsReadAsSuch (map (slot_out slot) sent)
of_slot slot sent all =
    All-map IsReadAsSuch (slot_out slot) sent
    (All-weaker (IsOfKind is_for_subscriber) (λ a. IsReadAsSuch (slot_out slot a))
    (λ a k. record { message = k.message; reads = k.reads; kind = k.is }) sent all)

own_read : (o : Option ℕ) (sent : List Answer) → All (IsOfKind is_for_station) sent → All IsReadAsSuch (station_sent o sent)
own_read None sent all = All-nil IsReadAsSuch
own_read (Some e) sent all = of_station e sent all

module _ (written : (m : Pdu (List ℕ)) (os : List ℕ) → encoded m ≡ Some os → decoded os ≡ Ok m) where
  own_few : (s : Sight) (event : Event) → AreFew is_for_station 1 (happens s event).sent
  unfolding happens
  own_few s (UpEvent e) = silent_few is_for_station 1
  own_few s (LostEvent e) = silent_few is_for_station 1
  own_few s (InEvent e octets) =
      (outcome_few written s.config.network s.profiles e (station_at s.stations e) (decoded octets.now)).own
  own_few s TickEvent = silent_few is_for_station 1
  own_few s (DataEvent imsi) = silent_few is_for_station 1
  own_few s (CancelEvent imsi) = silent_few is_for_station 1

  known_read : (notice : Notice) (ks : List Known) → All IsReadAsSuch (each_known notice ks)
  known_read notice [] = All-nil IsReadAsSuch
  known_read notice (k ∷ ks) =
      All-append IsReadAsSuch _ _ (of_stranger k.id _ (noted_few written k.id (Some k.stranger) notice).read) (known_read notice ks)

  strangers_read : (ps : List Profile) (d : Destination) (ks : List Known) → All IsReadAsSuch (strangers_sent ps d ks)
  strangers_read ps to.Nobody ks = All-nil IsReadAsSuch
  strangers_read ps (to.Subscriber n item) ks = All-nil IsReadAsSuch
  strangers_read ps (to.Beginner id m) ks =
      of_stranger id _ (turned_few written ps id (stranger_at id ks) (Begins m) (λ notice is. absurd (cc is))).sent.read
  strangers_read ps (to.Stranger m) ks =
      of_stranger m.mme_ue_id _
      (turned_few written ps m.mme_ue_id (stranger_at m.mme_ue_id ks) (Receives m) (λ notice is. absurd (cc is))).sent.read
  strangers_read ps (to.Everyone notice) ks = known_read notice ks

  each_read : (items : ℕ → Item) (n : ℕ) (ws : List SubscriberView) → All IsReadAsSuch (each_sent items n ws)
  each_read items n [] = All-nil IsReadAsSuch
  each_read items n (w ∷ ws) =
      All-append IsReadAsSuch _ _ (of_slot n _ (phone_of_kind written w.setting w.solo (items n))) (each_read items (n + 1) ws)

  all_read : (w : World) (event : Event) → All IsReadAsSuch (outputs w event)
  all_read w event =
      All-append IsReadAsSuch _ _ (own_read (station_of event) _ (own_few w.sight event).read)
      (All-append IsReadAsSuch _ _ (strangers_read w.sight.profiles (happens w.sight event).destination w.strangers)
      (each_read (items_of w.sight (strangers_in w) event) 0 w.subscribers))

-- of what is answered holds what holds of the output
answered_so : (P : List Out → Type 0) (o : Option StepFault) (all outs : List Out) → reply_of o all ≡ Ok outs → P all → P outs
answered_so P None all outs is h = subst P (IfOk-at_ok (λ (xs : List Out). all ≡ xs) is refl) h
answered_so P (Some fault) all outs is h = absurd (cc is)

pub everything_is_of_an_mme : ((m : Pdu (List ℕ)) (os : List ℕ) → encoded m ≡ Some os → decoded os ≡ Ok m) → EverythingIsOfAnMme
everything_is_of_an_mme written w event outs is =
    answered_so (All IsReadAsSuch) (event_fault w.sight event) (outputs w event) outs is (all_read written w event)

-- ---- how much it is

module _ (bounded : SendsAtMost) where
  head_many : (n : ℕ) (w : SubscriberView) (item : Item) (most : ℕ) → length (solo_step w.setting w.solo item).sent ≤ most
      → length (map (slot_out n) (subscriber_step w item).sent) ≤ most
  head_many n w item most few = omega (arith, length-map (subscriber_step w item).sent (slot_out n), few)

  both_many : (xs ys : List Out) (n m : ℕ) → length xs ≤ n → length ys ≤ m → length (xs ++ ys) ≤ n + m
  both_many xs ys n m x y = omega (arith, length-append xs ys, x, y)

  quiet_sends : (s : Setting) (solo : Solo) (item : Item) → is_quiet item ≡ true → length (solo_step s solo item).sent ≤ 0
  quiet_sends s solo items.Nothing quiet = bounded s solo items.Nothing
  quiet_sends s solo (items.Displaced id) quiet = bounded s solo (items.Displaced id)
  quiet_sends s solo (items.StationGone e) quiet = bounded s solo (items.StationGone e)
  quiet_sends s solo (items.ConnectionsGone e listed) quiet = bounded s solo (items.ConnectionsGone e listed)
  quiet_sends s solo _ quiet = absurd (cc quiet)

  quiet_all : (each : ℕ → Item) (n : ℕ) (ws : List SubscriberView) → ((slot : ℕ) → is_quiet (each slot) ≡ true)
      → length (each_sent each n ws) ≤ 0
  quiet_all each n [] quiet = omega arith
  quiet_all each n (w ∷ ws) quiet =
      both_many _ _ 0 0 (head_many n w (each n) 0 (quiet_sends w.setting w.solo (each n) (quiet n))) (quiet_all each (n + 1) ws quiet)

  -- an item of one slot
  module _ (k : ℕ) (item : Item) (most : ℕ) (few : (s : Setting) (solo : Solo) → length (solo_step s solo item).sent ≤ most) where
    other_slot : (n : ℕ) (w : SubscriberView) → (k == n) ≡ false → length (solo_step w.setting w.solo (for_one k item n)).sent ≤ 0
    other_slot n w other =
        subst (λ (t : Bool). length (solo_step w.setting w.solo (cond t item items.Nothing)).sent ≤ 0) (sym other)
        (bounded w.setting w.solo items.Nothing)

    after_it : (n : ℕ) (ws : List SubscriberView) → k < n → length (each_sent (for_one k item) n ws) ≤ 0
    after_it n [] less = omega arith
    after_it n (w ∷ ws) less =
        let other : (k == n) ≡ false = grind (arith, nat_tests, less) in
        both_many _ _ 0 0 (head_many n w _ 0 (other_slot n w other)) (after_it (n + 1) ws (omega (arith, less)))

    head_by : (b : Bool) (n : ℕ) (w : SubscriberView) (ws : List SubscriberView) → (k == n) ≡ b
        → length (each_sent (for_one k item) (n + 1) ws) ≤ most → length (each_sent (for_one k item) n (w ∷ ws)) ≤ most
    head_by true n w ws is rest =
        let same = eqb-true k n is in
        let here = subst (λ (t : Bool). length (solo_step w.setting w.solo (cond t item items.Nothing)).sent ≤ most) (sym is)
        (few w.setting w.solo) in
        let both = both_many _ _ most 0 (head_many n w _ most here) (after_it (n + 1) ws (omega (arith, same))) in
        omega (arith, both)
    head_by false n w ws is rest =
        let both = both_many _ _ 0 most (head_many n w _ 0 (other_slot n w is)) rest in
        omega (arith, both)

    slot_many : (n : ℕ) (ws : List SubscriberView) → length (each_sent (for_one k item) n ws) ≤ most
    slot_many n [] = omega arith
    slot_many n (w ∷ ws) = head_by (k == n) n w ws refl (slot_many (n + 1) ws)

  phone_sends : (s : Setting) (solo : Solo) (item : Item) → is_of_phone item ≡ true → length (solo_step s solo item).sent ≤ 3
  phone_sends s solo (items.Initial m) phone = bounded s solo (items.Initial m)
  phone_sends s solo (items.Claim id m) phone = bounded s solo (items.Claim id m)
  phone_sends s solo (items.Message m) phone = let two = bounded s solo (items.Message m) in omega (arith, two)
  phone_sends s solo _ phone = absurd (cc phone)

  phone_many : (k : ℕ) (item : Item) (n : ℕ) (ws : List SubscriberView) → is_of_phone item ≡ true
      → length (each_sent (for_one k item) n ws) ≤ 3
  phone_many k item n ws phone = slot_many k item 3 (λ s solo. phone_sends s solo item phone) n ws

  for_one_quiet : (k : ℕ) (item : Item) (slot : ℕ) (b : Bool) → is_quiet item ≡ true → is_quiet (cond b item items.Nothing) ≡ true
  for_one_quiet k item slot true quiet = quiet
  for_one_quiet k item slot false quiet = refl

  -- a stranger's turn, and whom it calls
  turn_many : (id : ℕ) (sent : List Answer) (o : Option Call) (ws : List SubscriberView) → AreFew is_for_stranger 2 sent
      → CallsAlone sent o → length (map (stranger_out id) sent ++ each_sent (if_called o) 0 ws) ≤ 3
  turn_many id sent None ws few call =
      let most = few.few in
      let both = both_many (map (stranger_out id) sent) (each_sent (if_called None) 0 ws) 2 0
      (omega (arith, length-map sent (stranger_out id), most)) (quiet_all (if_called None) 0 ws (λ slot. refl)) in
      omega (arith, both)
  turn_many id sent (Some c) ws few call = elim call [
    | inl quiet ↦
        let most = few.few in
        let both = both_many (map (stranger_out id) sent) (each_sent (if_called (Some c)) 0 ws) 2 0
        (omega (arith, length-map sent (stranger_out id), most))
        (quiet_all (if_called (Some c)) 0 ws (λ slot. for_one_quiet c.slot c.item slot (c.slot == slot) quiet)) in
        omega (arith, both)
    | inr alone ↦
        subst (λ (xs : List Answer). length (map (stranger_out id) xs ++ each_sent (if_called (Some c)) 0 ws) ≤ 3) (sym alone.0)
        (phone_many c.slot c.item 0 ws alone.1)
  ]

  module _ (written : (m : Pdu (List ℕ)) (os : List ℕ) → encoded m ≡ Some os → decoded os ≡ Ok m) where
    -- ---- where an event goes

    known_silent : (notice : Notice) (ks : List Known) → is_of_station notice ≡ true → length (each_known notice ks) ≤ 0
    known_silent notice [] of_station = omega arith
    known_silent notice (k ∷ ks) of_station =
        let none = ap (λ (sent : List Answer). length (map (stranger_out k.id) sent)) (noted_silent k.id (Some k.stranger) notice of_station) in
        both_many _ _ 0 0 (omega (arith, none)) (known_silent notice ks of_station)

    nowhere_known : (ps : List Profile) (d : Destination) (ks : List Known) → goes_nowhere d ≡ true → length (strangers_sent ps d ks) ≤ 0
    nowhere_known ps to.Nobody ks nowhere = omega arith
    nowhere_known ps (to.Everyone notice) ks nowhere = known_silent notice ks nowhere
    nowhere_known ps _ ks nowhere = absurd (cc nowhere)

    notice_quiet : (notice : Notice) → is_of_station notice ≡ true → is_quiet (to.item_of_notice notice) ≡ true
    notice_quiet notices.Tick of_station = absurd (cc of_station)
    notice_quiet (notices.Gone e) of_station = refl
    notice_quiet (notices.Listed e listed) of_station = refl

    nowhere_quiet : (d : Destination) (ps : List Profile) (g : ℕ → Option Stranger) (slot : ℕ) → goes_nowhere d ≡ true
        → is_quiet (item_at d ps g slot) ≡ true
    nowhere_quiet to.Nobody ps g slot nowhere = refl
    nowhere_quiet (to.Everyone notice) ps g slot nowhere = notice_quiet notice nowhere
    nowhere_quiet _ ps g slot nowhere = absurd (cc nowhere)

    nowhere_many : (ps : List Profile) (d : Destination) (ks : List Known) (ws : List SubscriberView) → goes_nowhere d ≡ true
        → length (strangers_sent ps d ks ++ each_sent (item_at d ps (λ id. stranger_at id ks)) 0 ws) ≤ 0
    nowhere_many ps d ks ws nowhere =
        both_many _ _ 0 0 (nowhere_known ps d ks nowhere)
        (quiet_all (item_at d ps (λ id. stranger_at id ks)) 0 ws (λ slot. nowhere_quiet d ps (λ id. stranger_at id ks) slot nowhere))

    to_phone_many : (ps : List Profile) (d : Destination) (ks : List Known) (ws : List SubscriberView) → goes_to_phone d ≡ true
        → length (strangers_sent ps d ks ++ each_sent (item_at d ps (λ id. stranger_at id ks)) 0 ws) ≤ 3
    to_phone_many ps (to.Subscriber n item) ks ws phone = phone_many n item 0 ws phone
    to_phone_many ps (to.Beginner id m) ks ws phone =
        let t = turned_few written ps id (stranger_at id ks) (Begins m) (λ notice is. absurd (cc is)) in
        turn_many id _ _ ws t.sent t.call
    to_phone_many ps (to.Stranger m) ks ws phone =
        let t = turned_few written ps m.mme_ue_id (stranger_at m.mme_ue_id ks) (Receives m) (λ notice is. absurd (cc is)) in
        turn_many m.mme_ue_id _ _ ws t.sent t.call
    to_phone_many ps to.Nobody ks ws phone = absurd (cc phone)
    to_phone_many ps (to.Everyone notice) ks ws phone = absurd (cc phone)

    -- what comes of what a station sends
    outcome_many : (ps : List Profile) (e : ℕ) (h : Outcome) (ks : List Known) (ws : List SubscriberView) → IsFewOutcome h
        → length (map (station_out e) h.sent
        ++ (strangers_sent ps h.destination ks ++ each_sent (item_at h.destination ps (λ id. stranger_at id ks)) 0 ws)) ≤ 3
    outcome_many ps e h ks ws few =
        let own = few.own.few in
        elim few.goes [
          | inl nowhere ↦
              let both = both_many (map (station_out e) h.sent) _ 1 0 (omega (arith, length-map h.sent (station_out e), own))
              (nowhere_many ps h.destination ks ws nowhere) in
              omega (arith, both)
          | inr phone ↦
              subst
              (λ (xs : List Answer). length (map (station_out e) xs
              ++ (strangers_sent ps h.destination ks ++ each_sent (item_at h.destination ps (λ id. stranger_at id ks)) 0 ws)) ≤ 3)
              (sym phone.0) (to_phone_many ps h.destination ks ws phone.1)
        ]

    -- ---- a tick

    known_many : (ks : List Known) → length (each_known notices.Tick ks) ≤ length ks
    known_many [] = omega arith
    known_many (k ∷ ks) =
        let one = (noted_few written k.id (Some k.stranger) notices.Tick).few in
        let sent = (notes k.id (Some k.stranger) notices.Tick).sent in
        let head : length (map (stranger_out k.id) sent) ≤ 1 = omega (arith, length-map sent (stranger_out k.id), one) in
        let both = both_many (map (stranger_out k.id) sent) (each_known notices.Tick ks) 1 (length ks) head (known_many ks) in
        omega (arith, both)

    ticks_many : (n : ℕ) (ws : List SubscriberView) → length (each_sent (λ slot. items.Tick) n ws) ≤ most_at_tick ws
    ticks_many n [] = omega arith
    ticks_many n (w ∷ ws) =
        both_many _ _ (max 1 (paged_again w.solo.repeat)) (most_at_tick ws)
        (head_many n w items.Tick (max 1 (paged_again w.solo.repeat)) (bounded w.setting w.solo items.Tick)) (ticks_many (n + 1) ws)

    -- ---- an event

    slot_goes : (ps : List Profile) (o : Option ℕ) (item : Item) (most : ℕ) (ks : List Known) (ws : List SubscriberView)
        → ((s : Setting) (solo : Solo) → length (solo_step s solo item).sent ≤ most)
        → length (strangers_sent ps (to_slot o item) ks ++ each_sent (item_at (to_slot o item) ps (λ id. stranger_at id ks)) 0 ws) ≤ most
    slot_goes ps None item most ks ws few = let none = nowhere_many ps to.Nobody ks ws refl in omega (arith, none)
    slot_goes ps (Some slot) item most ks ws few = slot_many slot item most few 0 ws

    event_many : (w : World) (event : Event) → length (outputs w event) ≤ most_at w event
    unfolding happens
    event_many w (UpEvent e) = nowhere_many w.sight.profiles to.Nobody w.strangers w.subscribers refl
    event_many w (LostEvent e) = nowhere_many w.sight.profiles (to.Everyone (notices.Gone e)) w.strangers w.subscribers refl
    event_many w (InEvent e octets) =
        outcome_many w.sight.profiles e _ w.strangers w.subscribers
        (outcome_few written w.sight.config.network w.sight.profiles e (station_at w.sight.stations e) (decoded octets.now))
    event_many w TickEvent = both_many _ _ (length w.strangers) (most_at_tick w.subscribers) (known_many w.strangers) (ticks_many 0 w.subscribers)
    event_many w (DataEvent imsi) =
        slot_goes w.sight.profiles (slot_of_imsi imsi w.sight.profiles) (items.Data w.sight.stations) (length w.sight.stations) w.strangers
        w.subscribers (λ s solo. bounded s solo (items.Data w.sight.stations))
    event_many w (CancelEvent imsi) =
        slot_goes w.sight.profiles (slot_of_imsi imsi w.sight.profiles) items.Cancel 1 w.strangers w.subscribers
        (λ s solo. bounded s solo items.Cancel)

pub events_send_few : ((m : Pdu (List ℕ)) (os : List ℕ) → encoded m ≡ Some os → decoded os ≡ Ok m) → SendsAtMost → EventsSendFew
events_send_few written bounded w event outs is =
    answered_so (λ (xs : List Out). length xs ≤ most_at w event) (event_fault w.sight event) (outputs w event) outs is
    (event_many bounded written w event)
