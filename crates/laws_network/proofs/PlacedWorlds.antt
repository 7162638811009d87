-- The whole MME, event by event: everybody is placed, who is sent something is at a station that is set up, and a station that is
-- lost, set up or reset is left empty.
use Rattle.std.proofs.Common.{◌≡◌, ◌≢◌, ℕ, ◌+◌, false, inl, inr, List, [], ◌∷◌, ◌++◌, map, All, Option, Some, None, Ok, refl, sym, ◌∙◌, ap, subst}
use Rattle.std.specs.Prelude.{◌==◌, get_or}
use Rattle.std.proofs.lemmas.List.Elements.{All-append, All-map, All-nil, All-weaker}
use Rattle.std.proofs.lemmas.Option.{same_Some}
use Rattle.std.proofs.lemmas.Result.{IfOk-at_ok}
use Rattle.sorted_list.specs.Ordered.{Every}
use Rattle.s1ap_elements.specs.declared.phone.Tai.{Tai}
use Rattle.identity_slots.specs.declared.profile.Profile.{Profile}
use Rattle.identity_slots.specs.declared.profile.Vector.{Vector}
use Rattle.identity_slots.specs.Ids.{station_in}
use Rattle.mme_types.specs.declared.connection.Connection.{Connection}
use Rattle.mme_types.specs.declared.network.Network.{Network}
use Rattle.mme_types.specs.declared.octets.Answer.{Answer}
use Rattle.mme_types.specs.declared.stations.StationState.{StationState}
use Rattle.mme_types.specs.Events.{Item, StationGone}
use Rattle.mme_types.specs.Stations.{station_at}
use Rattle.emm_state.specs.declared.solo.Repeat.{Repeat}
use Rattle.emm_state.specs.declared.solo.Repeat.TheVariants as repeats
use Rattle.emm_machine.specs.Idle.{listens}
use Rattle.emm_machine.specs.SubscriberView.{SubscriberView}
use Rattle.stranger_machine.specs.declared.table.Known.{Known}
use Rattle.stranger_machine.specs.declared.turn.Notice.{Notice}
use Rattle.stranger_machine.specs.declared.turn.Notice.TheVariants.{Tick, Gone, Listed}
use Rattle.stranger_machine.specs.Machine.{Begins, Receives}
use Rattle.stranger_machine.specs.Table.{noted, stranger_at}
use Rattle.stranger_machine.specs.Turns.{Call}
use Rattle.mme_routing.specs.Destinations.{Destination, for_one, if_called, item_at, item_of_notice, strangers_left}
use Rattle.mme_routing.specs.Destinations as to
use Rattle.mme_answering.specs.declared.out.Out.{Out}
use Rattle.mme_core.specs.declared.event.Event.{Event}
use Rattle.mme_core.specs.declared.event.StepFault.{StepFault}
use Rattle.mme_core.specs.World.{World, each_after, each_known, each_sent, event_fault, fresh_subscribers, happens, items_of, outputs, reply_of, sight_moved, slot_out, station_of, station_out, station_sent, stranger_out, strangers_in, strangers_sent, subscriber_after, unless, world_after, world_moved}
use Rattle.laws_network.specs.Received.{EntriesAreInRange}
use Rattle.laws_subscriber.specs.Choices.{either}
use Rattle.laws_network.specs.Placed.{AllPlaced, AreListening, BeginsPlaced, IsAtReady, IsPagedThere, IsReady, IsStrangerPlaced, IsViewPlaced, Listens, StaysPlaced, is_ready}
use Rattle.laws_network.specs.Spoken.{IsAway, IsEmpty, IsElsewhere, IsNotAt, IsSpokenTo, LeavesEmpty, PagesElsewhere, SpeaksToTheReady}
use Rattle.laws_network.proofs.Routing.{GoesFrom, HappensSo, IsOwnTo, MovesSo, Same, goes_to_all, happens_so}
use Rattle.laws_network.proofs.PlacedSteps.{ComesFromReady, listens_ready, step_gone, step_placed}
use Rattle.laws_network.proofs.PlacedTurns.{CallsFrom, ToReady, every_if, every_with, is_gone, left_by, noted_so, silent_gone, turned}

-- ---- where the stations that matter stay, who was placed is so

ready_still : (before after : List StationState) (n : ℕ) → Same before after n → IsReady before n → IsReady after n
ready_still before after n same ready = ap is_ready same ∙ ready

connected_still : (before after : List StationState) (o : Option Connection) → ((k : Connection) → o ≡ Some k → Same before after k.station)
    → IsAtReady before o → IsAtReady after o
connected_still before after None same h = tt
connected_still before after (Some k) same h = ready_still before after k.station (same k refl) h

-- (of each element by what holds of it)
each_of : (P Q R : ℕ → Type 0) (es : List ℕ) → ((n : ℕ) → P n → Q n → R n) → All P es → All Q es → All R es
each_of P Q R es f h k i d lt = f (get_or es i d) (h i d lt) (k i d lt)

paged_still : (before after : List StationState) (tai : Tai) (o : Option Repeat)
    → ((es : List ℕ) → o ≡ Some (repeats.Paging es) → All (Same before after) es) → IsPagedThere before tai o → IsPagedThere after tai o
paged_still before after tai None same h = tt
paged_still before after tai (Some (repeats.Nas protection nas)) same h = tt
paged_still before after tai (Some (repeats.Paging es)) same h = record {
  all = each_of (Same before after) (Listens before tai) (Listens after tai) es (λ n is listens_to. ap (listens tai) is ∙ listens_to)
      (same es refl) h.all;
  once = h.once;
}

module _ (before after : List StationState) where
  -- every station that was set up is as it was
  module _ (stay : (n : ℕ) → IsReady before n → Same before after n) where
    placed_still : (x : SubscriberView) → IsViewPlaced before x → IsViewPlaced after x
    placed_still x h = record {
      connected = connected_still before after x.solo.connection
          (λ k is. stay k.station (subst (IsAtReady before) is h.connected)) h.connected;
      paged = paged_still before after x.solo.tai x.solo.repeat
          (λ es is.
          let listening : AreListening before x.solo.tai es = subst (IsPagedThere before x.solo.tai) is h.paged in
          All-weaker (Listens before x.solo.tai) (Same before after)
          (λ n listens_to. stay n (listens_ready x.solo.tai (station_at before n) listens_to)) es listening.all)
          h.paged;
    }

    stranger_still : (k : Known) → IsStrangerPlaced before k → IsStrangerPlaced after k
    stranger_still k h =
        record { own = h.own; ready = ready_still before after (station_in k.id) (stay (station_in k.id) h.ready) h.ready }

    strangers_still : (ks : List Known) → Every (IsStrangerPlaced before) ks → Every (IsStrangerPlaced after) ks
    strangers_still [] each = tt
    strangers_still (k ∷ ks) each = (stranger_still k each.0, strangers_still ks each.1)

    each_placed : (items : ℕ → Item) → ((slot : ℕ) → ComesFromReady before (items slot)) → (n : ℕ) (ws : List SubscriberView)
        → Every (IsViewPlaced before) ws → Every (IsViewPlaced after) (each_after items n ws)
    each_placed items from n [] each = tt
    each_placed items from n (w ∷ ws) each = (
      placed_still (subscriber_after w (items n)) (step_placed before w.setting w.solo (items n) (from n) each.0).state,
      each_placed items from (n + 1) ws each.1,
    )

  -- every station but one is as it was
  module _ (e : ℕ) (stay : (n : ℕ) → n ≢ e → Same before after n) where
    placed_but : (x : SubscriberView) → IsNotAt e x.solo.connection → PagesElsewhere e x.solo.repeat → IsViewPlaced before x
        → IsViewPlaced after x
    placed_but x away elsewhere h = record {
      connected = connected_still before after x.solo.connection (λ k is. stay k.station (subst (IsNotAt e) is away)) h.connected;
      paged = paged_still before after x.solo.tai x.solo.repeat
          (λ es is. All-weaker (λ n. n ≢ e) (Same before after) (λ n ne. stay n ne) es (subst (PagesElsewhere e) is elsewhere)) h.paged;
    }

    each_but : (n : ℕ) (ws : List SubscriberView) → Every (IsViewPlaced before) ws
        → Every (IsViewPlaced after) (each_after (λ slot. StationGone e) n ws)
    each_but n [] each = tt
    each_but n (w ∷ ws) each =
        let gone = step_gone before w.setting w.solo e in
        (placed_but (subscriber_after w (StationGone e)) gone.connected gone.paged (gone.placed each.0), each_but (n + 1) ws each.1)

    strangers_but : (ks : List Known) → Every (IsElsewhere e) ks → Every (IsStrangerPlaced before) ks → Every (IsStrangerPlaced after) ks
    strangers_but [] away each = tt
    strangers_but (k ∷ ks) away each = (
      record { own = each.0.own; ready = ready_still before after (station_in k.id) (stay (station_in k.id) away.0) each.0.ready },
      strangers_but ks away.1 each.1,
    )

-- ---- strangers, where no station is gone

module _ (stations : List StationState) where
  every_noted : (notice : Notice) → is_gone notice ≡ false → (ks : List Known) → Every (IsStrangerPlaced stations) ks
      → Every (IsStrangerPlaced stations) (noted notice ks)
  every_noted notice other [] each = tt
  every_noted notice other (k ∷ ks) each =
      every_if stations k.id _ (noted notice ks) (noted_so stations k.id k.stranger notice other each.0).stranger
      (every_noted notice other ks each.1)

  next_placed : (ps : List Profile) (d : Destination) (ks : List Known) → GoesFrom stations d → Every (IsStrangerPlaced stations) ks
      → Every (IsStrangerPlaced stations) (strangers_left ps d ks)
  next_placed ps to.Nobody ks from each = each
  next_placed ps (to.Subscriber n item) ks from each = each
  next_placed ps (to.Beginner id m) ks from each =
      every_with stations id _ ks (turned stations ps id (Begins m) ks from each).stranger each
  next_placed ps (to.Stranger m) ks from each =
      every_with stations m.mme_ue_id _ ks (turned stations ps m.mme_ue_id (Receives m) ks from each).stranger each
  next_placed ps (to.Everyone notice) ks from each = every_noted notice from ks each

  -- what is for a subscriber comes from a station that is set up
  one_from : (n : ℕ) (item : Item) (slot : ℕ) → ComesFromReady stations item → ComesFromReady stations (for_one n item slot)
  one_from n item slot from = either (ComesFromReady stations) (n == slot) from tt

  called_from : (o : Option Call) (slot : ℕ) → CallsFrom stations o → ComesFromReady stations (if_called o slot)
  called_from None slot from = tt
  called_from (Some c) slot from = one_from c.slot c.item slot from

  notice_from : (notice : Notice) → is_gone notice ≡ false → ComesFromReady stations (item_of_notice notice)
  notice_from Tick other = tt
  notice_from (Gone e) other = absurd (cc other)
  notice_from (Listed e listed) other = tt

  pub item_from : (ps : List Profile) (d : Destination) (ks : List Known) (slot : ℕ) → GoesFrom stations d
      → Every (IsStrangerPlaced stations) ks → ComesFromReady stations (item_at d ps (λ id. stranger_at id ks) slot)
  item_from ps to.Nobody ks slot from each = tt
  item_from ps (to.Subscriber n item) ks slot from each = one_from n item slot from
  item_from ps (to.Beginner id m) ks slot from each =
      called_from _ slot (turned stations ps id (Begins m) ks from each).call
  item_from ps (to.Stranger m) ks slot from each =
      called_from _ slot (turned stations ps m.mme_ue_id (Receives m) ks from each).call
  item_from ps (to.Everyone notice) ks slot from each = notice_from notice from

-- ---- the MME

moved_by : (w : World) (event : Event) → AllPlaced w → HappensSo w.sight event → AllPlaced (world_moved w event)
moved_by w event h so =
    let before = w.sight.stations in
    let after = (sight_moved w.sight event).stations in
    let d = (happens w.sight event).destination in
    let ps = w.sight.profiles in
    elim so.moves [
      | inl stay ↦ record {
        subscribers = each_placed before after stay.0 (items_of w.sight (strangers_in w) event)
            (λ slot. item_from before ps d w.strangers slot stay.1 h.strangers) 0 w.subscribers h.subscribers;
        strangers = strangers_still before after stay.0 (strangers_left ps d w.strangers)
            (next_placed before ps d w.strangers stay.1 h.strangers);
      }
      | inr gone ↦
          let left = left_by before gone.0 w.strangers in
          record {
            subscribers = subst
                (λ (x : Destination). Every (IsViewPlaced after) (each_after (item_at x ps (strangers_in w)) 0 w.subscribers))
                (sym gone.1) (each_but before after gone.0 gone.2 0 w.subscribers h.subscribers);
            strangers = subst (λ (x : Destination). Every (IsStrangerPlaced after) (strangers_left ps x w.strangers)) (sym gone.1)
                (strangers_but before after gone.0 gone.2 (noted (Gone gone.0) w.strangers) left.0 (left.1 h.strangers));
          }
    ]

-- refused or not
either_way : (P : World → Type 0) (o : Option StepFault) (before after : World) → P before → (o ≡ None → P after)
    → P (unless o before after)
either_way P None before after h k = k refl
either_way P (Some fault) before after h k = h

fresh_placed : (n : Network) (slot : ℕ) (ps : List Profile) (vs : List (List Vector)) (stations : List StationState)
    → Every (IsViewPlaced stations) (fresh_subscribers n slot ps vs)
fresh_placed n slot [] vs stations = tt
fresh_placed n slot (p ∷ ps) vs stations = (record { connected = tt; paged = tt }, fresh_placed n (slot + 1) ps vs stations)

pub begins_placed : BeginsPlaced
begins_placed config p = record { subscribers = fresh_placed config.network 0 p.profiles p.vectors _; strangers = tt }

pub stays_placed : EntriesAreInRange → StaysPlaced
stays_placed entries w [] h = h
stays_placed entries w (event ∷ events) h =
    stays_placed entries (world_after w event) events
    (either_way AllPlaced (event_fault w.sight event) w (world_moved w event) h (λ taken. moved_by w event h (happens_so entries w.sight event taken)))

-- ---- a station is left empty

each_away : (e n : ℕ) (ws : List SubscriberView) → Every (IsAway e) (each_after (λ slot. StationGone e) n ws)
each_away e n [] = tt
each_away e n (w ∷ ws) =
    let gone = step_gone [] w.setting w.solo e in
    (record { connected = gone.connected; paged = gone.paged }, each_away e (n + 1) ws)

emptied_by : (w : World) (event : Event) (e : ℕ) → (happens w.sight event).destination ≡ to.Everyone (Gone e)
    → IsEmpty (world_moved w event) e
emptied_by w event e all = record {
  subscribers = subst
      (λ (x : Destination). Every (IsAway e) (each_after (item_at x w.sight.profiles (strangers_in w)) 0 w.subscribers)) (sym all)
      (each_away e 0 w.subscribers);
  strangers = subst (λ (x : Destination). Every (IsElsewhere e) (strangers_left w.sight.profiles x w.strangers)) (sym all)
      (left_by [] e w.strangers).0;
}

taken_so : (P : World → Type 0) (o : Option StepFault) (before after : World) → o ≡ None → P after → P (unless o before after)
taken_so P None before after taken h = h
taken_so P (Some fault) before after taken h = absurd (cc taken)

pub leaves_empty : LeavesEmpty
leaves_empty w event e taken is =
    taken_so (λ (v : World). IsEmpty v e) (event_fault w.sight event) w (world_moved w event) taken
    (emptied_by w event e (goes_to_all w.sight event e is))

-- ---- to whom it speaks

abbrev IsSpokenOut : List StationState → List StationState → Out → Type 0
IsSpokenOut before after o = IsSpokenTo before after o.owner o.station

own_spoken : (before after : List StationState) (station : Option ℕ) (sent : List Answer) → All (IsOwnTo before after station) sent
    → All (IsSpokenOut before after) (station_sent station sent)
own_spoken before after None sent all = All-nil (IsSpokenOut before after)
own_spoken before after (Some e) sent all =
    All-map (IsSpokenOut before after) (station_out e) sent
    (All-weaker (IsOwnTo before after (Some e)) (λ a. IsSpokenOut before after (station_out e a))
    (λ a to. (sym (same_Some e a.station to.to), to.before_it, to.after_it)) sent all)

-- nothing is sent
spoken_none : (before after : List StationState) (owner : Answer → Out) (sent : List Answer) → sent ≡ []
    → All (IsSpokenOut before after) (map owner sent)
spoken_none before after owner sent none =
    subst (λ (xs : List Answer). All (IsSpokenOut before after) (map owner xs)) (sym none) (All-nil (IsSpokenOut before after))

module _ (before after : List StationState) (stay : (n : ℕ) → IsReady before n → Same before after n) where
  stranger_spoken : (id : ℕ) (sent : List Answer) → All (ToReady before) sent
      → All (IsSpokenOut before after) (map (stranger_out id) sent)
  stranger_spoken id sent all =
      All-map (IsSpokenOut before after) (stranger_out id) sent
      (All-weaker (ToReady before) (λ a. IsSpokenOut before after (stranger_out id a))
      (λ a ready. (ready, ready_still before after a.station (stay a.station ready) ready)) sent all)

  slot_spoken : (slot : ℕ) (sent : List Answer) → All (ToReady before) sent → All (IsSpokenOut before after) (map (slot_out slot) sent)
  slot_spoken slot sent all =
      All-map (IsSpokenOut before after) (slot_out slot) sent
      (All-weaker (ToReady before) (λ a. IsSpokenOut before after (slot_out slot a))
      (λ a ready. (ready, ready_still before after a.station (stay a.station ready) ready)) sent all)

  known_spoken : (notice : Notice) → is_gone notice ≡ false → (ks : List Known) → Every (IsStrangerPlaced before) ks
      → All (IsSpokenOut before after) (each_known notice ks)
  known_spoken notice other [] each = All-nil (IsSpokenOut before after)
  known_spoken notice other (k ∷ ks) each =
      All-append (IsSpokenOut before after) _ _ (stranger_spoken k.id _ (noted_so before k.id k.stranger notice other each.0).sent)
      (known_spoken notice other ks each.1)

  strangers_spoken : (ps : List Profile) (d : Destination) (ks : List Known) → GoesFrom before d → Every (IsStrangerPlaced before) ks
      → All (IsSpokenOut before after) (strangers_sent ps d ks)
  strangers_spoken ps to.Nobody ks from each = All-nil (IsSpokenOut before after)
  strangers_spoken ps (to.Subscriber n item) ks from each = All-nil (IsSpokenOut before after)
  strangers_spoken ps (to.Beginner id m) ks from each = stranger_spoken id _ (turned before ps id (Begins m) ks from each).sent
  strangers_spoken ps (to.Stranger m) ks from each =
      stranger_spoken m.mme_ue_id _ (turned before ps m.mme_ue_id (Receives m) ks from each).sent
  strangers_spoken ps (to.Everyone notice) ks from each = known_spoken notice from ks each

  each_spoken : (items : ℕ → Item) → ((slot : ℕ) → ComesFromReady before (items slot)) → (n : ℕ) (ws : List SubscriberView)
      → Every (IsViewPlaced before) ws → All (IsSpokenOut before after) (each_sent items n ws)
  each_spoken items from n [] each = All-nil (IsSpokenOut before after)
  each_spoken items from n (w ∷ ws) each =
      All-append (IsSpokenOut before after) _ _
      (slot_spoken n _ (step_placed before w.setting w.solo (items n) (from n) each.0).sent) (each_spoken items from (n + 1) ws each.1)

-- where a station is gone, nobody else is sent anything
gone_known : (before after : List StationState) (e : ℕ) (ks : List Known) → All (IsSpokenOut before after) (each_known (Gone e) ks)
gone_known before after e [] = All-nil (IsSpokenOut before after)
gone_known before after e (k ∷ ks) =
    All-append (IsSpokenOut before after) _ _ (spoken_none before after (stranger_out k.id) _ (silent_gone k.id (Some k.stranger) e))
    (gone_known before after e ks)

gone_each : (before after : List StationState) (e n : ℕ) (ws : List SubscriberView)
    → All (IsSpokenOut before after) (each_sent (λ slot. StationGone e) n ws)
gone_each before after e n [] = All-nil (IsSpokenOut before after)
gone_each before after e n (w ∷ ws) =
    All-append (IsSpokenOut before after) _ _ (spoken_none before after (slot_out n) _ (step_gone [] w.setting w.solo e).silent)
    (gone_each before after e (n + 1) ws)

others_spoken : (w : World) (event : Event) → AllPlaced w
    → MovesSo w.sight.stations (sight_moved w.sight event).stations (happens w.sight event).destination
    → All (IsSpokenOut w.sight.stations (sight_moved w.sight event).stations)
    (strangers_sent w.sight.profiles (happens w.sight event).destination w.strangers
    ++ each_sent (items_of w.sight (strangers_in w) event) 0 w.subscribers)
others_spoken w event h moves =
    let before = w.sight.stations in
    let after = (sight_moved w.sight event).stations in
    let ps = w.sight.profiles in
    elim moves [
      | inl stay ↦
          All-append (IsSpokenOut before after) _ _
          (strangers_spoken before after stay.0 ps _ w.strangers stay.1 h.strangers)
          (each_spoken before after stay.0 _ (λ slot. item_from before ps _ w.strangers slot stay.1 h.strangers) 0 w.subscribers h.subscribers)
      | inr gone ↦
          subst
          (λ (x : Destination). All (IsSpokenOut before after)
          (strangers_sent ps x w.strangers ++ each_sent (item_at x ps (strangers_in w)) 0 w.subscribers)) (sym gone.1)
          (All-append (IsSpokenOut before after) _ _ (gone_known before after gone.0 w.strangers) (gone_each before after gone.0 0 w.subscribers))
    ]

outputs_spoken : (w : World) (event : Event) → AllPlaced w → HappensSo w.sight event
    → All (IsSpokenOut w.sight.stations (sight_moved w.sight event).stations) (outputs w event)
outputs_spoken w event h so =
    All-append (IsSpokenOut w.sight.stations (sight_moved w.sight event).stations) _ _
    (own_spoken w.sight.stations (sight_moved w.sight event).stations (station_of event) _ so.own)
    (others_spoken w event h so.moves)

spoken_by : (o : Option StepFault) (w : World) (event : Event) (outs : List Out) → reply_of o (outputs w event) ≡ Ok outs
    → (o ≡ None → All (IsSpokenOut w.sight.stations (sight_moved w.sight event).stations) (outputs w event))
    → All (IsSpokenOut w.sight.stations (unless o w (world_moved w event)).sight.stations) outs
spoken_by None w event outs is all =
    let same : outputs w event ≡ outs = IfOk-at_ok (λ (xs : List Out). outputs w event ≡ xs) is refl in
    subst (All (IsSpokenOut w.sight.stations (sight_moved w.sight event).stations)) same (all refl)
spoken_by (Some fault) w event outs is all = absurd (cc is)

pub speaks_to_the_ready : EntriesAreInRange → SpeaksToTheReady
speaks_to_the_ready entries w event outs h is =
    spoken_by (event_fault w.sight event) w event outs is
    (λ taken. outputs_spoken w event h (happens_so entries w.sight event taken))
