-- A step that was prepared, of one and of some.
use Rattle.std.proofs.Common.{◌≡◌, ℕ, zero, suc, ◌+◌, ◌<◌, ◌≤◌, List, [], ◌∷◌, ◌++◌, length, map, true, false, Option, Some, None, refl, sym, subst, ◌∙◌, ap, arith, inl, inr}
use Rattle.std.proofs.lemmas.List.{append_assoc, append_cancel_right}
use Rattle.std.proofs.lemmas.Option.{slice_get_cases}
use Rattle.std.specs.Prelude.{slice_get, slice_set, option_map}
use Rattle.std.specs.Option.{option_map_or}
use Rattle.emm_state.specs.declared.solo.Solo.{Solo}
use Rattle.emm_state.specs.declared.draft.Draft.{Draft}
use Rattle.emm_machine.specs.Laws.{still_stays}
use Rattle.mme_types.specs.Events.{Item, Tick}
use Rattle.emm_machine.specs.Still.{still}
use Rattle.emm_machine.specs.SubscriberView.{SubscriberView}
use Rattle.emm_machine.specs.Ticks.{countdowns}
use Rattle.emm_machine.specs.TickLaws.{running_timed}
use Rattle.sorted_list.specs.Ordered.{Every}
use Rattle.mme_owners.specs.SteppedView.{SteppedView}
use Rattle.mme_owners.specs.SubscriberLaws.{all_give_as_due, all_give_as_touched, each_gives, quiet_sent, some_give, tick_is_of_all, timed_in_range, touched_below, touched_few, touched_is_of_all}
use Rattle.mme_tables.specs.Running.{is_due}
use Rattle.mme_owners.specs.Subscribers.{AreOnward, IsCounting, IsStepped, due_slots, each_after, slots_stepped, step_at, subscriber_step, tick_settled}
use Rattle.mme_owners.specs.Touched.{touched_slots}
use Rattle.laws_subscriber.specs.Clocked.{ClockedRuns, IsClocked, StaysClocked}
use Rattle.mme_answering.specs.InUse.{AreInUse}
use Rattle.mme_answering.specs.Settled.{AreFit, in_state, item_sent, sent_at, solo_at, with_solo, with_stepped}
use Rattle.mme_routing.specs.Destinations.{for_all, for_one}
use Rattle.mme_answering.specs.declared.out.Out.{Out}
use Rattle.mme_answering.specs.Sending.{each_sent, slot_out}
use Rattle.mme_answering.proofs.Sent.{SentBut}
use Rattle.mme_answering.proofs.Calling.{after_call, call_past, sends_call}

-- ---- a step that was prepared

-- whose countdowns run in time
module _ (kept : StaysClocked) (runs : ClockedRuns) where
  counting_after : (w : SubscriberView) (item : Item) → IsClocked w.solo → IsCounting (subscriber_step w item).solo
  counting_after w item h =
      let after = (subscriber_step w item).solo in timed_in_range (countdowns after) (running_timed after (runs after (kept w.setting w.solo (item ∷ []) h)))

  counting_if : (slot : ℕ) (item : Item) (ws : List SubscriberView) (d : Draft) → AreInUse ws
      → option_map (λ w. subscriber_step w item) (slice_get ws slot) ≡ Some d → IsCounting d.solo
  counting_if slot item [] d h at = absurd (cc)
  counting_if zero item (w ∷ ws) d h at =
      let is : subscriber_step w item ≡ d = cc in
      subst (λ (e : Draft). IsCounting e.solo) is (counting_after w item h.2)
  counting_if (suc slot) item (w ∷ ws) d h at = counting_if slot item ws d h.3 at

  pub counting_at : (slot : ℕ) (item : Item) (ws : List SubscriberView) (d : Draft) → AreInUse ws → step_at slot item ws ≡ Some d
      → IsCounting d.solo
  counting_at slot item ws d h at = counting_if slot item ws d h at

-- ---- each is that of a subscriber, and they are as many as before

slot_each : (m : ℕ) (xs : List SteppedView) → Every (λ k. k < m) (slots_stepped xs) → Every (λ (x : SteppedView). x.slot < m) xs
slot_each m [] h = tt
slot_each m (x ∷ xs) h = (h.0, slot_each m xs h.1)

pub slots_many : (xs : List SteppedView) → length (slots_stepped xs) ≡ length xs
slots_many [] = refl
slots_many (x ∷ xs) = ap suc (slots_many xs)

pub touched_fit : (item : Item) (xs : List SteppedView) (ws : List SubscriberView) → slots_stepped xs ≡ touched_slots item ws
    → Every (λ (x : SteppedView). IsCounting x.solo) xs → AreOnward ws xs
    → AreFit ws xs × (length xs ≤ length ws)
touched_fit item xs ws touched k onward =
    let many = slots_many xs in
    let few = subst (λ ks. length ks ≤ length ws) (sym touched) (touched_few item ws) in
    let slots = slot_each (length ws) xs (subst (Every (λ n. n < length ws)) (sym touched) (touched_below item ws)) in
    ((slots, k, onward), omega arith)

-- ---- one alone is called

pub stepped_at : {P : Type 0} (item : Item) (s : Solo) (o : Option SubscriberView)
    → option_map (λ (d : Draft). d.solo) (option_map (λ v. subscriber_step v item) o) ≡ Some s
    → ((w : SubscriberView) → o ≡ Some w → (subscriber_step w item).solo ≡ s → P) → P
stepped_at item s None h k = absurd (cc)
stepped_at item s (Some w) h k = let is : (subscriber_step w item).solo ≡ s = cc in k w refl is

pub called_after : (slot : ℕ) (item : Item) (ws : List SubscriberView) (s : Solo) → solo_at slot item ws ≡ Some s
    → with_solo slot s ws ≡ each_after (for_one slot item) 0 ws
called_after slot item ws s h = stepped_at item s (slice_get ws slot) h (λ w at is.
    ap (λ (o : Option SubscriberView). option_map_or (λ v. slice_set ws slot (in_state s v)) o ws) at
    ∙ ap (λ (t : Solo). slice_set ws slot (in_state t w)) (sym is) ∙ after_call slot item ws w at)

-- what the subscriber with a slot sends, if anybody has it, is what all send
pub called_sends : (slot : ℕ) (item : Item) (ws : List SubscriberView)
    → sent_at slot item ws ≡ each_sent (for_one slot item) 0 ws
called_sends slot item ws =
    elim (slice_get_cases ws slot).1 [
      | inl there ↦
          ap (λ (o : Option SubscriberView). option_map_or (item_sent item slot) o []) there.2
          ∙ sends_call slot item ws there.0 there.2
      | inr past ↦
          ap (λ (o : Option SubscriberView). option_map_or (item_sent item slot) o []) past.1
          ∙ sym (call_past slot item ws past.0).1
    ]

draft_sends : (slot : ℕ) (item : Item) (o : Option SubscriberView) (d : Draft)
    → option_map (λ w. subscriber_step w item) o ≡ Some d → map (slot_out slot) d.sent ≡ option_map_or (item_sent item slot) o []
draft_sends slot item None d h = absurd (cc)
draft_sends slot item (Some w) d h =
    let is : subscriber_step w item ≡ d = cc in
    ap (λ (e : Draft). map (slot_out slot) e.sent) (sym is)

pub step_sends : (slot : ℕ) (item : Item) (ws : List SubscriberView) (d : Draft) → step_at slot item ws ≡ Some d
    → map (slot_out slot) d.sent ≡ sent_at slot item ws
step_sends slot item ws d h = draft_sends slot item (slice_get ws slot) d h

-- ---- some one after the other

some_parts : (g : ℕ → SubscriberView → List Out) (done rest : List ℕ) (ws : List SubscriberView)
    → some_give g (done ++ rest) ws ≡ some_give g done ws ++ some_give g rest ws
some_parts g [] rest ws = refl
some_parts g (k ∷ done) rest ws =
    ap (λ (os : List Out). option_map_or (g k) (slice_get ws k) [] ++ os) (some_parts g done rest ws)
    ∙ sym (append_assoc (option_map_or (g k) (slice_get ws k) []) (some_give g done ws) (some_give g rest ws))

-- where those who are left would send the others
pub sent_so_far : (item : Item) (called done rest : List ℕ) (ws : List SubscriberView) (before after : List Out)
    → done ++ rest ≡ called
    → after ++ some_give (item_sent item) rest ws ≡ before ++ some_give (item_sent item) called ws
    → SentBut (some_give (item_sent item) rest ws) (some_give (item_sent item) called ws) before after
sent_so_far item called done rest ws before after slots sends =
    let first = some_give (item_sent item) done ws in
    let left = some_give (item_sent item) rest ws in
    let all : some_give (item_sent item) called ws ≡ first ++ left =
    ap (λ ks. some_give (item_sent item) ks ws) (sym slots) ∙ some_parts (item_sent item) done rest ws in (
      first,
      all,
      append_cancel_right after (before ++ first) left
          (sends ∙ ap (λ (os : List Out). before ++ os) all ∙ sym (append_assoc before first left)),
    )

-- ---- what some do is what all do: at a tick those who are due, at a notice of a station those whom it touches

quiet_gives : (n : ℕ) (w : SubscriberView) → is_due (countdowns w.solo) ≡ false → item_sent Tick n w ≡ []
quiet_gives n w e = ap (map (slot_out n)) (quiet_sent w e)

still_gives : (item : Item) (n : ℕ) (w : SubscriberView) → still w.solo item ≡ true → item_sent item n w ≡ []
still_gives item n w h = ap (λ (d : Draft). map (slot_out n) d.sent) (still_stays w.setting w.solo item h)

each_gives_sent : (item : Item) (n : ℕ) (ws : List SubscriberView)
    → each_gives (item_sent item) n ws ≡ each_sent (for_all item) n ws
each_gives_sent item n [] = refl
each_gives_sent item n (w ∷ ws) = ap (λ os. item_sent item n w ++ os) (each_gives_sent item (n + 1) ws)

pub due_send : (ws : List SubscriberView) → some_give (item_sent Tick) (due_slots ws) ws ≡ each_sent (for_all Tick) 0 ws
due_send ws = all_give_as_due (item_sent Tick) ws quiet_gives ∙ each_gives_sent Tick 0 ws

pub touched_send : (item : Item) (ws : List SubscriberView)
    → some_give (item_sent item) (touched_slots item ws) ws ≡ each_sent (for_all item) 0 ws
touched_send item ws = all_give_as_touched item (item_sent item) ws (still_gives item) ∙ each_gives_sent item 0 ws

pub ticks_all : (xs : List SteppedView) (ws : List SubscriberView) → slots_stepped xs ≡ due_slots ws → Every (IsStepped Tick ws) xs
    → tick_settled xs ws ≡ each_after (for_all Tick) 0 ws
ticks_all xs ws due h = tick_is_of_all xs ws due h

pub touches_all : (item : Item) (xs : List SteppedView) (ws : List SubscriberView) → slots_stepped xs ≡ touched_slots item ws
    → Every (IsStepped item ws) xs
    → with_stepped xs ws ≡ each_after (for_all item) 0 ws
touches_all item xs ws touched h = touched_is_of_all item xs ws touched h
