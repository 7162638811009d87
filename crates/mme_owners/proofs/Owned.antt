-- The countdowns of all after a change of one stranger, or of some subscribers.
use Rattle.std.proofs.Common.{◌≡◌, ◌↔◌, ℕ, zero, suc, ◌+◌, ◌-◌, ◌^◌, ◌<◌, ◌≤◌, List, [], ◌∷◌, ◌++◌, length, refl, sym, ◌∙◌, ap, subst, arith}
use Rattle.std.specs.Prelude.{if◌then◌else◌, slice_get, Option, Some, None, OnErr, OnOk, Result, Ok, Err}
use Rattle.std.proofs.lemmas.List.{map-append}
use Rattle.std.proofs.lemmas.Option.{slice_get-map}
use Rattle.identity_slots.specs.Ids.{slots, stranger_id}
use Rattle.emm_state.specs.declared.solo.Solo.{Solo}
use Rattle.emm_machine.specs.SubscriberView.{SubscriberView}
use Rattle.emm_machine.specs.Ticks.{countdowns}
use Rattle.sorted_list.specs.Ordered.{AllOver, Every, Rising, put, without}
use Rattle.stranger_machine.specs.declared.state.Stranger.{Stranger}
use Rattle.stranger_machine.specs.declared.table.Known.{Known}
use Rattle.stranger_machine.specs.Table.{known_id}
use Rattle.timer_queue.specs.Countdowns.{Countdown, Countdowns, countdown_rank, due_of}
use Rattle.timer_queue.specs.declared.timer.Kind.TheVariants.{Procedure, Reachable}
use Rattle.timer_queue.specs.declared.timer.Timer.{Timer}
use Rattle.timer_queue.specs.declared.timer.TimerOwner.{TimerOwner}
use Rattle.timer_queue.specs.declared.timer.TimerOwner.TheVariants as owners
use Rattle.mme_tables.specs.Changed.{changed_at}
use Rattle.mme_tables.specs.Due.{id_of, ids_of, is_past, owner_slot, slots_once, with_id, AreOfOwners}
use Rattle.mme_tables.specs.Joined.{due_joined}
use Rattle.mme_tables.specs.Running.{AreQueued, IsInRange, both_retimed, running_from, with_countdown}
use Rattle.mme_tables.specs.SlotLaws.{AreBefore, both_retimed_is, both_retimed_joined, changed_length, once_is, over_from, queued_at, queued_joined, slots_are_owners, slots_have_no_id}
use Rattle.mme_tables.specs.WaitLaws.{changed_joined, due_ids_joined, due_owners, due_slots_joined, is_wait_at, stopped_joined, waits_before, waits_put, waits_without}
use Rattle.mme_tables.specs.Waiting.{AreWaits, IsWait, due_ids, wait_at, wait_changed, wait_of, wait_stopped, waits_of}
use Rattle.mme_tables.specs.Strangers.{StrangerTable}
use Rattle.mme_owners.specs.SteppedView.{SteppedView}
use Rattle.mme_owners.specs.SubscriberLaws.{with_solo_is}
use Rattle.mme_owners.specs.Subscribers.{SubscriberTable, all_countdowns, countdowns_at, due_slots, in_state, with_solo, with_stepped}
use Rattle.mme_owners.specs.Owners.{AreRecords, IsStart, NobodyIsDue, all_retimed, countdowns_of}

-- ---- the countdowns of subscribers

pub countdowns_length : (ws : List SubscriberView) → length (all_countdowns ws) ≡ length ws
countdowns_length [] = refl
countdowns_length (w ∷ ws) = ap suc (countdowns_length ws)

pub over_slots : (ws : List SubscriberView) → length ws ≤ slots
    → AllOver countdown_rank (2 ^ 41 - 1) (running_from 0 (all_countdowns ws))
over_slots ws few =
    let many = countdowns_length ws in over_from (2 ^ 41 - 1) 0 (all_countdowns ws) (omega arith) (omega arith)

countdowns_changed : (k : ℕ) (s : Solo) (ws : List SubscriberView)
    → changed_at k (λ _. countdowns s) (all_countdowns ws) ≡ all_countdowns (changed_at k (in_state s) ws)
countdowns_changed k s [] = refl
countdowns_changed zero s (w ∷ ws) = refl
countdowns_changed (suc k) s (w ∷ ws) = ap (λ ps. countdowns w.solo ∷ ps) (countdowns_changed k s ws)

countdowns_settled : (k : ℕ) (s : Solo) (ws : List SubscriberView)
    → changed_at k (λ _. countdowns s) (all_countdowns ws) ≡ all_countdowns (with_solo k s ws)
countdowns_settled k s ws = countdowns_changed k s ws ∙ ap all_countdowns (sym (with_solo_is k s ws))

slot_settled : (k : ℕ) (s : Solo) (ws : List SubscriberView) → k < length ws → length ws ≤ slots
    → both_retimed k (countdowns s) (running_from 0 (all_countdowns ws)) ≡ running_from 0 (all_countdowns (with_solo k s ws))
slot_settled k s ws lt few =
    let many = countdowns_length ws in
    both_retimed_is k (countdowns s) (all_countdowns ws) (omega arith) (omega arith)
    ∙ ap (running_from 0) (countdowns_settled k s ws)

pub settled_length : (k : ℕ) (s : Solo) (ws : List SubscriberView) → length (with_solo k s ws) ≡ length ws
settled_length k s ws = ap length (with_solo_is k s ws) ∙ changed_length k (in_state s) ws

slots_settled : (xs : List SteppedView) (ws : List SubscriberView) → Every (λ (x : SteppedView). x.slot < length ws) xs
    → length ws ≤ slots
    → all_retimed xs (running_from 0 (all_countdowns ws)) ≡ running_from 0 (all_countdowns (with_stepped xs ws))
slots_settled [] ws h few = refl
slots_settled (x ∷ xs) ws h few =
    let next = with_solo x.slot x.solo ws in
    let same = settled_length x.slot x.solo ws in
    ap (all_retimed xs) (slot_settled x.slot x.solo ws h.0 few)
    ∙ slots_settled xs next (subst (λ n. Every (λ (y : SteppedView). y.slot < n) xs) (sym same) h.1) (omega arith)

-- ---- after those of strangers

pub retimed_joined : (n : ℕ) (xs : List SteppedView) (bs cs : List Countdown) → Every (λ (x : SteppedView). x.slot < n) xs
    → n ≤ slots → AreBefore bs → all_retimed xs (bs ++ cs) ≡ bs ++ all_retimed xs cs
retimed_joined n [] bs cs h few before = refl
retimed_joined n (x ∷ xs) bs cs h few before =
    let lt = h.0 in
    ap (all_retimed xs) (both_retimed_joined x.slot (countdowns x.solo) bs cs (omega arith) before)
    ∙ retimed_joined n xs bs (both_retimed x.slot (countdowns x.solo) cs) h.1 few before

-- ---- the queue after a change

pub settled : (k : ℕ) (s : Solo) (ks : List Known) (ws : List SubscriberView) (cs new : List Countdown) → AreWaits ks
    → length ws ≤ slots → k < length ws → cs ≡ countdowns_of ks ws → new ≡ both_retimed k (countdowns s) cs
    → new ≡ countdowns_of ks (with_solo k s ws)
settled k s ks ws cs new h few lt e g =
    g ∙ ap (both_retimed k (countdowns s)) e
    ∙ both_retimed_joined k (countdowns s) (waits_of ks) (running_from 0 (all_countdowns ws)) (omega arith) (waits_before ks h)
    ∙ ap (λ cs. waits_of ks ++ cs) (slot_settled k s ws lt few)

pub all_settled : (xs : List SteppedView) (ks : List Known) (ws : List SubscriberView) (cs new : List Countdown) → AreWaits ks
    → length ws ≤ slots → Every (λ (x : SteppedView). x.slot < length ws) xs → cs ≡ countdowns_of ks ws → new ≡ all_retimed xs cs
    → new ≡ countdowns_of ks (with_stepped xs ws)
all_settled xs ks ws cs new h few below e g =
    g ∙ ap (all_retimed xs) e
    ∙ retimed_joined (length ws) xs (waits_of ks) (running_from 0 (all_countdowns ws)) below few (waits_before ks h)
    ∙ ap (λ cs. waits_of ks ++ cs) (slots_settled xs ws below few)

-- what a slot has in it
pub known_at : (k : ℕ) (q : Option ℕ × Option ℕ) (ks : List Known) (ws : List SubscriberView) (cs : List Countdown) → AreWaits ks
    → length ws ≤ slots → k < length ws → cs ≡ countdowns_of ks ws → countdowns_at k ws ≡ Some q → AreQueued k q cs
known_at k q ks ws cs h few lt e at =
    let many = countdowns_length ws in
    let there : slice_get (all_countdowns ws) k ≡ Some q = slice_get-map (λ (w : SubscriberView). countdowns w.solo) ws k ∙ at in
    subst (AreQueued k q) (sym e)
    (queued_joined k q (waits_of ks) (running_from 0 (all_countdowns ws)) (omega arith) (waits_before ks h)
    (queued_at k q (all_countdowns ws) there (omega arith)))

pub closed : (id : ℕ) (ks : List Known) (ws : List SubscriberView) (cs new : List Countdown) → AreWaits ks → length ws ≤ slots
    → cs ≡ countdowns_of ks ws → new ≡ wait_stopped id (wait_at id ks) cs → new ≡ countdowns_of (without known_id id ks) ws
closed id ks ws cs new h few e g =
    let rest = running_from 0 (all_countdowns ws) in
    g ∙ ap (wait_stopped id (wait_at id ks)) e
    ∙ stopped_joined id (wait_at id ks) (waits_of ks) rest (is_wait_at id ks h) (over_slots ws few)
    ∙ ap (λ cs. cs ++ rest) (sym (waits_without id ks h))

pub changed : (id : ℕ) (s : Stranger) (ks : List Known) (ws : List SubscriberView) (cs new : List Countdown) → Rising known_id ks
    → AreWaits ks → IsWait id (wait_of s) → length ws ≤ slots → cs ≡ countdowns_of ks ws
    → new ≡ wait_changed id (wait_at id ks) (wait_of s) cs
    → new ≡ countdowns_of (put known_id (record { id = id; stranger = s }) ks) ws
changed id s ks ws cs new r h w few e g =
    let rest = running_from 0 (all_countdowns ws) in
    g ∙ ap (wait_changed id (wait_at id ks) (wait_of s)) e
    ∙ changed_joined id (wait_at id ks) (wait_of s) (waits_of ks) rest (is_wait_at id ks h) w (over_slots ws few)
    ∙ ap (λ cs. cs ++ rest) (sym (waits_put id s ks r h w))

pub in_range : (id : ℕ) (o : Option ℕ) → IsWait id o → IsInRange o
in_range id None h = tt
in_range id (Some left) h = (h.2, h.3)

pub is_wait : (id : ℕ) (o : Option ℕ) → id < 2 ^ 32 → IsStart id o → IsWait id o
is_wait id None small h = tt
is_wait id (Some left) small h = (h.0, small, h.1, h.2)

-- ---- one more subscriber

off_one : (n : ℕ) (q : Option ℕ × Option ℕ) (ps : List (Option ℕ × Option ℕ)) → q ≡ (None, None)
    → running_from n (ps ++ q ∷ []) ≡ running_from n ps
off_one n q [] e = ap (λ p. running_from n (p ∷ [])) e
off_one n q (p ∷ ps) e = ap (λ cs. with_countdown n Procedure p.0 (with_countdown n Reachable p.1 cs)) (off_one (n + 1) q ps e)

pushed : (w : SubscriberView) (ks : List Known) (ws : List SubscriberView) → countdowns w.solo ≡ (None, None)
    → countdowns_of ks ws ≡ countdowns_of ks (ws ++ w ∷ [])
pushed w ks ws off =
    ap (λ cs. waits_of ks ++ cs) (sym (off_one 0 (countdowns w.solo) (all_countdowns ws) off)
    ∙ ap (running_from 0) (sym (map-append (λ (v : SubscriberView). countdowns v.solo) ws (w ∷ []))))

pub pushed_owners : {T E : Type 0} (res : Result T E) (w : SubscriberView) (timers : Countdowns) (strangers : StrangerTable)
    (subscribers new : SubscriberTable) → countdowns w.solo ≡ (None, None) → AreRecords timers strangers subscribers
    → new.clock ≡ subscribers.clock → OnOk res (new.subscribers ≡ subscribers.subscribers ++ w ∷ []) → OnErr res (new ≡ subscribers)
    → AreRecords timers strangers new
pushed_owners (Ok x) w timers strangers subscribers new off h clock ok err = record {
  strangers_clock = h.strangers_clock;
  subscribers_clock = clock ∙ h.subscribers_clock;
  waits = h.waits;
  timed = h.timed ∙ pushed w strangers.strangers subscribers.subscribers off ∙ ap (countdowns_of strangers.strangers) (sym ok);
}
pushed_owners (Err e) w timers strangers subscribers new off h clock ok err = subst (AreRecords timers strangers) (sym err) h

-- ---- nothing but the room is another

pub same_owners : (a b : Countdowns) (strangers : StrangerTable) (s t : SubscriberTable) → b.clock ≡ a.clock → b.running ≡ a.running
    → t.clock ≡ s.clock → t.subscribers ≡ s.subscribers → AreRecords a strangers s → AreRecords b strangers t
same_owners a b strangers s t clock running its same h = record {
  strangers_clock = h.strangers_clock ∙ sym clock;
  subscribers_clock = its ∙ h.subscribers_clock ∙ sym clock;
  waits = h.waits;
  timed = running ∙ h.timed ∙ ap (countdowns_of strangers.strangers) (sym same);
}

-- ---- who is due

pub due_is_of_owners : (ks : List Known) (ws : List SubscriberView) (cs : List Countdown) → AreWaits ks → length ws ≤ slots
    → cs ≡ countdowns_of ks ws → AreOfOwners (due_of cs)
due_is_of_owners ks ws cs h few e =
    let rest = running_from 0 (all_countdowns ws) in
    let many = countdowns_length ws in
    subst AreOfOwners (sym (ap due_of e ∙ due_joined (waits_of ks) rest))
    (due_owners ks (due_of rest) h (slots_are_owners 0 (all_countdowns ws) (omega arith)))

pub due_strangers : (ks : List Known) (ws : List SubscriberView) (cs : List Countdown) → AreWaits ks → cs ≡ countdowns_of ks ws
    → ids_of (due_of cs) ≡ due_ids ks
due_strangers ks ws cs h e =
    let rest = running_from 0 (all_countdowns ws) in
    ap (λ xs. ids_of (due_of xs)) e ∙ ap ids_of (due_joined (waits_of ks) rest)
    ∙ due_ids_joined ks (due_of rest) h (slots_have_no_id 0 (all_countdowns ws))

pub due_subscribers : (ks : List Known) (ws : List SubscriberView) (cs : List Countdown) → AreWaits ks → cs ≡ countdowns_of ks ws
    → slots_once None (due_of cs) ≡ due_slots ws
due_subscribers ks ws cs h e =
    let rest = running_from 0 (all_countdowns ws) in
    ap (λ xs. slots_once None (due_of xs)) e ∙ ap (slots_once None) (due_joined (waits_of ks) rest)
    ∙ due_slots_joined ks (due_of rest) h ∙ once_is 0 None (all_countdowns ws) tt

-- ---- nobody is due where the queue has nobody who is

no_cons : (n : ℕ) (ns : List ℕ) → n ∷ ns ≡ [] → ⊥
no_cons n ns h = cc

somebody : (o : TimerOwner) (ids xs ys : List ℕ) → with_id (id_of o) ids ≡ []
    → (if is_past o None then xs else owner_slot o ∷ ys) ≡ [] → ⊥
somebody (owners.Stranger station enb_ue_id) ids xs ys h k = no_cons (stranger_id station enb_ue_id) ids h
somebody (owners.Subscriber slot) ids xs ys h k = no_cons slot ys k

none_of : (ts : List Timer) → ids_of ts ≡ [] → slots_once None ts ≡ [] → ts ≡ []
none_of [] h k = refl
none_of (t ∷ ts) h k =
    absurd (somebody t.owner (ids_of ts) (slots_once None ts) (slots_once (Some (owner_slot t.owner)) ts) h k)

pub due_nobody : (ks : List Known) (ws : List SubscriberView) (cs : List Countdown) → AreWaits ks → cs ≡ countdowns_of ks ws
    → (due_of cs ≡ []) ↔ NobodyIsDue ks ws
due_nobody ks ws cs h e =
    let ids = due_strangers ks ws cs h e in
    let numbers = due_subscribers ks ws cs h e in (
      λ none. record { strangers = sym ids ∙ ap ids_of none; slots = sym numbers ∙ ap (slots_once None) none },
      λ nobody. none_of (due_of cs) (ids ∙ nobody.strangers) (numbers ∙ nobody.slots),
    )
