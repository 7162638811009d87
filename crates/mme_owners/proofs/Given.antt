-- A vector more for one of the subscribers: its record, the countdowns and the phones.
use Rattle.std.proofs.Common.{◌≡◌, ◌≢◌, ◌↔◌, ℕ, zero, suc, ◌<◌, List, [], ◌∷◌, ◌++◌, length, map, true, refl, sym, ◌∙◌, ap, subst, arith}
use Rattle.std.specs.Prelude.{slice_get, Option, Some, Result, Ok, Err, IfErr, OnErr, OnOk, get_or, set}
use Rattle.std.specs.Option.{option_map_or}
use Rattle.identity_slots.specs.declared.profile.Vector.{Vector}
use Rattle.identity_slots.specs.declared.provision.ProvisionFault.{ProvisionFault}
use Rattle.identity_slots.specs.declared.provision.ProvisionFault.TheVariants.{Full, NoMemory}
use Rattle.emm_state.specs.declared.solo.Solo.{Solo}
use Rattle.emm_machine.specs.Given.{is_stocked, with_given}
use Rattle.emm_machine.specs.SubscriberView.{SubscriberView}
use Rattle.emm_machine.specs.Ticks.{countdowns}
use Rattle.timer_queue.specs.Countdowns.{Countdowns}
use Rattle.mme_tables.specs.Running.{running_from}
use Rattle.mme_tables.specs.SlotLaws.{changed_length}
use Rattle.mme_tables.specs.Strangers.{StrangerTable}
use Rattle.mme_tables.specs.Waiting.{waits_of}
use Rattle.mme_owners.specs.declared.record.Record.{Record}
use Rattle.mme_owners.specs.Changed.{changed_at}
use Rattle.mme_owners.specs.Given.{given_at, TakesOneVector}
use Rattle.mme_owners.specs.Owners.{AreRecords}
use Rattle.mme_owners.specs.Records.{AreFresh, IsSubscriberTable, given_now, view_at, views, woken}
use Rattle.mme_owners.specs.Subscribers.{AreCounting, SubscriberTable}
use Rattle.mme_owners.proofs.Waking.{IsSubscriberTableOf, awake, fresh_now, seen_now, set_changed, view_slot}

-- ---- the records

given_views : (c k : ℕ) (v : Vector) (rs : List Record) → views c (changed_at k (given_now c v) rs) ≡ given_at k v (views c rs)
given_views c k v [] = refl
given_views c zero v (r ∷ rs) = ap (λ w. w ∷ views c rs) (seen_now c (with_given v (view_at c r)))
given_views c (suc k) v (r ∷ rs) = ap (λ ws. view_at c r ∷ ws) (given_views c k v rs)

given_fresh : (c k : ℕ) (v : Vector) (rs : List Record) → AreFresh c rs → AreCounting (views c rs)
    → AreFresh c (changed_at k (given_now c v) rs)
given_fresh c k v [] f h = tt
given_fresh c zero v (r ∷ rs) f h = (fresh_now c (with_given v (view_at c r)) h.0, f.1)
given_fresh c (suc k) v (r ∷ rs) f h = (f.0, given_fresh c k v rs f.1 h.1)

given_counting : (k : ℕ) (v : Vector) (ws : List SubscriberView) → AreCounting ws → AreCounting (given_at k v ws)
given_counting k v [] h = tt
given_counting zero v (w ∷ ws) h = (h.0, h.1)
given_counting (suc k) v (w ∷ ws) h = (h.0, given_counting k v ws h.1)

given_there : (c k : ℕ) (v : Vector) (rs new : List Record) → IsSubscriberTable c rs → new ≡ changed_at k (given_now c v) rs
    → IsSubscriberTableOf c new (given_at k v (views c rs))
given_there c k v rs new t e =
    let seen = given_views c k v rs in
    let few = t.few in
    let longer = changed_length k (given_now c v) rs in
    let table : IsSubscriberTable c (changed_at k (given_now c v) rs) = record {
      few = omega arith;
      fresh = given_fresh c k v rs t.fresh t.counting;
      counting = subst AreCounting (sym seen) (given_counting k v (views c rs) t.counting);
    } in
    record { table = subst (IsSubscriberTable c) (sym e) table; seen = ap (views c) e ∙ seen }

-- what a give leaves of all records
pub record IsGivenOne (c k : ℕ) (v : Vector) (rs : List Record) (answer : Result (Unit {0}) ProvisionFault) (new : List Record)
    : Type 0 where
  pub table : IsSubscriberTable c new
  pub takes : TakesOneVector k v (views c rs) answer (views c new)

full_at : (res : Result (Unit {0}) ProvisionFault) (o : Option SubscriberView) (w : SubscriberView) → o ≡ Some w
    → ((res ≡ Err Full) ↔ (is_stocked w ≡ true)) → (res ≡ Err Full) ↔ (option_map_or is_stocked o true ≡ true)
full_at res o w is full =
    subst (λ (x : Option SubscriberView). (res ≡ Err Full) ↔ (option_map_or is_stocked x true ≡ true)) (sym is) full

-- the slot's record is given it, or woken
pub takes_one : (res : Result (Unit {0}) ProvisionFault) (c k : ℕ) (v : Vector) (rs : List Record) (r new : Record)
    → IsSubscriberTable c rs → k < length rs → r ≡ get_or rs k r
    → ((res ≡ Err Full) ↔ (is_stocked (view_at c r) ≡ true)) → IfErr res (λ fault. fault ≢ NoMemory → fault ≡ Full)
    → OnOk res (new ≡ given_now c v r) → OnErr res (new ≡ woken c r) → IsGivenOne c k v rs res (set rs k new)
takes_one (Ok x) c k v rs r new t lt e full fault given err =
    let is = given_there c k v rs (set rs k new) t (set_changed (given_now c v) rs k r new lt e given) in
    record {
      table = is.table;
      takes = record {
        full = full_at (Ok x) (slice_get (views c rs) k) (view_at c r) (view_slot c k rs r lt e) full;
        fault = tt;
        given = is.seen;
        err = tt;
      };
    }
takes_one (Err f) c k v rs r new t lt e full fault given err =
    let is = awake c k rs (set rs k new) t (set_changed (woken c) rs k r new lt e err) in
    record {
      table = is.table;
      takes = record {
        full = full_at (Err f) (slice_get (views c rs) k) (view_at c r) (view_slot c k rs r lt e) full;
        fault = fault;
        given = tt;
        err = is.seen;
      };
    }

-- ---- what is seen of the states alone

states_given : {X : Type 0} (f : Solo → X) (k : ℕ) (v : Vector) (ws : List SubscriberView)
    → map (λ (w : SubscriberView). f w.solo) (given_at k v ws) ≡ map (λ (w : SubscriberView). f w.solo) ws
states_given f k v [] = refl
states_given f zero v (w ∷ ws) = refl
states_given f (suc k) v (w ∷ ws) = ap (λ xs. f w.solo ∷ xs) (states_given f k v ws)

-- it is as it was
pub states_kept : {X : Type 0} (f : Solo → X) (res : Result (Unit {0}) ProvisionFault) (k : ℕ) (v : Vector)
    (old new : List SubscriberView) → TakesOneVector k v old res new
    → map (λ (w : SubscriberView). f w.solo) new ≡ map (λ (w : SubscriberView). f w.solo) old
states_kept f (Ok x) k v old new g = ap (map (λ (w : SubscriberView). f w.solo)) g.given ∙ states_given f k v old
states_kept f (Err fault) k v old new g = ap (map (λ (w : SubscriberView). f w.solo)) g.err

-- so the queue has the countdowns that run
pub given_owners : (res : Result (Unit {0}) ProvisionFault) (k : ℕ) (v : Vector) (timers : Countdowns) (strangers : StrangerTable)
    (old new : SubscriberTable) → TakesOneVector k v old.subscribers res new.subscribers → new.clock ≡ old.clock
    → AreRecords timers strangers old → AreRecords timers strangers new
given_owners res k v timers strangers old new g clock h = record {
  strangers_clock = h.strangers_clock;
  subscribers_clock = clock ∙ h.subscribers_clock;
  waits = h.waits;
  timed = h.timed
      ∙ ap (λ ps. waits_of strangers.strangers ++ running_from 0 ps)
      (sym (states_kept countdowns res k v old.subscribers new.subscribers g));
}
