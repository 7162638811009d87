-- Each subscriber and each stranger of an MME goes on as alone, so what ends of them ends of it.
use Rattle.std.proofs.Common.{◌≡◌, ℕ, zero, suc, ◌+◌, ◌-◌, ◌<◌, ◌≤◌, ◌^◌, ◌==◌, Bool, true, false, cond, List, [], ◌∷◌, ◌++◌, map, Option, Some, None, nat_lt, slice_get, if◌then◌else◌, refl, sym, subst, ap, ◌∙◌, true≢false, arith}
use Rattle.std.specs.Prelude.{option_map}
use Rattle.std.proofs.lemmas.Bool.Decides.{nat_tests}
use Rattle.sorted_list.specs.Ordered.{Every, at, put, without}
use Rattle.identity_slots.specs.declared.profile.Profile.{Profile}
use Rattle.identity_slots.specs.declared.profile.Vector.{Vector}
use Rattle.mme_types.specs.declared.network.Network.{Network}
use Rattle.mme_types.specs.Events.{Item}
use Rattle.mme_types.specs.Events as items
use Rattle.emm_state.specs.declared.setting.Setting.{Setting}
use Rattle.emm_state.specs.declared.solo.Phase.{Phase}
use Rattle.emm_state.specs.declared.solo.Phase.TheVariants.{Deregistered, Authenticating, SecurityMode, EsmInformation, Accepting, Updating, Registered, Detaching}
use Rattle.emm_state.specs.declared.solo.Solo.{Solo}
use Rattle.emm_machine.specs.Steps.{solo_step}
use Rattle.emm_machine.specs.SubscriberView.{SubscriberView}
use Rattle.emm_machine.specs.Ticks.{ticks_after}
use Rattle.emm_machine.specs.Words.{fresh_solo}
use Rattle.stranger_machine.specs.declared.state.Stranger.{Stranger}
use Rattle.stranger_machine.specs.declared.state.Stranger.TheVariants.{Waiting, Held}
use Rattle.stranger_machine.specs.declared.table.Known.{Known}
use Rattle.stranger_machine.specs.declared.turn.Notice.{Notice}
use Rattle.stranger_machine.specs.declared.turn.Notice.TheVariants as notices
use Rattle.stranger_machine.specs.Machine.{Input, Begins, Notes, Receives, notes, stranger_step}
use Rattle.stranger_machine.specs.Table.{known_id, known_if, noted, stranger_at, with_input, with_stranger}
use Rattle.mme_routing.specs.Destinations.{Destination, strangers_left}
use Rattle.mme_routing.specs.Destinations as to
use Rattle.laws_subscriber.specs.Clocked.{IsClocked}
use Rattle.laws_subscriber.specs.Ends.{AllElseEnds, EndsInTime, IsSettled, longest_in, longest_procedure}
use Rattle.laws_subscriber.specs.Silent.{SilentEnds, SilentIsForgotten}
use Rattle.laws_subscriber.specs.Strangers.{IsTimed, StaysTimed, TickTakesOne, is_waiting, stranger_due}
use Rattle.mme_core.specs.declared.event.Event.{Event}
use Rattle.mme_core.specs.declared.event.Event.TheVariants.{Tick}
use Rattle.mme_core.specs.declared.event.StepFault.{StepFault}
use Rattle.mme_core.specs.declared.event.StepFault.TheVariants.{ClockSpent}
use Rattle.mme_core.specs.World.{World, each_after, event_fault, fresh_subscribers, fresh_world, happens, items_of, strangers_in, subscriber_after, unless, world_after, world_moved, world_run}
use Rattle.mme_core.specs.FreshRuns.{AreInUse}
use Rattle.mme_core.specs.Kept.{BeginsKept, IsKept, IsKnownTimed, StaysKept}
use Rattle.mme_core.specs.Laws.{GoesAlone}
use Rattle.mme_core.specs.Projection.{alone_after}
use Rattle.laws_mme.specs.EndingWorlds.{AllAreForgotten, AllEndsInTime, EveryRunEnds, HasTicks, IsNotWaiting, IsSubscriberSettled, SilentSlotEnds, SilentSlotIsForgotten, TicksReachEveryone, items_for, tick_events, ticked}

-- ---- each stranger in the table

-- what holds of a stranger that may be none
abbrev IfKnown : (Known → Type 0) → ℕ → Option Stranger → Type 0
IfKnown P id None = Unit {0}
IfKnown P id (Some s) = P (record { id = id; stranger = s })

every_known_if : (P : Known → Type 0) (id : ℕ) (s : Option Stranger) (ks : List Known) → IfKnown P id s → Every P ks
    → Every P (known_if id s ks)
every_known_if P id None ks h each = each
every_known_if P id (Some s) ks h each = (h, each)

timed_notice : StaysTimed → (id : ℕ) (s : Option Stranger) (notice : Notice) → IsTimed s → IsTimed (notes id s notice).stranger
unfolding stranger_step
timed_notice stay id s notice h = stay [] id s (Notes notice ∷ []) h

-- ---- a tick

unspent : (b : Bool) → b ≡ true → (if b then None else Some ClockSpent) ≡ None
unspent true h = refl
unspent false h = absurd (true≢false (sym h))

tick_moves : (w : World) → w.sight.clock < 2 ^ 62 → world_after w Tick ≡ world_moved w Tick
tick_moves w lt =
    let below : nat_lt w.sight.clock (2 ^ 62) ≡ true = grind (arith, nat_tests) in
    ap (λ (o : Option StepFault). unless o w (world_moved w Tick)) (unspent (nat_lt w.sight.clock (2 ^ 62)) below)

one_tick : SubscriberView → SubscriberView
one_tick x = subscriber_after x items.Tick

each_tick : (each : ℕ → Item) → ((k : ℕ) → each k ≡ items.Tick) → (n : ℕ) (xs : List SubscriberView)
    → each_after each n xs ≡ map one_tick xs
unfolding one_tick
each_tick each is n [] = refl
each_tick each is n (x ∷ xs) =
    ap (λ (i : Item). subscriber_after x i ∷ each_after each (n + 1) xs) (is n)
    ∙ ap (λ (ys : List SubscriberView). subscriber_after x items.Tick ∷ ys) (each_tick each is (n + 1) xs)

-- what a tick leaves
record Moved (w v : World) : Type 0 where
  pub clock : v.sight.clock ≡ w.sight.clock + 1
  pub strangers : v.strangers ≡ noted notices.Tick w.strangers
  pub subscribers : v.subscribers ≡ map one_tick w.subscribers

moved : (w : World) → Moved w (world_moved w Tick)
unfolding happens
moved w = record { clock = refl; strangers = refl; subscribers = each_tick (items_of w.sight (strangers_in w) Tick) (λ k. refl) 0 w.subscribers }

tick_leaves : (w : World) → w.sight.clock < 2 ^ 62 → Moved w (world_after w Tick)
tick_leaves w lt = subst (λ (v : World). Moved w v) (sym (tick_moves w lt)) (moved w)

-- ---- ticks in a row

ticks_first : (s : Setting) (n : ℕ) (solo : Solo) → ticks_after s n (solo_step s solo items.Tick).solo ≡ ticks_after s (suc n) solo
unfolding ticks_after
ticks_first s zero solo = refl
ticks_first s (suc n) solo = ap (λ (x : Solo). (solo_step s x items.Tick).solo) (ticks_first s n solo)

ticked_none : (xs : List SubscriberView) → map (ticked 0) xs ≡ xs
unfolding ticks_after
ticked_none [] = refl
ticked_none (x ∷ xs) = ap (λ (ys : List SubscriberView). x ∷ ys) (ticked_none xs)

ticked_more : (n : ℕ) (xs : List SubscriberView) → map (ticked n) (map one_tick xs) ≡ map (ticked (suc n)) xs
unfolding one_tick
ticked_more n [] = refl
ticked_more n (x ∷ xs) =
    ap (λ (solo : Solo). record { setting = x.setting; solo = solo } ∷ map (ticked n) (map one_tick xs)) (ticks_first x.setting n x.solo)
    ∙ ap (λ (ys : List SubscriberView). ticked (suc n) x ∷ ys) (ticked_more n xs)

below : (w : World) (n : ℕ) → HasTicks (suc n) w → w.sight.clock < 2 ^ 62
below w n h = omega arith

later : (w : World) (n : ℕ) → HasTicks (suc n) w → HasTicks n (world_after w Tick)
later w n h = let moves = (tick_leaves w (below w n h)).clock in omega arith

pub ticks_reach_everyone : TicksReachEveryone
ticks_reach_everyone w zero h = sym (ticked_none w.subscribers)
ticks_reach_everyone w (suc n) h =
    ticks_reach_everyone (world_after w Tick) n (later w n h)
    ∙ ap (λ (xs : List SubscriberView). map (ticked n) xs) (tick_leaves w (below w n h)).subscribers ∙ ticked_more n w.subscribers

-- ---- strangers over ticks

record IsDueWithin (m : ℕ) (k : Known) : Type 0 where
  pub timed : IsTimed (Some k.stranger)
  pub due : stranger_due (Some k.stranger) ≤ m

if_due : (m id : ℕ) (s : Option Stranger) → IsTimed s → stranger_due s ≤ m → IfKnown (IsDueWithin m) id s
if_due m id None h due = tt
if_due m id (Some s) h due = record { timed = h; due = due }

due_noted : StaysTimed → TickTakesOne → (m : ℕ) (ks : List Known) → Every (IsDueWithin m) ks
    → Every (IsDueWithin (m - 1)) (noted notices.Tick ks)
due_noted stay takes m [] each = tt
due_noted stay takes m (k ∷ ks) each =
    every_known_if (IsDueWithin (m - 1)) k.id _ (noted notices.Tick ks)
    (if_due (m - 1) k.id _ (timed_notice stay k.id (Some k.stranger) notices.Tick each.0.timed) (takes k.id (Some k.stranger) m each.0.timed each.0.due))
    (due_noted stay takes m ks each.1)

due_after : StaysTimed → TickTakesOne → (n : ℕ) (w : World) (m : ℕ) → HasTicks n w → Every (IsDueWithin m) w.strangers
    → Every (IsDueWithin (m - n)) (world_run w (tick_events n)).strangers
due_after stay takes zero w m h each =
    let same : m ≡ m - 0 = omega arith in subst (λ (i : ℕ). Every (IsDueWithin i) w.strangers) same each
due_after stay takes (suc n) w m h each =
    let one : Every (IsDueWithin (m - 1)) (world_after w Tick).strangers =
    subst (λ (ks : List Known). Every (IsDueWithin (m - 1)) ks) (sym (tick_leaves w (below w n h)).strangers)
    (due_noted stay takes m w.strangers each) in
    let same : (m - 1) - n ≡ m - suc n = omega arith in
    subst (λ (i : ℕ). Every (IsDueWithin i) (world_run w (tick_events (suc n))).strangers) same
    (due_after stay takes n (world_after w Tick) (m - 1) (later w n h) one)

most_due : (s : Stranger) → IsTimed (Some s) → stranger_due (Some s) ≤ longest_procedure
most_due (Held slot) h = omega arith
most_due (Waiting k left repeats) h = let most = h.1 in let few = h.2 in omega arith

due_each : (ks : List Known) → Every IsKnownTimed ks → Every (IsDueWithin longest_procedure) ks
due_each [] each = tt
due_each (k ∷ ks) each = (record { timed = each.0; due = most_due k.stranger each.0 }, due_each ks each.1)

over : (s : Stranger) → IsTimed (Some s) → stranger_due (Some s) ≤ 0 → is_waiting (Some s) ≡ false
over (Held slot) h due = refl
over (Waiting k left repeats) h due = let some_left = h.0 in absurd (omega arith)

over_each : (ks : List Known) → Every (IsDueWithin 0) ks → Every IsNotWaiting ks
over_each [] each = tt
over_each (k ∷ ks) each = (over k.stranger each.0.timed each.0.due, over_each ks each.1)

-- ---- what ends

longest : (phase : Phase) → longest_in phase ≤ longest_procedure
longest Deregistered = omega arith
longest Authenticating = omega arith
longest SecurityMode = omega arith
longest EsmInformation = omega arith
longest Accepting = omega arith
longest Updating = omega arith
longest Registered = omega arith
longest Detaching = omega arith

settled_each : EndsInTime → (n : ℕ) → longest_procedure ≤ n → (xs : List SubscriberView) → AreInUse xs
    → Every IsSubscriberSettled (map (ticked n) xs)
settled_each ends n long [] h = tt
settled_each ends n long (x ∷ xs) h =
    let most = longest x.solo.phase in (ends x.setting x.solo n h.2 (omega arith), settled_each ends n long xs h.3)

pub all_ends_in_time : StaysTimed → TickTakesOne → EndsInTime → AllEndsInTime
all_ends_in_time stay takes ends w n h clock long =
    let none_left : longest_procedure - n ≡ 0 = omega arith in (
      subst (λ (xs : List SubscriberView). Every IsSubscriberSettled xs) (sym (ticks_reach_everyone w n clock))
          (settled_each ends n long w.subscribers h.in_use),
      over_each _ (subst (λ (i : ℕ). Every (IsDueWithin i) (world_run w (tick_events n)).strangers) none_left
          (due_after stay takes n w longest_procedure clock (due_each w.strangers h.timed))),
    )

run_append : (w : World) (before since : List Event) → world_run w (before ++ since) ≡ world_run (world_run w before) since
run_append w [] since = refl
run_append w (event ∷ before) since = run_append (world_after w event) before since

AreOver : World → Type 0
AreOver v = Every IsSubscriberSettled v.subscribers × Every IsNotWaiting v.strangers

pub every_run_ends : BeginsKept → StaysKept → StaysTimed → TickTakesOne → EndsInTime → EveryRunEnds
unfolding AreOver
every_run_ends begins kept stay takes ends config p events n clock long =
    let w = fresh_world config p in
    subst AreOver (sym (run_append w events (tick_events n)))
    (all_ends_in_time stay takes ends (world_run w events) n (kept w events (begins config p)) clock long)

ticked_at : (n : ℕ) (xs : List SubscriberView) (slot : ℕ) (x : SubscriberView) → slice_get xs slot ≡ Some x
    → slice_get (map (ticked n) xs) slot ≡ Some (ticked n x)
ticked_at n [] slot x at = cc
ticked_at n (y ∷ xs) zero x at = let here : y ≡ x = cc in ap (λ (z : SubscriberView). Some (ticked n z)) here
ticked_at n (y ∷ xs) (suc slot) x at = ticked_at n xs slot x at

clocked_at : (xs : List SubscriberView) (slot : ℕ) (x : SubscriberView) → AreInUse xs → slice_get xs slot ≡ Some x
    → IsClocked x.solo
clocked_at [] slot x h at = cc
clocked_at (y ∷ xs) zero x h at = let here : y ≡ x = cc in subst (λ (z : SubscriberView). IsClocked z.solo) here h.2
clocked_at (y ∷ xs) (suc slot) x h at = clocked_at xs slot x h.3 at

pub all_are_forgotten : AllElseEnds → AllAreForgotten
all_are_forgotten ends w n slot x h clock long at idle = (
  ap (λ (xs : List SubscriberView). slice_get xs slot) (ticks_reach_everyone w n clock) ∙ ticked_at n w.subscribers slot x at,
  ends x.setting x.solo n (clocked_at w.subscribers slot x h.in_use at) idle long,
)

-- ---- one slot

-- the state of a slot after a list is that of its machine alone
alone : GoesAlone → (w : World) (events : List Event) (slot : ℕ) (x y : SubscriberView) → IsKept w
    → slice_get w.subscribers slot ≡ Some x
    → slice_get (world_run w events).subscribers slot ≡ Some y → y ≡ alone_after x (items_for w slot events)
alone goes w events slot x y h at after = let told = goes w events slot x h.rising at in cc

pub silent_slot_ends : GoesAlone → SilentEnds → SilentSlotEnds
silent_slot_ends goes ends w events slot x y h at after silent long =
    let most = longest x.solo.phase in
    subst (λ (z : SubscriberView). IsSettled z.solo) (sym (alone goes w events slot x y h at after))
    (ends x.setting x.solo (items_for w slot events) (clocked_at w.subscribers slot x h.in_use at) silent (omega arith))

pub silent_slot_is_forgotten : GoesAlone → SilentIsForgotten → SilentSlotIsForgotten
silent_slot_is_forgotten goes ends w events slot x y h at after silent idle long =
    subst (λ (z : SubscriberView). z.solo.phase ≡ Deregistered) (sym (alone goes w events slot x y h at after))
    (ends x.setting x.solo (items_for w slot events) (clocked_at w.subscribers slot x h.in_use at) silent idle long)
