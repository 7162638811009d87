-- What is kept to be sent again is little.
use Rattle.std.proofs.Common.{◌≡◌, ◌≤◌, ◌<◌, ℕ, zero, suc, ◌+◌, ◌-◌, true, List, [], ◌∷◌, length, All, AllPairs, Option, Some, None, subst, arith}
use Rattle.std.specs.Prelude.{slice_get}
use Rattle.std.specs.List.{AllByRecursion}
use Rattle.std.proofs.lemmas.List.Elements.{All-head, All-tail, All-weaker}
use Rattle.std.proofs.lemmas.Option.{same_Some}
use Rattle.s1ap_elements.specs.declared.phone.Tai.{Tai}
use Rattle.sorted_list.specs.Ordered.{Every}
use Rattle.mme_types.specs.declared.stations.StationState.{StationState}
use Rattle.mme_types.specs.Stations.{station_at}
use Rattle.emm_state.specs.declared.solo.Repeat.{Repeat}
use Rattle.emm_state.specs.declared.solo.Repeat.TheVariants as repeats
use Rattle.emm_machine.specs.Idle.{listens}
use Rattle.emm_machine.specs.SubscriberView.{SubscriberView}
use Rattle.mme_core.specs.World.{fresh_world, world_run}
use Rattle.laws_network.specs.RangesInRuns.{BeginsInRange, WorldStaysInRange}
use Rattle.laws_network.specs.SubscriberRanges.{RepeatInRange}
use Rattle.laws_network.specs.WorldRanges.{SubscriberInRange}
use Rattle.laws_network.specs.Placed.{AreListening, BeginsPlaced, IsPagedThere, IsViewPlaced, Listens, StaysPlaced}
use Rattle.laws_network.specs.Kept.{IsLittle, PhonesKeepLittle}

-- ---- stations that are there

-- one that listens is there
there_is : (tai : Tai) (stations : List StationState) (e : ℕ) → listens tai (station_at stations e) ≡ true → e < length stations
there_is tai [] e is = absurd (cc is)
there_is tai (x ∷ xs) zero is = omega arith
there_is tai (x ∷ xs) (suc e) is = let less = there_is tai xs e is in omega (arith, less)

-- rising numbers from one on and below another are no more than lie between
rising_few : (low high : ℕ) (es : List ℕ) → All (λ e. low ≤ e) es → All (λ e. e < high) es → AllPairs ◌<◌ es → length es ≤ high - low
rising_few low high [] above below rising = omega arith
rising_few low high (e ∷ es) above below rising =
    let least = All-head (λ n. low ≤ n) e es above in
    let less = All-head (λ n. n < high) e es below in
    let rest = rising_few (e + 1) high es
    (λ k d lt. let more = rising zero (suc k) d (omega arith) (omega (arith, lt)) in omega (arith, more))
    (All-tail (λ n. n < high) e es below)
    (λ i j d lt within. rising (suc i) (suc j) d (omega (arith, lt)) (omega (arith, within))) in
    omega (arith, least, less, rest)

listening_few : (stations : List StationState) (tai : Tai) (es : List ℕ) → AreListening stations tai es → length es ≤ length stations
listening_few stations tai es h =
    let few = rising_few 0 (length stations) es (λ k d lt. omega arith)
    (All-weaker (Listens stations tai) (λ e. e < length stations) (λ e is. there_is tai stations e is) es h.all) h.once in
    omega (arith, few)

-- ---- what is kept

little : (stations : List StationState) (tai : Tai) (o : Option Repeat) → length stations ≡ 128 → RepeatInRange o → IsPagedThere stations tai o
    → IsLittle o
little stations tai None many range placed = tt
little stations tai (Some (repeats.Nas protection nas)) many range placed = range.few
little stations tai (Some (repeats.Paging es)) many range placed =
    let few = listening_few stations tai es placed in
    omega (arith, few, many)

all_little : (stations : List StationState) (ws : List SubscriberView) (slot : ℕ) (x : SubscriberView) → length stations ≡ 128
    → AllByRecursion SubscriberInRange ws → Every (IsViewPlaced stations) ws → slice_get ws slot ≡ Some x → IsLittle x.solo.repeat
all_little stations [] slot x many ranges placed at = absurd (cc at)
all_little stations (w ∷ ws) zero x many ranges placed at =
    subst (λ (y : SubscriberView). IsLittle y.solo.repeat) (same_Some w x at)
    (little stations w.solo.tai w.solo.repeat many ranges.0.solo.repeat placed.0.paged)
all_little stations (w ∷ ws) (suc slot) x many ranges placed at = all_little stations ws slot x many ranges.1 placed.1 at

pub phones_keep_little : BeginsPlaced → StaysPlaced → BeginsInRange → WorldStaysInRange → PhonesKeepLittle
phones_keep_little begins_placed stays_placed begins stays config p events slot x given at =
    let range = stays (fresh_world config p) events (begins config p given) in
    let placed = stays_placed (fresh_world config p) events (begins_placed config p) in
    all_little (world_run (fresh_world config p) events).sight.stations (world_run (fresh_world config p) events).subscribers slot x
    range.stations range.subscribers placed.subscribers at
