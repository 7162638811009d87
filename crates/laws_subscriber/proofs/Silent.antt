-- What nobody asks with adds nothing to what is due.
use Rattle.std.proofs.Common.{◌≡◌, ℕ, ◌+◌, ◌-◌, ◌≤◌, ◌==◌, Bool, true, false, List, [], ◌∷◌, Option, Some, None, IsSome, is_some, refl, sym, subst, ap, ◌∙◌, true≢false, arith}
use Rattle.mme_types.specs.declared.connection.Connection.{Connection}
use Rattle.mme_types.specs.Events as events
use Rattle.emm_state.specs.declared.draft.Draft.{Draft}
use Rattle.emm_state.specs.declared.setting.Setting.{Setting}
use Rattle.emm_state.specs.declared.solo.Countdown.{Countdown}
use Rattle.emm_state.specs.declared.solo.Phase.{Phase}
use Rattle.emm_state.specs.declared.solo.Phase.TheVariants.{Deregistered, Registered}
use Rattle.emm_state.specs.declared.solo.Repeat.{Repeat}
use Rattle.emm_state.specs.declared.solo.Solo.{Solo}
use Rattle.emm_state.specs.Actions.{lost, untouched}
use Rattle.emm_state.specs.Timers.{reachable_ticks}
use Rattle.emm_machine.specs.Connected as connected
use Rattle.emm_machine.specs.Steps as steps
use Rattle.laws_subscriber.specs.Clocked.{IsClockedIn}
use Rattle.laws_subscriber.specs.Ends.{longest_registration, ticks_due}
use Rattle.laws_subscriber.specs.Silent.{AreSilent, SilentEnds, SilentIsForgotten, is_silent, tick_count, ticks_among}
use Rattle.laws_subscriber.specs.Choices.{at_some, either}
use Rattle.laws_subscriber.proofs.Clocked.{Holds, clocked_struck, rests_lost}
use Rattle.laws_subscriber.proofs.Ticking.{IsWaiting, IsWithin, gone_within, within_due, within_tick}
use Rattle.laws_subscriber.proofs.Ending.{Within, fewer, forgotten, most_in, settled_in, waits_in}

-- ---- a connection that is lost

later_rest : (told : Bool) (j due : ℕ) → (told ≡ true → due + reachable_ticks ≤ j) → told ≡ true → reachable_ticks ≤ j
later_rest told j due long told_so = let far = long told_so in omega arith

-- a phone that is connected has so long until it is forgotten as if it came to rest now
rest_waits : (told : Bool) (j : ℕ) (phase : Phase) (c : Option Connection) (p : Option Countdown) (r : Option Repeat) (n : Option ℕ)
    → IsClockedIn phase c p r n
    → IsWaiting told j phase p n → IsSome c → told ≡ true → reachable_ticks ≤ j
rest_waits told j Deregistered c p r n h w k = absurd (true≢false (sym k ∙ ap (λ (o : Option Connection). is_some o) h.0))
rest_waits told j Registered (Some c) p r None h w k = λ told_so. absurd (true≢false (sym told_so ∙ w))
rest_waits told j Registered (Some c) p r (Some i) h w k = absurd (cc)
rest_waits told j Registered None p r n h w k = absurd (true≢false (sym k))
rest_waits told j _ c p r n h w k = later_rest told j (ticks_due p) w

lost_within : (m : ℕ) (told : Bool) (j : ℕ) (d : Draft) → Within m told j d.solo → IsSome d.solo.connection
    → Holds (IsWithin m told j) (lost d)
lost_within m told j d h k =
    let rest = rest_waits told j d.solo.phase d.solo.connection d.solo.procedure d.solo.repeat d.solo.reachable h.0 h.2 k in
    rests_lost (IsWithin m told j) (gone_within m told j) ((refl, (omega arith, omega arith)), omega arith, rest) d

there : {K : Type 0} (o : Option K) (k : K) → o ≡ Some k → IsSome o
there {K} o k is = ap (λ (x : Option K). is_some x) is

-- ---- the step

within_kept : (s : Setting) (solo : Solo) (item : events.Item) (m : ℕ) (told : Bool) (j : ℕ) → is_silent item ≡ true
    → Within m told j solo
    → Within (m - tick_count item) told (j - tick_count item) (steps.solo_step s solo item).solo
unfolding steps.solo_step steps.row connected.displaced connected.station_gone connected.strike connected.connections_gone
within_kept s solo events.Nothing m told j silent h = fewer told solo m (m - 0) j (j - 0) (omega arith) (omega arith) h
within_kept s solo (events.Initial e) m told j silent h = absurd (true≢false (sym silent))
within_kept s solo (events.Claim id e) m told j silent h = absurd (true≢false (sym silent))
within_kept s solo (events.Message e) m told j silent h = absurd (true≢false (sym silent))
within_kept s solo (events.Displaced id) m told j silent h =
    let P = Holds (IsWithin m told j) in
    let d = untouched solo in
    let same : P d = record { holds = h } in
    let after : P (connected.displaced id d) =
    at_some P solo.connection (λ k is. either P (k.id == id) (lost_within m told j d h (there solo.connection k is)) same)
    (λ none. same) in
    fewer told (connected.displaced id d).solo m (m - 0) j (j - 0) (omega arith) (omega arith) after.holds
within_kept s solo (events.StationGone station) m told j silent h =
    let P = Holds (IsWithin m told j) in
    let d = connected.strike station (untouched solo) in
    let struck : Within m told j d.solo =
    (clocked_struck station solo.phase solo.connection solo.procedure solo.repeat solo.reachable h.0, h.1, h.2) in
    let same : P d = record { holds = struck } in
    let after : P (connected.station_gone station (untouched solo)) =
    at_some P solo.connection
    (λ k is. either P (k.station == station) (lost_within m told j d struck (there solo.connection k is)) same) (λ none. same) in
    fewer told (connected.station_gone station (untouched solo)).solo m (m - 0) j (j - 0) (omega arith) (omega arith) after.holds
within_kept s solo (events.ConnectionsGone station items) m told j silent h =
    let P = Holds (IsWithin m told j) in
    let d = untouched solo in
    let same : P d = record { holds = h } in
    let after : P (connected.connections_gone station items d) =
    at_some P solo.connection (λ k is. either P _ (lost_within m told j d h (there solo.connection k is)) same) (λ none. same) in
    fewer told (connected.connections_gone station items d).solo m (m - 0) j (j - 0) (omega arith) (omega arith) after.holds
within_kept s solo events.Tick m told j silent h = (within_tick s solo m told j h).holds
within_kept s solo (events.Data stations) m told j silent h = absurd (true≢false (sym silent))
within_kept s solo events.Cancel m told j silent h = absurd (true≢false (sym silent))

within_run : (s : Setting) (items : List events.Item) (solo : Solo) (m : ℕ) (told : Bool) (j : ℕ) → AreSilent items
    → Within m told j solo
    → Within (m - ticks_among items) told (j - ticks_among items) (steps.solo_after s solo items)
within_run s [] solo m told j silent h = fewer told solo m (m - 0) j (j - 0) (omega arith) (omega arith) h
within_run s (item ∷ items) solo m told j silent h =
    fewer told (steps.solo_after s solo (item ∷ items)) ((m - tick_count item) - ticks_among items)
    (m - (tick_count item + ticks_among items))
    ((j - tick_count item) - ticks_among items) (j - (tick_count item + ticks_among items)) (omega arith) (omega arith)
    (within_run s items (steps.solo_step s solo item).solo (m - tick_count item) told (j - tick_count item) silent.1 (within_kept s solo item m told j silent.0 h))

pub silent_ends : SilentEnds
silent_ends s solo items h silent long =
    let most = most_in solo.phase solo.connection solo.procedure solo.repeat solo.reachable h in
    let none_left : ticks_due solo.procedure - ticks_among items ≡ 0 = omega arith in
    let after = within_run s items solo (ticks_due solo.procedure) false 0 silent (within_due solo _ h (omega arith)) in
    let e = steps.solo_after s solo items in
    settled_in e.phase e.connection e.procedure e.repeat e.reachable after.0
    (subst (λ (m : ℕ). ticks_due e.procedure ≤ m) none_left after.1)

pub silent_is_forgotten : SilentIsForgotten
silent_is_forgotten s solo items h silent idle long =
    let far = longest_registration in
    let none_left : far - ticks_among items ≡ 0 = omega arith in
    let after =
    within_run s items solo (ticks_due solo.procedure) true far silent
    (h, omega arith, waits_in solo.phase solo.connection solo.procedure solo.repeat solo.reachable far h idle (λ way. omega arith) (omega arith)) in
    let e = steps.solo_after s solo items in
    forgotten e.phase e.connection e.procedure e.repeat e.reachable after.0
    (subst (λ (k : ℕ). IsWaiting true k e.phase e.procedure e.reachable) none_left after.2)
