-- What follows from the definitions: an item that is still leaves a subscriber as it is, and nothing is sent.
use Rattle.std.proofs.Common.{◌≡◌, ℕ, ◌==◌, ◌&&◌, Bool, true, false, not, if◌then◌else◌, List, Option, Some, None, is_some, refl}
use Rattle.nas_elements.specs.Exact.{both_true}
use Rattle.mme_types.specs.declared.connection.Connection.{Connection}
use Rattle.mme_types.specs.declared.event.UeBody.{UeBody}
use Rattle.mme_types.specs.declared.event.UeBody.TheVariants.{Uplink, UeContextReleaseRequest, UeContextReleaseComplete, InitialContextSetupFailure, PathSwitch, Notice}
use Rattle.mme_types.specs.declared.event.UeMessage.{UeMessage}
use Rattle.mme_types.specs.Events.{Item, Nothing, Initial, Claim, Message, Displaced, StationGone, ConnectionsGone, Tick, Data, Cancel}
use Rattle.mme_types.specs.Listed.{ToReset, is_listed}
use Rattle.emm_state.specs.declared.draft.Draft.{Draft}
use Rattle.emm_state.specs.declared.setting.Setting.{Setting}
use Rattle.emm_state.specs.declared.solo.Countdown.{Countdown}
use Rattle.emm_state.specs.declared.solo.Repeat.{Repeat}
use Rattle.emm_state.specs.declared.solo.Repeat.TheVariants as repeats
use Rattle.emm_state.specs.declared.solo.Solo.{Solo}
use Rattle.emm_state.specs.Actions.{lost, untouched}
use Rattle.emm_network.specs.Connected.{connections_gone, has_connection_id, has_pair, station_gone, strike}
use Rattle.emm_network.specs.Idle.{lowered, procedure_ticks, reachable_ticks_out, tick}
use Rattle.emm_machine.specs.Messages.{checked, message_of, on_connection}
use Rattle.emm_machine.specs.Steps.{row, solo_step}
use Rattle.emm_machine.specs.Still.{is_elsewhere, is_idle, is_unlisted, pages, still}

abbrev counting : Option Countdown → Option ℕ → Solo → Solo
counting procedure reachable solo = record solo { procedure = procedure; reachable = reachable }

-- no countdown runs
still_tick : (s : Setting) (solo : Solo) (procedure : Option Countdown) (reachable : Option ℕ)
    → (not (is_some procedure) && not (is_some reachable)) ≡ true
    → solo_step s (counting procedure reachable solo) Tick ≡ untouched (counting procedure reachable solo)
unfolding solo_step row tick lowered procedure_ticks reachable_ticks_out
still_tick s solo None None h = refl
still_tick s solo None (Some n) h = cc
still_tick s solo (Some c) reachable h = cc

abbrev linked : Option Connection → Option Repeat → Solo → Solo
linked connection repeat solo = record solo { connection = connection; repeat = repeat }

not_lost : (b : Bool) (d : Draft) → (not b) ≡ true → (if b then lost d else d) ≡ d
not_lost true d h = cc
not_lost false d h = refl

-- the connection is elsewhere, and nothing is struck
still_gone : (s : Setting) (solo : Solo) (e : ℕ) (connection : Option Connection) (repeat : Option Repeat)
    → (not (pages repeat) && is_elsewhere e connection) ≡ true
    → solo_step s (linked connection repeat solo) (StationGone e) ≡ untouched (linked connection repeat solo)
unfolding solo_step row station_gone strike
still_gone s solo e None None h = refl
still_gone s solo e None (Some (repeats.Nas protection nas)) h = refl
still_gone s solo e None (Some (repeats.Paging es)) h = cc
still_gone s solo e (Some k) None h = not_lost (k.station == e) (untouched (linked (Some k) None solo)) h
still_gone s solo e (Some k) (Some (repeats.Nas protection nas)) h =
    not_lost (k.station == e) (untouched (linked (Some k) (Some (repeats.Nas protection nas)) solo)) h
still_gone s solo e (Some k) (Some (repeats.Paging es)) h = cc

abbrev connected : Option Connection → Solo → Solo
connected connection solo = record solo { connection = connection }

-- the connection isn't in the list
still_listed : (s : Setting) (solo : Solo) (e : ℕ) (items : ToReset) (connection : Option Connection)
    → is_unlisted e items connection ≡ true
    → solo_step s (connected connection solo) (ConnectionsGone e items) ≡ untouched (connected connection solo)
unfolding solo_step row connections_gone
still_listed s solo e items None h = refl
still_listed s solo e items (Some k) h =
    not_lost (k.station == e && is_listed k.id k.enb_ue_id items) (untouched (connected (Some k) solo)) h

-- the message isn't acted on
still_message : (s : Setting) (solo : Solo) (m : UeMessage (List ℕ)) (body : UeBody (List ℕ)) → m.body ≡ body
    → is_idle body m solo ≡ true → solo_step s solo (Message m) ≡ untouched solo
unfolding solo_step row message_of checked on_connection
still_message s solo m UeContextReleaseComplete e h = rw e refl
still_message s solo m Notice e h =
    let on = both_true (has_connection_id m (untouched solo)) (has_pair m (untouched solo)) h in rw (e, on.0, on.1) refl
still_message s solo m (Uplink nas tai) e h = cc
still_message s solo m (UeContextReleaseRequest cause) e h = cc
still_message s solo m InitialContextSetupFailure e h = cc
still_message s solo m PathSwitch e h = cc

pub still_stays : (s : Setting) (solo : Solo) (item : Item) → still solo item ≡ true → solo_step s solo item ≡ untouched solo
unfolding solo_step row
still_stays s solo Nothing h = refl
still_stays s solo Tick h = still_tick s solo solo.procedure solo.reachable h
still_stays s solo (StationGone e) h = still_gone s solo e solo.connection solo.repeat h
still_stays s solo (ConnectionsGone e items) h = still_listed s solo e items solo.connection h
still_stays s solo (Initial m) h = cc
still_stays s solo (Claim id m) h = cc
still_stays s solo (Message m) h = still_message s solo m m.body refl h
still_stays s solo (Displaced id) h = cc
still_stays s solo (Data stations) h = cc
still_stays s solo Cancel h = cc
