-- Items that a subscriber isn't touched by.
use Rattle.std.specs.Prelude.{ℕ, ◌==◌, ◌&&◌, Bool, true, false, not, List, Option, Some, None, is_some}
use Rattle.mme_types.specs.declared.connection.Connection.{Connection}
use Rattle.mme_types.specs.declared.event.UeBody.{UeBody}
use Rattle.mme_types.specs.declared.event.UeBody.TheVariants.{Uplink, UeContextReleaseRequest, UeContextReleaseComplete, InitialContextSetupFailure, PathSwitch, Notice}
use Rattle.mme_types.specs.declared.event.UeMessage.{UeMessage}
use Rattle.mme_types.specs.Events.{Item, Nothing, Initial, Claim, Message, Displaced, StationGone, ConnectionsGone, Tick, Data, Cancel}
use Rattle.mme_types.specs.Listed.{ToReset, is_listed}
use Rattle.emm_state.specs.declared.solo.Repeat.{Repeat}
use Rattle.emm_state.specs.declared.solo.Repeat.TheVariants as repeats
use Rattle.emm_state.specs.declared.solo.Solo.{Solo}
use Rattle.emm_state.specs.Actions.{untouched}
use Rattle.emm_network.specs.Connected.{has_connection_id, has_pair}

abbrev pub is_elsewhere : ℕ → Option Connection → Bool
is_elsewhere station None = true
is_elsewhere station (Some k) = not (k.station == station)

-- the connection is elsewhere, or no item of a list in a RESET matches it
abbrev pub is_unlisted : ℕ → ToReset → Option Connection → Bool
is_unlisted station items None = true
is_unlisted station items (Some k) = not (k.station == station && is_listed k.id k.enb_ue_id items)

abbrev pub pages : Option Repeat → Bool
pages None = false
pages (Some (repeats.Nas protection nas)) = false
pages (Some (repeats.Paging es)) = true

-- UE CONTEXT RELEASE COMPLETE, and on the connection what a station only tells
abbrev pub is_idle : UeBody (List ℕ) → UeMessage (List ℕ) → Solo → Bool
is_idle UeContextReleaseComplete m solo = true
is_idle Notice m solo = has_connection_id m (untouched solo) && has_pair m (untouched solo)
is_idle (Uplink nas tai) m solo = false
is_idle (UeContextReleaseRequest cause) m solo = false
is_idle InitialContextSetupFailure m solo = false
is_idle PathSwitch m solo = false

-- an item that leaves a state as it is and sends nothing, as far as a look at it tells
abbrev pub still : Solo → Item → Bool
still solo Nothing = true
still solo Tick = not (is_some solo.procedure) && not (is_some solo.reachable)
still solo (StationGone station) = not (pages solo.repeat) && is_elsewhere station solo.connection
still solo (ConnectionsGone station items) = is_unlisted station items solo.connection
still solo (Initial m) = false
still solo (Claim id m) = false
still solo (Message m) = is_idle m.body m solo
still solo (Displaced id) = false
still solo (Data stations) = false
still solo Cancel = false
