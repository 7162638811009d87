-- The step of the one-subscriber machine, and runs of it.
use Rattle.std.specs.Prelude.{List, [], ◌∷◌, Option, Some, unwrap_or}
use Rattle.s1ap_causes.specs.declared.cause.Cause.TheVariants.{Nas}
use Rattle.s1ap_causes.specs.declared.cause.NasCause.TheVariants.{Unspecified}
use Rattle.mme_types.specs.declared.octets.Answer.{Answer}
use Rattle.mme_types.specs.Events.{Item, Nothing, Initial, Claim, Message, Displaced, StationGone, ConnectionsGone, Tick, Data, Cancel}
use Rattle.emm_state.specs.declared.draft.Draft.{Draft}
use Rattle.emm_state.specs.declared.setting.Setting.{Setting}
use Rattle.emm_state.specs.declared.solo.Solo.{Solo}
use Rattle.emm_state.specs.Actions.{fall, untouched, wipe}
use Rattle.emm_network.specs.Connected.{connections_gone, displaced, station_gone}
use Rattle.emm_machine.specs.Messages.{message_of}
use Rattle.emm_network.specs.Idle.{cancelled, data_waits, tick}
use Rattle.emm_uplink.specs.Serving.{claim, initial}

-- ---- the step

-- the row of an item; none where a downlink count is spent
unfoldable pub row : Setting → Item → Draft → Option Draft
row s Nothing d = Some d
row s (Initial m) d = initial s m d
row s (Claim id m) d = Some (claim s id m d)
row s (Message m) d = message_of m.body s m d
row s (Displaced id) d = Some (displaced id d)
row s (StationGone station) d = Some (station_gone station d)
row s (ConnectionsGone station items) d = Some (connections_gone station items d)
row s Tick d = tick s d
row s (Data stations) d = Some (data_waits s stations d)
row s Cancel d = cancelled d.solo.phase d

-- the end of the registration, where a downlink count is spent
abbrev pub spent : Solo → Draft
spent solo = wipe (fall (Nas Unspecified) (untouched solo))

-- the item's row, or that end in its place
unfoldable pub solo_step : Setting → Solo → Item → Draft
solo_step s solo item = unwrap_or (row s item (untouched solo)) (spent solo)

-- the state after a list of items
abbrev pub solo_after : Setting → Solo → List Item → Solo
solo_after s solo [] = solo
solo_after s solo (item ∷ items) = solo_after s (solo_step s solo item).solo items

-- what is sent over a list of items, by item
abbrev pub solo_answers : Setting → Solo → List Item → List (List Answer)
solo_answers s solo [] = []
solo_answers s solo (item ∷ items) = (solo_step s solo item).sent ∷ solo_answers s (solo_step s solo item).solo items
