-- In what a trace prints, the lines of an owner are those of its own machine over what the trace has for it.
use Rattle.std.specs.Prelude.{◌≡◌, ◌≤◌, ◌<◌, ℕ, List, [], length, Some, None, slice_get}
use Rattle.sorted_list.specs.Ordered.{Rising}
use Rattle.identity_slots.specs.Ids.{enb_ue_ids, slots, stranger_id}
use Rattle.identity_slots.specs.Provisioned.{Provisioned}
use Rattle.emm_machine.specs.SubscriberView.{SubscriberView}
use Rattle.stranger_machine.specs.Table.{known_id, stranger_at}
use Rattle.mme_answering.specs.declared.out.Owner.TheVariants.{Station, Stranger, Subscriber}
use Rattle.mme_core.specs.Apart.{AreApart}
use Rattle.mme_core.specs.declared.config.Config.{Config}
use Rattle.mme_core.specs.Kept.{IsKept}
use Rattle.mme_core.specs.Laws.{busy}
use Rattle.mme_core.specs.Projection.{station_told, stranger_told, subscriber_told}
use Rattle.mme_core.specs.World.{World, fresh_world}
use Rattle.laws_mme.specs.OwnersAlone.{own_items}
use Rattle.laws_mme.specs.Same.{busy_inputs, events_of, inputs_along}
use Rattle.laws_network.specs.Placed.{AllPlaced}
use Rattle.trace_progress.specs.declared.progress.Progress.TheVariants.{Running}
use Rattle.trace_progress.specs.Text.{play, played_of}
use Rattle.laws_simulation.specs.Printed.{lines_for, told_lines}
use Rattle.laws_simulation.specs.TraceRuns.{Run, events_in, run_of}

-- ---- a run

-- the MME of a run is one that nobody has spoken to, with a slot for each who is provisioned
abbrev pub RunBeginsFresh : Type 0
RunBeginsFresh =
    (octets : List ℕ) (run : Run) → run_of octets ≡ Some run
    → (config : Config) × (p : Provisioned) × (run.mme ≡ fresh_world config p) × (length p.profiles ≤ slots)

-- where no line of a trace comes to an MME, nothing is printed
abbrev pub NothingIsPrinted : Type 0
NothingIsPrinted = (octets : List ℕ) → run_of octets ≡ None → (played_of octets).text ≡ []

-- ---- a slot

-- who is provisioned has the lines of its machine over its projection of the trace
abbrev pub SlotIsPrinted : Type 0
SlotIsPrinted =
    (octets : List ℕ) (run : Run) (slot : ℕ) (x : SubscriberView) → run_of octets ≡ Some run
    → slice_get run.mme.subscribers slot ≡ Some x
    → lines_for (Subscriber slot) (played_of octets).text
    ≡ told_lines (Subscriber slot) (subscriber_told x (own_items slot run.mme run.events))

-- a slot that isn't provisioned has no lines
abbrev pub NobodyIsPrinted : Type 0
NobodyIsPrinted =
    (octets : List ℕ) (run : Run) (slot : ℕ) → run_of octets ≡ Some run → slice_get run.mme.subscribers slot ≡ None → slot < slots
    → lines_for (Subscriber slot) (played_of octets).text ≡ []

-- the same of lines that any MME is given; that the strangers' ids rise, and that there is a slot for each subscriber, holds of
-- each MME (`Mme::well_kept`)
abbrev pub SlotIsPrintedFrom : Type 0
SlotIsPrintedFrom =
    (w : World) (line : ℕ) (texts : List (List ℕ)) (slot : ℕ) (x : SubscriberView) → Rising known_id w.strangers
    → length w.subscribers ≤ slots → slice_get w.subscribers slot ≡ Some x
    → lines_for (Subscriber slot) (play (Running w) line texts).text
    ≡ told_lines (Subscriber slot) (subscriber_told x (own_items slot w (events_in w texts)))

-- and one that isn't provisioned has none
abbrev pub NobodyIsPrintedFrom : Type 0
NobodyIsPrintedFrom =
    (w : World) (line : ℕ) (texts : List (List ℕ)) (slot : ℕ) → Rising known_id w.strangers → length w.subscribers ≤ slots
    → slice_get w.subscribers slot ≡ None → slot < slots
    → lines_for (Subscriber slot) (play (Running w) line texts).text ≡ []

-- ---- a station

-- a station has the lines that its own events lead to
abbrev pub StationIsPrinted : Type 0
StationIsPrinted =
    (octets : List ℕ) (run : Run) (e : ℕ) → run_of octets ≡ Some run → e < 128
    → lines_for (Station e) (played_of octets).text ≡ told_lines (Station e) (station_told run.mme.sight e run.events)

-- the same of lines that any MME is given
abbrev pub StationIsPrintedFrom : Type 0
StationIsPrintedFrom =
    (w : World) (line : ℕ) (texts : List (List ℕ)) (e : ℕ) → Rising known_id w.strangers → e < 128
    → lines_for (Station e) (play (Running w) line texts).text ≡ told_lines (Station e) (station_told w.sight e (events_in w texts))

-- ---- a stranger

-- a stranger, by its station and its number there, has the lines of its machine over what reaches it, from where it is closed
abbrev pub StrangerIsPrinted : Type 0
StrangerIsPrinted =
    (octets : List ℕ) (run : Run) (e enb_ue_id : ℕ) → run_of octets ≡ Some run → e < 128 → enb_ue_id < enb_ue_ids
    → lines_for (Stranger (stranger_id e enb_ue_id)) (played_of octets).text
    ≡ told_lines (Stranger (stranger_id e enb_ue_id)) (stranger_told run.mme.sight (stranger_id e enb_ue_id) None run.events)

-- the same of lines that any MME is given; that each stranger is at a station that is set up holds of each MME too
-- (`everybody_is_placed`)
abbrev pub StrangerIsPrintedFrom : Type 0
StrangerIsPrintedFrom =
    (w : World) (line : ℕ) (texts : List (List ℕ)) (e enb_ue_id : ℕ) → IsKept w → AreApart w → AllPlaced w → e < 128
    → enb_ue_id < enb_ue_ids
    → lines_for (Stranger (stranger_id e enb_ue_id)) (play (Running w) line texts).text
    ≡ told_lines (Stranger (stranger_id e enb_ue_id))
    (stranger_told w.sight (stranger_id e enb_ue_id) (stranger_at (stranger_id e enb_ue_id) w.strangers) (events_in w texts))

-- ---- two traces

-- two that are the same to a slot, where the same subscriber stands, print the same lines for it
abbrev pub SameSlotIsPrinted : Type 0
SameSlotIsPrinted =
    (octets others : List ℕ) (run other : Run) (slot : ℕ) (x : SubscriberView) → run_of octets ≡ Some run
    → run_of others ≡ Some other → slice_get run.mme.subscribers slot ≡ Some x → slice_get other.mme.subscribers slot ≡ Some x
    → busy (own_items slot run.mme run.events) ≡ busy (own_items slot other.mme other.events)
    → lines_for (Subscriber slot) (played_of octets).text ≡ lines_for (Subscriber slot) (played_of others).text

-- and for a stranger, where they are the same to it and the same subscribers are provisioned
abbrev pub SameStrangerIsPrinted : Type 0
SameStrangerIsPrinted =
    (octets others : List ℕ) (run other : Run) (e enb_ue_id : ℕ) → run_of octets ≡ Some run → run_of others ≡ Some other
    → e < 128 → enb_ue_id < enb_ue_ids → run.mme.sight.profiles ≡ other.mme.sight.profiles
    → busy_inputs (inputs_along run.mme.sight (stranger_id e enb_ue_id) run.events)
    ≡ busy_inputs (inputs_along other.mme.sight (stranger_id e enb_ue_id) other.events)
    → lines_for (Stranger (stranger_id e enb_ue_id)) (played_of octets).text
    ≡ lines_for (Stranger (stranger_id e enb_ue_id)) (played_of others).text

-- and for a station, where they have the same events of it, and the network and who is provisioned are the same
abbrev pub SameStationIsPrinted : Type 0
SameStationIsPrinted =
    (octets others : List ℕ) (run other : Run) (e : ℕ) → run_of octets ≡ Some run → run_of others ≡ Some other → e < 128
    → run.mme.sight.config.network ≡ other.mme.sight.config.network → run.mme.sight.profiles ≡ other.mme.sight.profiles
    → events_of e run.events ≡ events_of e other.events
    → lines_for (Station e) (played_of octets).text ≡ lines_for (Station e) (played_of others).text
