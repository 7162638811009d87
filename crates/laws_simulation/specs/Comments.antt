-- In what a simulation prints, the lines that begin with `# ` and the name of an owner are those of its own machine over what the
-- printed trace has for it.
use Rattle.std.specs.Prelude.{◌≡◌, ◌<◌, ℕ, List, [], ◌++◌, codes, filter, map, Some, None, Result, Ok, Err, slice_get}
use Rattle.identity_slots.specs.Ids.{enb_ue_ids, slots, stranger_id}
use Rattle.emm_machine.specs.SubscriberView.{SubscriberView}
use Rattle.mme_answering.specs.declared.out.Owner.{Owner}
use Rattle.mme_answering.specs.declared.out.Owner.TheVariants.{Station, Stranger, Subscriber}
use Rattle.mme_core.specs.Projection.{Told, station_told, stranger_told, subscriber_told}
use Rattle.laws_mme.specs.OwnersAlone.{own_items}
use Rattle.trace_answers.specs.Words.{owner_text}
use Rattle.trace_progress.specs.declared.fault.PlayFault.{PlayFault}
use Rattle.trace_progress.specs.declared.fault.PlayFault.TheVariants.{Trace, Read, Write, NoMemory}
use Rattle.trace_progress.specs.Text.{lines_of, played_of}
use Rattle.sim_run.specs.sim_printing.Printed.{answers_in}
use Rattle.sim_run.specs.Simulated.{SimTells}
use Rattle.laws_simulation.specs.Printed.{begins_with, lines_for, told_lines}
use Rattle.laws_simulation.specs.TraceRuns.{Run, run_of}

-- ---- the lines of an owner

-- a line after `# `
abbrev pub commented : List ℕ → List ℕ
commented line = codes "# " ++ line

-- `# out s3 ` for the subscriber of slot 3
abbrev pub comments_for : Owner → List ℕ → List (List ℕ)
comments_for owner text = filter (begins_with (commented (owner_text owner))) (lines_of text)

-- those of what an owner is told at each event
abbrev pub told_comments : Owner → List (List Told) → List (List ℕ)
told_comments owner ms = map commented (told_lines owner ms)

-- ---- what a simulation wrote

-- it came to the end of its script, or to a line that has a fault
abbrev pub IsToEnd : Result (Unit {0}) PlayFault → Type 0
IsToEnd (Ok _) = Unit {0}
IsToEnd (Err (Trace line fault)) = Unit {0}
IsToEnd (Err Read) = ⊥
IsToEnd (Err Write) = ⊥
IsToEnd (Err NoMemory) = ⊥

-- what `run_sim` has written then, of some script
abbrev pub IsSimulated : List ℕ → Type 0
IsSimulated written =
    (read : List ℕ) × (result : Result (Unit {0}) PlayFault) × SimTells read written result × IsToEnd result

-- its comments for an owner are the lines that the MME prints for it over the printed trace
abbrev pub CommentsArePlayed : Type 0
CommentsArePlayed =
    (written : List ℕ) (owner : Owner) → IsSimulated written
    → comments_for owner written ≡ map commented (lines_for owner (played_of written).text)

-- where no line of it comes to an MME, nothing is answered
abbrev pub NothingIsSimulated : Type 0
NothingIsSimulated = (written : List ℕ) → IsSimulated written → run_of written ≡ None → answers_in (lines_of written) ≡ []

-- ---- a slot, a station, a stranger

-- who is provisioned has the comments of its machine over its projection of the printed trace
abbrev pub SlotIsSimulated : Type 0
SlotIsSimulated =
    (written : List ℕ) (run : Run) (slot : ℕ) (x : SubscriberView) → IsSimulated written → run_of written ≡ Some run
    → slice_get run.mme.subscribers slot ≡ Some x
    → comments_for (Subscriber slot) written
    ≡ told_comments (Subscriber slot) (subscriber_told x (own_items slot run.mme run.events))

-- a slot that isn't provisioned has none
abbrev pub NobodyIsSimulated : Type 0
NobodyIsSimulated =
    (written : List ℕ) (run : Run) (slot : ℕ) → IsSimulated written → run_of written ≡ Some run
    → slice_get run.mme.subscribers slot ≡ None → slot < slots
    → comments_for (Subscriber slot) written ≡ []

-- a station has those that its own events lead to
abbrev pub StationIsSimulated : Type 0
StationIsSimulated =
    (written : List ℕ) (run : Run) (e : ℕ) → IsSimulated written → run_of written ≡ Some run → e < 128
    → comments_for (Station e) written ≡ told_comments (Station e) (station_told run.mme.sight e run.events)

-- a stranger, by its station and its number there, has those of its machine over what reaches it
abbrev pub StrangerIsSimulated : Type 0
StrangerIsSimulated =
    (written : List ℕ) (run : Run) (e enb_ue_id : ℕ) → IsSimulated written → run_of written ≡ Some run → e < 128
    → enb_ue_id < enb_ue_ids
    → comments_for (Stranger (stranger_id e enb_ue_id)) written
    ≡ told_comments (Stranger (stranger_id e enb_ue_id)) (stranger_told run.mme.sight (stranger_id e enb_ue_id) None run.events)
