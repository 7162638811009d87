-- Whom a notice of a station touches, and which associations it ends.
use Rattle.std.specs.Prelude.{◌≡◌, ℕ, Bool, false, List, [], Option, Some}
use Rattle.mme_types.specs.Events.{ConnectionsGone, StationGone}
use Rattle.mme_types.specs.declared.connection.Connection.{Connection}
use Rattle.stranger_machine.specs.declared.turn.Notice.{Notice}
use Rattle.stranger_machine.specs.declared.turn.Notice.TheVariants.{Tick, Gone, Listed}
use Rattle.mme_tables.specs.Whereabouts.{is_meant_at, is_there}
use Rattle.emm_machine.specs.SubscriberView.{SubscriberView}
use Rattle.mme_owners.specs.SteppedView.{SteppedView}
use Rattle.mme_owners.specs.Touched.{touched_slots, Has}

-- it ends the association that is there: each at a station that is lost, and those that a RESET means
abbrev pub ended_by : Notice → Option Connection → Bool
ended_by Tick = λ o. false
ended_by (Gone e) = is_there e
ended_by (Listed e items) = is_meant_at e items

-- the slots of those whom it touches
abbrev pub slots_noticed : Notice → List SubscriberView → List ℕ
slots_noticed Tick ws = []
slots_noticed (Gone e) ws = touched_slots (StationGone e) ws
slots_noticed (Listed e items) ws = touched_slots (ConnectionsGone e items) ws

-- the connection that was prepared is the one that the slot has, and the notice doesn't end it; or there is none
abbrev pub OutlivesNotice : Notice → List SubscriberView → SteppedView → Type 0
OutlivesNotice notice ws x =
    (k : Connection) → x.solo.connection ≡ Some k → Has ws x.slot k × (ended_by notice (Some k) ≡ false)
