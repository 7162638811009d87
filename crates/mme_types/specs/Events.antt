-- What of an event is for one subscriber, without where its octets lie in memory.
use Rattle.std.specs.Prelude.{ℕ, List}
use Rattle.std.specs.Borrow.{Bor}
use Rattle.mme_types.specs.declared.event.Entry.{Entry}
use Rattle.mme_types.specs.declared.event.SoloEvent.{SoloEvent}
use Rattle.mme_types.specs.declared.event.SoloEvent.TheVariants as events
use Rattle.mme_types.specs.declared.event.UeBody.{UeBody}
use Rattle.mme_types.specs.declared.event.UeBody.TheVariants as bodies
use Rattle.mme_types.specs.declared.event.UeMessage.{UeMessage}
use Rattle.mme_types.specs.declared.stations.StationState.{StationState}
use Rattle.mme_types.specs.Listed.{ToReset}

-- what of an event is for one subscriber: none but Data carries the stations
pub data Item : Type 0 where
  Nothing : Item
  Initial : Entry (List ℕ) → Item
  Claim : ℕ → Entry (List ℕ) → Item
  Message : UeMessage (List ℕ) → Item
  Displaced : ℕ → Item
  StationGone : ℕ → Item
  ConnectionsGone : ℕ → ToReset → Item
  Tick : Item
  Data : List StationState → Item
  Cancel : Item

-- ---- an event without where its octets lie in memory

abbrev pub entry_lists : Entry (Bor (List ℕ)) → Entry (List ℕ)
entry_lists m = record { station = m.station; enb_ue_id = m.enb_ue_id; nas = m.nas.now; tai = m.tai }

abbrev pub ue_body_lists : UeBody (Bor (List ℕ)) → UeBody (List ℕ)
ue_body_lists (bodies.Uplink nas tai) = bodies.Uplink nas.now tai
ue_body_lists (bodies.UeContextReleaseRequest cause) = bodies.UeContextReleaseRequest cause
ue_body_lists bodies.UeContextReleaseComplete = bodies.UeContextReleaseComplete
ue_body_lists bodies.InitialContextSetupFailure = bodies.InitialContextSetupFailure
ue_body_lists bodies.PathSwitch = bodies.PathSwitch
ue_body_lists bodies.Notice = bodies.Notice

abbrev pub message_lists : UeMessage (Bor (List ℕ)) → UeMessage (List ℕ)
message_lists m = record { station = m.station; mme_ue_id = m.mme_ue_id; enb_ue_id = m.enb_ue_id; body = ue_body_lists m.body }

abbrev pub item_of : SoloEvent → List StationState → Item
item_of events.Nothing stations = Nothing
item_of (events.Initial m) stations = Initial (entry_lists m)
item_of (events.Claim id m) stations = Claim id (entry_lists m)
item_of (events.Message m) stations = Message (message_lists m)
item_of (events.Displaced id) stations = Displaced id
item_of (events.StationGone station) stations = StationGone station
item_of (events.ConnectionsGone station items) stations = ConnectionsGone station items.now
item_of events.Tick stations = Tick
item_of events.Data stations = Data stations
item_of events.Cancel stations = Cancel
