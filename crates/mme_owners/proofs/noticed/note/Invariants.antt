use Rattle.std.proofs.Common.{◌≡◌, ◌≤◌, ◌-◌, ◌^◌}
use Rattle.identity_slots.specs.Ids.{station_in}
use Rattle.stranger_machine.specs.Machine.{noted_station}
use Rattle.stranger_machine.specs.Table.{noted}
use Rattle.mme_owners.proofs.Noting.{noted_from}
use Rattle.mme_owners.proofs.noticed.note.Given as goal

-- those of the station whose ids are below the number have taken the notice
abbrev pub invariant-loop-id : goal.invariant-loop-id
invariant-loop-id l = record {
  clock : l.records.clock ≡ l.fn.records.clock;
  left : noted_from l.least l.notice l.records.strangers ≡ noted l.notice l.fn.records.strangers;
  from : noted_station l.notice ≤ station_in l.least;
  subscribers : l.records.subscribers ≡ l.fn.records.subscribers;
  room : l.fn.records.room ≤ l.records.room;
}

abbrev pub decreases-loop-id : goal.decreases-loop-id
decreases-loop-id l = 2 ^ 32 - l.least
