use Rattle.std.proofs.Common.{◌≡◌, ◌≤◌, ℕ, drop}
use Rattle.mme_tables.specs.Whereabouts.{waits_at}
use Rattle.mme_owners.specs.Placed.{still_there}
use Rattle.mme_owners.proofs.placing.leave.Given as goal

-- who is left, and where they lead to
abbrev pub invariant-loop-id : goal.invariant-loop-id
invariant-loop-id l =
    let ks = l.records.strangers in
    record {
      whereabouts : l.connections.whereabouts ≡ l.fn.connections.whereabouts;
      strangers : (id : ℕ) → still_there (drop l.id-index l.ids) ks id (waits_at id l.connections.associations)
          ≡ still_there l.ids ks id (waits_at id l.fn.connections.associations);
      room : l.fn.connections.room ≤ l.connections.room;
    }
