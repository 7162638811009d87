use Rattle.std.proofs.Common.{◌≡◌, ◌<◌, ◌≤◌, ◌+◌, ℕ, drop, length}
use Rattle.mme_tables.specs.Whereabouts.{waits_at, AreApart}
use Rattle.sorted_list.specs.Ordered.{Every}
use Rattle.mme_owners.specs.SteppedView.{SteppedView}
use Rattle.mme_owners.specs.Touched.{with_whereabouts, KeepsConnection}
use Rattle.mme_owners.proofs.Touching.{AreKept}
use Rattle.mme_owners.proofs.placing.place_all.Given as goal

-- who is left, and what they lead to
abbrev pub invariant-loop-one : goal.invariant-loop-one
invariant-loop-one l =
    let rest = drop l.one-index l.stepped in
    record {
      below : Every (λ (x : SteppedView). x.slot < length l.connections.whereabouts) rest;
      places : Every (KeepsConnection l.fn.connections.whereabouts) rest;
      apart : AreApart l.fn.connections.whereabouts l.fn.connections.associations;
      strangers : (id : ℕ) → waits_at id l.connections.associations ≡ waits_at id l.fn.connections.associations;
      kept : AreKept l.fn.connections.whereabouts l.connections.whereabouts;
      all : with_whereabouts rest l.connections.whereabouts ≡ with_whereabouts l.stepped l.fn.connections.whereabouts;
      room : length rest ≤ l.connections.room;
      spent : l.fn.connections.room + length rest ≤ l.connections.room + length l.stepped;
    }
