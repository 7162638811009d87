use Rattle.std.proofs.Common.{◌-◌, ◌≤◌, vec_len}
use Rattle.std.specs.Vec.{vec_capacity}
use Rattle.sorted_list.specs.Ordered.{Every}
use Rattle.sorted_list.specs.Chunks.{IsEmpty}
use Rattle.sorted_list.proofs.adding.make_spares.Given as goal

abbrev pub invariant-loop-alloc : goal.invariant-loop-alloc
invariant-loop-alloc g l = Every IsEmpty l.spares.items × (vec_len l.initial.spares ≤ vec_len l.spares) ×
    (vec_capacity l.initial.spares ≤ vec_capacity l.spares)

abbrev pub decreases-loop-alloc : goal.decreases-loop-alloc
decreases-loop-alloc g l = l.enough - vec_len l.spares
