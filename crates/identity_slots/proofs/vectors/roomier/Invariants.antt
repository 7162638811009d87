use Rattle.std.proofs.Common.{◌≡◌, ◌+◌, ◌*◌, ◌≤◌, length, take}
use Rattle.std.specs.Prelude.{vec_len}
use Rattle.std.specs.Vec.{vec_capacity}
use Rattle.identity_slots.proofs.vectors.roomier.Given as goal

abbrev pub invariant-loop-vector : goal.invariant-loop-vector
invariant-loop-vector l = record {
  items : l.room.items ≡ take l.vector-index l.vectors;
  len : vec_len l.room ≡ l.vector-index;
  room : 2 * length l.vectors + 2 ≤ vec_capacity l.room;
}
