use Rattle.std.proofs.Common.{◌≡◌, drop, map}
use Rattle.per_bits.specs.Writing.{write_at, write_each}
use Rattle.snapshot_formats.specs.Formats.{saved_vector}
use Rattle.mme_snapshot.specs.Stored.{stored_vector}
use Rattle.mme_snapshot.proofs.stored.write_each_vector.Given as goal

abbrev pub invariant-loop-place : goal.invariant-loop-place
invariant-loop-place l =
    write_each (write_at saved_vector) (map stored_vector (drop l.place l.subscriber.setting.vectors)) l.writer
    ≡ write_each (write_at saved_vector) (map stored_vector (drop l.stored.spent l.subscriber.setting.vectors)) l.fn.writer
