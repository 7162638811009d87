use Rattle.std.proofs.Common.{◌≡◌, List, length, Option, Some, None, IsSome, refl}
use Rattle.per_streams.specs.OctetLaws.{exact_aligned_octets}
use Rattle.snapshot_formats.proofs.key.LentKeyElement.read.Goals as goal

never : {A : Type 0} (o : Option A) → o ≡ None → IsSome o → ⊥
never None is some = absurd (cc some)
never (Some x) is some = absurd (cc is)

pub unreachable-requires : goal.unreachable-requires
unreachable-requires c =
    let taken = (exact_aligned_octets 32).takes c.args.reader.now c.take_octets.new.self c.in_ok-octets.octets.now c.in_ok-octets.ensures in
    never c.as_array.result c.in-None.is (c.as_array.ensures.variant.1 taken.spelled.5.0)
