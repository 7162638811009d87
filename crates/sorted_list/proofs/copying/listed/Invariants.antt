use Rattle.std.proofs.Common.{◌≡◌, take}
use Rattle.sorted_list.specs.Chunks.{flat}
use Rattle.sorted_list.proofs.copying.listed.Given as goal

abbrev pub invariant-loop-chunk : goal.invariant-loop-chunk
invariant-loop-chunk g l = l.listed.items ≡ flat (take l.chunk-index l.chunks.items)
