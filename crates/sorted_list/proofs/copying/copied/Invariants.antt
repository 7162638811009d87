use Rattle.std.proofs.Common.{◌≡◌, take}
use Rattle.sorted_list.proofs.copying.copied.Given as goal

abbrev pub invariant-loop-chunk : goal.invariant-loop-chunk
invariant-loop-chunk g l = l.copied.items ≡ take l.chunk-index l.chunks.items
