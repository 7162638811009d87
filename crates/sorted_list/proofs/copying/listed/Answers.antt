use Rattle.std.proofs.Common.{◌<◌, ◌++◌, length, get_or, take, arith, sym, ◌∙◌, ap, add-one}
use Rattle.sorted_list.specs.Chunks.{flat}
use Rattle.sorted_list.proofs.Flat.{flat_next}
use Rattle.sorted_list.proofs.copying.listed.Goals as goal

pub loop-chunk-preserved : goal.loop-chunk-preserved
loop-chunk-preserved g c =
    let here = c.chunk-item.is ∙ ap (λ cs. get_or cs c.loop-chunk.chunk-index c.chunk-item.result)
    c.deref-chunk-items.ensures.value in
    let lt : c.loop-chunk.chunk-index < length c.args.chunks.now.items = omega (arith, ap length c.deref-chunk-items.ensures.value)
    in
    let next = flat_next c.loop-chunk.chunk-index c.chunk-item.result c.args.chunks.now.items lt here in
    c.in_ok-list_into.ensures ∙ ap (λ xs. xs ++ c.chunk-item.result) c.loop-chunk.invariant ∙ sym next
    ∙ ap (λ i. flat (take i c.args.chunks.now.items)) (sym (add-one c.loop-chunk.chunk-index))
