use Rattle.std.proofs.Common.{◌≡◌, ◌+◌, ◌∷◌, [], drop, arith, sym, ◌∙◌, ap}
use Rattle.std.proofs.lemmas.List.{drop_all, drop_more}
use Rattle.mme_tables.specs.Ended.{met_ids}
use Rattle.mme_tables.proofs.Ending.{is_over}
use Rattle.mme_tables.proofs.Stepping.{first_ending, first_step}
use Rattle.mme_tables.proofs.ticking.tick_all.Goals as goal

pub end-requires : goal.end-requires
end-requires c =
    let xs = c.args.due.now in
    let n = c.loop-id.id-index in
    let cut : drop n xs ≡ c.id-item.result ∷ drop (n + 1) xs =
    drop_more xs n c.id-item.result c.loop-id-test.true ∙ ap (λ x. x ∷ drop (n + 1) xs) (sym c.id-item.is) in
    first_ending c.args.next c.id-item.result (drop (n + 1) xs) c.loop-id.sleepers c.loop-id.invariant.rows c.loop-id.invariant.around (c.loop-id.invariant.met ∙ cut)

pub loop-id-preserved : goal.loop-id-preserved
loop-id-preserved c =
    let xs = c.args.due.now in
    let n = c.loop-id.id-index in
    let inv = c.loop-id.invariant in
    let cut : drop n xs ≡ c.id-item.result ∷ drop (n + 1) xs =
    drop_more xs n c.id-item.result c.loop-id-test.true ∙ ap (λ x. x ∷ drop (n + 1) xs) (sym c.id-item.is) in
    let step = first_step c.args.next c.id-item.result (drop (n + 1) xs) c.loop-id.sleepers c.end.new.self inv.rows inv.around (inv.met ∙ cut) c.end.ensures in
    record { ended = step.ended ∙ inv.ended; rows = c.are_rows.ensures; around = step.around; met = step.met }

pub returns-clause-ended : goal.returns-clause-ended
returns-clause-ended c =
    let inv = c.loop-id.invariant in
    let none : met_ids c.args.next c.loop-id.sleepers ≡ [] =
    inv.met ∙ drop_all c.loop-id.id-index c.args.due.now (let t = c.loop-id-test.false in omega (arith, t)) in
    sym (is_over c.args.next c.loop-id.sleepers inv.around none).same ∙ inv.ended

pub returns-clause-sleeping : goal.returns-clause-sleeping
returns-clause-sleeping c =
    let inv = c.loop-id.invariant in
    let none : met_ids c.args.next c.loop-id.sleepers ≡ [] =
    inv.met ∙ drop_all c.loop-id.id-index c.args.due.now (let t = c.loop-id-test.false in omega (arith, t)) in
    (is_over c.args.next c.loop-id.sleepers inv.around none).sleeping
