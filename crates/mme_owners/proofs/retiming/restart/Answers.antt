use Rattle.std.proofs.Common.{◌≡◌, ◌+◌, ◌∷◌, None, drop, length, sym, ◌∙◌, ap, subst, arith}
use Rattle.std.proofs.lemmas.List.{drop_more}
use Rattle.mme_tables.specs.Running.{IsInRange}
use Rattle.mme_tables.specs.WaitLaws.{is_wait_at}
use Rattle.mme_tables.specs.Waiting.{restarted, wait_changed}
use Rattle.mme_owners.proofs.Owned.{in_range}
use Rattle.mme_owners.proofs.retiming.restart.Goals as goal

pub change_wait-requires-clause-range : goal.change_wait-requires-clause-range
change_wait-requires-clause-range c =
    let id = c.id-item.result in
    let ks = c.args.strangers.now.strangers in
    subst IsInRange (sym c.left-left.ensures) (in_range id _ (is_wait_at id ks c.requires.waits))

pub change_wait-requires-clause-room : goal.change_wait-requires-clause-room
change_wait-requires-clause-room c =
    let xs = c.args.due.now in
    let n = c.loop-id.id-index in
    let cut : drop n xs ≡ c.id-item.result ∷ drop (n + 1) xs =
    drop_more xs n c.id-item.result c.loop-id-test.true ∙ ap (λ x. x ∷ drop (n + 1) xs) (sym c.id-item.is) in
    let left : length (drop n xs) ≡ length (drop (n + 1) xs) + 1 = ap length cut ∙ omega arith in
    let room = c.loop-id.invariant.room in
    omega (arith, left, room)

pub loop-id-preserved : goal.loop-id-preserved
loop-id-preserved c =
    let xs = c.args.due.now in
    let n = c.loop-id.id-index in
    let id = c.id-item.result in
    let rest = drop (n + 1) xs in
    let ks = c.args.strangers.now.strangers in
    let inv = c.loop-id.invariant in
    let before = c.loop-id.timers.running in
    let cut : drop n xs ≡ id ∷ rest = drop_more xs n id c.loop-id-test.true ∙ ap (λ x. x ∷ rest) (sym c.id-item.is) in
    let left : length (drop n xs) ≡ length rest + 1 = ap length cut ∙ omega arith in
    let room = c.change_wait.ensures.room in
    let has = inv.room in
    let spent = inv.spent in
    record {
      room = omega (arith, left, room, has);
      spent = omega (arith, left, room, spent);
      clock = c.change_wait.ensures.clock ∙ inv.clock;
      running =
          ap (restarted rest ks) (c.change_wait.ensures.running ∙ ap (λ o. wait_changed id None o before) c.left-left.ensures)
          ∙ ap (λ ys. restarted ys ks before) (sym cut) ∙ inv.running;
    }
