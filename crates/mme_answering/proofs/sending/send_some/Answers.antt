use Rattle.std.proofs.Common.{ℕ, ◌≡◌, ◌+◌, ◌∷◌, [], drop, sym, subst, ◌∙◌, ap}
use Rattle.std.specs.Option.{option_map_or}
use Rattle.std.proofs.lemmas.List.{drop_more}
use Rattle.std.proofs.lemmas.Result.{err_from_is_err_and}
use Rattle.sorted_list.specs.Ordered.{at}
use Rattle.stranger_machine.specs.declared.turn.Notice.TheVariants.{Tick}
use Rattle.stranger_machine.specs.Table.{known_id}
use Rattle.mme_tables.specs.StrangerLaws.{some_known_give}
use Rattle.mme_answering.specs.Settled.{known_sent}
use Rattle.mme_answering.proofs.Sent.{SentBut, some_sent}
use Rattle.mme_answering.proofs.sending.send_some.Goals as goal

pub returns-in_err-send_one-clause-err : goal.returns-in_err-send_one-clause-err
returns-in_err-send_one-clause-err c =
    let ids = c.args.ids.now in
    let ks = c.args.strangers.now.strangers in
    let l = c.loop-id in
    let id = c.id-item.result in
    let all = some_known_give (known_sent Tick) ids ks in
    let left = some_known_give (known_sent Tick) (drop (l.id-index + 1) ids) ks in
    let rest : drop l.id-index ids ≡ id ∷ drop (l.id-index + 1) ids =
    drop_more ids l.id-index id c.loop-id-test.true ∙ ap (λ (x : ℕ). x ∷ drop (l.id-index + 1) ids) (sym c.id-item.is) in
    let before = subst (λ xs. SentBut (some_known_give (known_sent Tick) xs ks) all c.args.outs.now l.outs) rest l.invariant.some in
    let p = err_from_is_err_and c.from_residual.result c.from_residual.ensures.1 in
    rw p.1
    (some_sent (option_map_or (known_sent Tick) (at known_id id ks) []) left all c.args.outs.now l.outs c.send_one.new.outs before
    c.in_err-send_one.ensures.err)
