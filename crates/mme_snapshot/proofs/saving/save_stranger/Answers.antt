use Rattle.std.proofs.Common.{◌≡◌, ◌∙◌, List, Some, ap, sym, rules}
use Rattle.std.proofs.lemmas.Result.{IfOk-weaker}
use Rattle.stranger_machine.specs.declared.table.Known.{Known}
use Rattle.stranger_machine.specs.Lent.{lent_now}
use Rattle.stranger_machine.specs.Table.{stranger_at}
use Rattle.snapshot_formats.specs.Heads.{typed_saved_stranger}
use Rattle.mme_snapshot.proofs.saving.save_stranger.Goals as goal

pub returns-in-Some-stored_stranger : goal.returns-in-Some-stored_stranger
returns-in-Some-stored_stranger c =
    let all : c.owners-inside.inside.0.0.strangers.strangers ≡ c.args.mme.now.strangers =
    search rules in
    let found : stranger_at c.args.id c.args.mme.now.strangers ≡ Some (lent_now c.in-Some.lent) =
    sym (c.in-Some.ensures ∙ ap (λ (ks : List Known). stranger_at c.args.id ks) all) in
    let told = c.in-Some-stored_stranger.ensures in
    IfOk-weaker c.spelled.result _ _ (λ v h. (
      lent_now c.in-Some.lent,
      found,
      record {
        stored = typed_saved_stranger c.in-Some-stored_stranger.stored;
        is = told.is;
        nobodys = told.nobodys;
        timed = told.timed;
        spelled = h;
      },
    )) c.spelled.ensures
