use Rattle.std.proofs.Common.{sym, ◌∙◌}
use Rattle.std.proofs.lemmas.Result.{on_ok_weaker}
use Rattle.std.specs.Prelude.{Some, None}
use Rattle.association_table.proofs.Matched.{named_before, gathers_next}
use Rattle.association_table.proofs.gathering.gather_unnamed.Goals as goal

pub returns-then-is_given_alone : goal.returns-then-is_given_alone
returns-then-is_given_alone c =
    named_before c.args.station c.args.enb_ue_id c.args.before.now c.args.associations.now.entries c.args.gathered.now.items
    (sym c.is_given_alone.ensures ∙ c.if-is_given_alone.true)

pub returns : goal.returns
returns c =
    on_ok_weaker c.gather_number.result
    (gathers_next c.args.station c.args.before.now (record { id = None; enb_ue_id = Some c.args.enb_ue_id }) c.args.associations.now.entries c.args.gathered.now.items c.gather_number.new.gathered.items)
    c.gather_number.ensures
