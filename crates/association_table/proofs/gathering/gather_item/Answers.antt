use Rattle.std.proofs.Common.{sym, subst}
use Rattle.std.specs.Prelude.{OnOk, Some, None}
use Rattle.std.proofs.lemmas.Result.{on_ok_weaker}
use Rattle.association_table.specs.Gathering.{GathersNext}
use Rattle.association_table.proofs.Matched.{gathers_empty, gathers_next}
use Rattle.association_table.proofs.gathering.gather_item.Goals as goal

pub returns-in-Some : goal.returns-in-Some
returns-in-Some c =
    subst (λ o. OnOk c.gather_id.result (GathersNext c.args.station c.args.before.now (record { id = o; enb_ue_id = c.args.item.enb_ue_id }) c.args.associations.now.entries c.args.gathered.now.items c.gather_id.new.gathered.items))
    (sym c.in-Some.is)
    (on_ok_weaker c.gather_id.result (gathers_next c.args.station c.args.before.now (record { id = Some c.in-Some.id; enb_ue_id = c.args.item.enb_ue_id }) c.args.associations.now.entries c.args.gathered.now.items c.gather_id.new.gathered.items) c.gather_id.ensures)

pub returns-in-Some-enb_ue_id : goal.returns-in-Some-enb_ue_id
returns-in-Some-enb_ue_id c =
    subst (λ o. OnOk c.gather_unnamed.result (GathersNext c.args.station c.args.before.now (record { id = o; enb_ue_id = c.args.item.enb_ue_id }) c.args.associations.now.entries c.args.gathered.now.items c.gather_unnamed.new.gathered.items)) (sym c.in_default.is)
    (subst (λ o. OnOk c.gather_unnamed.result (GathersNext c.args.station c.args.before.now (record { id = None; enb_ue_id = o }) c.args.associations.now.entries c.args.gathered.now.items c.gather_unnamed.new.gathered.items)) (sym c.in-Some-enb_ue_id.is) c.gather_unnamed.ensures)

pub returns-in-None : goal.returns-in-None
returns-in-None c =
    subst (λ o. GathersNext c.args.station c.args.before.now (record { id = o; enb_ue_id = c.args.item.enb_ue_id }) c.args.associations.now.entries c.args.gathered.now.items c.args.gathered.now.items) (sym c.in_default.is)
    (subst (λ o. GathersNext c.args.station c.args.before.now (record { id = None; enb_ue_id = o }) c.args.associations.now.entries c.args.gathered.now.items c.args.gathered.now.items) (sym c.in-None.is)
    (gathers_next c.args.station c.args.before.now (record { id = None; enb_ue_id = None }) c.args.associations.now.entries c.args.gathered.now.items c.args.gathered.now.items
    (gathers_empty c.args.station c.args.associations.now.entries c.args.gathered.now.items)))
