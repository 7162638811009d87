use Rattle.std.proofs.Common.{sym, ◌∙◌}
use Rattle.std.specs.Prelude.{Some}
use Rattle.association_table.specs.declared.association.Listed.{Listed}
use Rattle.association_table.specs.Gathering.{is_matched}
use Rattle.association_table.proofs.Matched.{gathers_none, gathers_one, none_matched, others_matched, one_matched, own_matched, known_is}
use Rattle.association_table.proofs.gathering.gather_id.Goals as goal

pub returns-in_default : goal.returns-in_default
returns-in_default c =
    let item : Listed = record { id = Some c.args.id; enb_ue_id = c.args.enb_ue_id } in
    gathers_none (is_matched c.args.station item) c.args.associations.now.entries c.args.gathered.now.items
    (none_matched c.args.station c.args.id c.args.enb_ue_id c.args.associations.now.entries (sym c.find.ensures.value ∙ c.in_default.is))

pub returns-in_ok-gather : goal.returns-in_ok-gather
returns-in_ok-gather c =
    let a = c.in-Some.association in
    let es = c.args.associations.now.entries in
    let item : Listed = record { id = Some c.args.id; enb_ue_id = c.args.enb_ue_id } in
    let there = sym c.find.ensures.value ∙ c.in-Some.is in
    let so_is = own_matched c.args.station c.args.id c.args.enb_ue_id a es there ∙ sym c.belongs.ensures ∙ c.if-belongs.true in
    λ before p. c.in_ok-gather.ensures
    ∙ gathers_one (is_matched c.args.station item) a es c.args.gathered.now.items c.find.ensures.order
    (known_is c.args.id a es there)
    (one_matched c.args.station c.args.id c.args.enb_ue_id a es c.find.ensures.order there so_is) before p

pub returns-else-belongs : goal.returns-else-belongs
returns-else-belongs c =
    let a = c.in-Some.association in
    let es = c.args.associations.now.entries in
    let item : Listed = record { id = Some c.args.id; enb_ue_id = c.args.enb_ue_id } in
    let there = sym c.find.ensures.value ∙ c.in-Some.is in
    let isnt = own_matched c.args.station c.args.id c.args.enb_ue_id a es there ∙ sym c.belongs.ensures ∙ c.if-belongs.false in
    gathers_none (is_matched c.args.station item) es c.args.gathered.now.items
    (others_matched c.args.station c.args.id c.args.enb_ue_id a es c.find.ensures.order there isnt)
