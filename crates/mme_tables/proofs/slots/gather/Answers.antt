use Rattle.std.proofs.Common.{sym, ◌∙◌, ap}
use Rattle.std.specs.Prelude.{Option, is_some}
use Rattle.std.proofs.lemmas.Result.{on_ok_weaker}
use Rattle.sorted_list.specs.Ordered.{at}
use Rattle.mme_tables.specs.declared.slots.OrderedSlot.{OrderedSlot}
use Rattle.mme_tables.specs.KeptPlaces.{slot_rank}
use Rattle.mme_tables.proofs.Gathered.{gathered_again, gathered_put, none_is}
use Rattle.mme_tables.proofs.slots.gather.Goals as goal

pub returns-then-is_some : goal.returns-then-is_some
returns-then-is_some c =
    let key = c.from.ensures ∙ c.get.ensures.value in
    gathered_again c.args.slot c.args.gathered.now.items
    (ap (λ k. is_some (at slot_rank k c.args.gathered.now.items)) (sym key) ∙ ap (λ (o : Option OrderedSlot). is_some o) (sym c.find.ensures.value) ∙ sym c.is_some.ensures ∙ c.if-is_some.true)

pub returns : goal.returns
returns c =
    let key = c.from.ensures ∙ c.get.ensures.value in
    let none = none_is (at slot_rank c.args.slot c.args.gathered.now.items)
    (ap (λ k. is_some (at slot_rank k c.args.gathered.now.items)) (sym key) ∙ ap (λ (o : Option OrderedSlot). is_some o) (sym c.find.ensures.value) ∙ sym c.is_some.ensures ∙ c.if-is_some.false) in
    on_ok_weaker c.insert.result
    (gathered_put c.args.slot c.args.gathered.now.items c.insert.new.self.items none) c.insert.ensures.items
