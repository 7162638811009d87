use Rattle.std.proofs.Common.{sym, ◌∙◌, ap, subst}
use Rattle.std.specs.Prelude.{◌==◌, Bool, if◌then◌else◌}
use Rattle.mme_tables.specs.KeptPlaces.{Holds, slot_rank}
use Rattle.sorted_list.specs.Ordered.{without}
use Rattle.mme_tables.proofs.Gathered.{none_is, slot_gone, slot_listed}
use Rattle.mme_tables.proofs.slots.list_slot.Goals as goal

pub returns-then-not-is-clause-items : goal.returns-then-not-is-clause-items
returns-then-not-is-clause-items c = λ before h.
    let old = c.args.slots.now.items in
    let key = c.from.ensures ∙ c.get.ensures.value in
    subst (λ (b : Bool). Holds (λ i. if c.args.slot == i then b else before i) c.take.new.self.items) (sym c.if-not-is.true)
    (slot_gone before c.args.slot old c.take.new.self.items (c.take.ensures.items ∙ ap (λ k. without slot_rank k old) key) h)

pub returns-then-is-clause-items : goal.returns-then-is-clause-items
returns-then-is-clause-items c = λ before h.
    let old = c.args.slots.now.items in
    subst (λ (b : Bool). Holds (λ i. if c.args.slot == i then b else before i) c.insert_reserved.new.self.items) (sym c.if-is.true)
    (slot_listed before c.args.slot old c.insert_reserved.new.self.items (none_is _ (c.requires.known ∙ c.if-was.false)) c.insert_reserved.ensures.items h)
