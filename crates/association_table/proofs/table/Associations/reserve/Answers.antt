use Rattle.std.proofs.Common.{refl, ◌∙◌}
use Rattle.association_table.proofs.Entries.{kept_room}
use Rattle.association_table.proofs.table.Associations.reserve.Goals as goal

pub invariant_of-self : goal.invariant_of-self
invariant_of-self c = (kept_room c.self.inside.slab c.reserve.new.self c.self.inside.by_id.items _ c.self.inside.by_station.items _ c.self.inside.by_number.items _ c.self.invariant.0 c.reserve.ensures.rest_kept refl refl refl, c.self.invariant.1, c.self.invariant.2, c.self.invariant.3)

pub invariant_of-self-in_err-reserve-2 : goal.invariant_of-self-in_err-reserve-2
invariant_of-self-in_err-reserve-2 c = (kept_room c.self.inside.slab c.reserve.new.self c.self.inside.by_id.items c.reserve-2.new.self.items c.self.inside.by_station.items _ c.self.inside.by_number.items _ c.self.invariant.0 c.reserve.ensures.rest_kept c.reserve-2.ensures.items refl refl, c.reserve-2.ensures.steady ∙ c.self.invariant.1, c.self.invariant.2, c.self.invariant.3)

pub invariant_of-self-in_err-reserve-3 : goal.invariant_of-self-in_err-reserve-3
invariant_of-self-in_err-reserve-3 c = (kept_room c.self.inside.slab c.reserve.new.self c.self.inside.by_id.items c.reserve-2.new.self.items c.self.inside.by_station.items c.reserve-3.new.self.items c.self.inside.by_number.items _ c.self.invariant.0 c.reserve.ensures.rest_kept c.reserve-2.ensures.items c.reserve-3.ensures.items refl, c.reserve-2.ensures.steady ∙ c.self.invariant.1, c.reserve-3.ensures.steady ∙ c.self.invariant.2, c.self.invariant.3)

pub invariant_of-self-in_err-reserve-4 : goal.invariant_of-self-in_err-reserve-4
invariant_of-self-in_err-reserve-4 c = (kept_room c.self.inside.slab c.reserve.new.self c.self.inside.by_id.items c.reserve-2.new.self.items c.self.inside.by_station.items c.reserve-3.new.self.items c.self.inside.by_number.items c.reserve-4.new.self.items c.self.invariant.0 c.reserve.ensures.rest_kept c.reserve-2.ensures.items c.reserve-3.ensures.items c.reserve-4.ensures.items, c.reserve-2.ensures.steady ∙ c.self.invariant.1, c.reserve-3.ensures.steady ∙ c.self.invariant.2, c.reserve-4.ensures.steady ∙ c.self.invariant.3)

pub invariant_of-self-2 : goal.invariant_of-self-2
invariant_of-self-2 c = (kept_room c.self.inside.slab c.reserve.new.self c.self.inside.by_id.items c.reserve-2.new.self.items c.self.inside.by_station.items c.reserve-3.new.self.items c.self.inside.by_number.items c.reserve-4.new.self.items c.self.invariant.0 c.reserve.ensures.rest_kept c.reserve-2.ensures.items c.reserve-3.ensures.items c.reserve-4.ensures.items, c.reserve-2.ensures.steady ∙ c.self.invariant.1, c.reserve-3.ensures.steady ∙ c.self.invariant.2, c.reserve-4.ensures.steady ∙ c.self.invariant.3)
