use Rattle.std.proofs.Common.{◌≡◌, ◌≤◌, take, sym, subst, List}
use Rattle.std.specs.List.{list_any}
use Rattle.std.proofs.lemmas.List.{take_all}
use Rattle.identity_slots.specs.Ids.{slots}
use Rattle.association_table.specs.declared.association.Association.{Association}
use Rattle.mme_tables.specs.KeptPlaces.{is_held, Disconnects}
use Rattle.mme_tables.proofs.Closed.{disconnects_more, disconnects_none}
use Rattle.mme_tables.proofs.closing.disconnect_owners.Goals as goal

pub loop-association-init : goal.loop-association-init
loop-association-init c = disconnects_none c.args.by_slot.now.items

pub disconnect_owner-requires : goal.disconnect_owner-requires
disconnect_owner-requires c = subst (λ n. n ≤ slots) (sym c.loop-association.invariant.many) c.requires

pub loop-association-preserved : goal.loop-association-preserved
loop-association-preserved c =
    disconnects_more c.args.closed.now c.loop-association.association-index _ c.args.by_slot.now.items c.loop-association.by_slot.items
    c.disconnect_owner.new.by_slot.items c.loop-association-test.true c.loop-association.invariant c.disconnect_owner.ensures

pub returns : goal.returns
returns c =
    let all : take c.loop-association.association-index c.args.closed.now ≡ c.args.closed.now =
    take_all c.loop-association.association-index c.args.closed.now c.loop-association-test.false in
    subst (λ (ys : List Association). Disconnects (λ i. list_any (is_held i) ys) c.args.by_slot.now.items c.loop-association.by_slot.items) all
    c.loop-association.invariant
