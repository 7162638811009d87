use Rattle.std.proofs.Common.{◌≡◌, take, subst, List}
use Rattle.std.specs.List.{list_any}
use Rattle.std.proofs.lemmas.List.{take_all}
use Rattle.association_table.specs.declared.association.Association.{Association}
use Rattle.mme_tables.specs.KeptPlaces.{is_held, Gathers}
use Rattle.mme_tables.proofs.Gathered.{gathered_more}
use Rattle.mme_tables.proofs.slots.gather_owners.Goals as goal

pub loop-place-preserved : goal.loop-place-preserved
loop-place-preserved c =
    gathered_more c.args.associations.now c.loop-place.place _ c.args.gathered.now.items c.loop-place.gathered.items
    c.gather_owner.new.gathered.items c.loop-place-test.true c.loop-place.invariant c.in_ok-gather_owner.ensures

pub returns : goal.returns
returns c =
    let all : take c.loop-place.place c.args.associations.now ≡ c.args.associations.now =
    take_all c.loop-place.place c.args.associations.now c.loop-place-test.false in
    subst (λ (ys : List Association). Gathers (λ i. list_any (is_held i) ys) c.args.gathered.now.items c.loop-place.gathered.items) all c.loop-place.invariant
