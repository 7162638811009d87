use Rattle.std.proofs.Common.{◌+◌, arith, sym, ◌∙◌, subst}
use Rattle.association_table.specs.Gathering.{Gathers, put_once}
use Rattle.association_table.proofs.Matched.{below, first_is_numbered, number_begins, number_goes_on, number_ends}
use Rattle.association_table.proofs.gathering.gather_number.Goals as goal

pub loop-association-init : goal.loop-association-init
loop-association-init c = record {
  gathered = number_begins c.args.station c.args.enb_ue_id c.args.associations.now.entries c.args.gathered.now.items;
  small = omega arith;
}

pub loop-association-smaller : goal.loop-association-smaller
loop-association-smaller c =
    let there =
    first_is_numbered c.args.station c.args.enb_ue_id c.loop-association.least c.in-Some.association c.args.associations.now.entries
    (sym c.first_numbered.ensures.value ∙ c.in-Some.is) in
    let small = c.association_id.type_inv in
    let is = c.association_id.ensures in
    let wide = c.from-least.ensures in
    omega (arith, there.1, small, is, wide)

pub loop-association-preserved : goal.loop-association-preserved
loop-association-preserved c =
    let e = c.args.station in
    let n = c.args.enb_ue_id in
    let a = c.in-Some.association in
    let es = c.args.associations.now.entries in
    let old = c.args.gathered.now.items in
    let gs = c.loop-association.gathered.items in
    let wide = c.from-least.ensures ∙ c.association_id.ensures in
    let small = c.association_id.type_inv in
    record {
      gathered = subst (Gathers (below e n (c.from-least.result + 1)) es old) (sym c.in_ok-gather.ensures)
          (subst (λ i. Gathers (below e n (i + 1)) es old (put_once a gs)) (sym wide)
          (number_goes_on e n c.loop-association.least a es old gs c.first_numbered.ensures.order (sym c.first_numbered.ensures.value ∙ c.in-Some.is) c.loop-association.invariant.gathered));
      small = omega arith;
    }

pub returns : goal.returns
returns c =
    number_ends c.args.station c.args.enb_ue_id c.loop-association.least c.args.associations.now.entries c.args.gathered.now.items c.loop-association.gathered.items
    (sym c.first_numbered.ensures.value ∙ c.in_default.is) c.loop-association.invariant.gathered
