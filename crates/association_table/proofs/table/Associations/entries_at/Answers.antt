use Rattle.std.proofs.Common.{◌+◌, ◌++◌, ◌∷◌, [], arith, sym, ◌∙◌, ap, append_assoc, append-nil}
use Rattle.association_table.specs.Kept.{station_group}
use Rattle.association_table.proofs.Stations.{station_from, from_zero, from_none, from_some, first_is}
use Rattle.association_table.proofs.table.Associations.entries_at.Goals as goal

pub loop-association-init : goal.loop-association-init
loop-association-init c = record {
  listed = ap (λ xs. xs ++ station_from c.args.station 0 c.args.self.now.entries) c.new-entries.ensures.items ∙ from_zero c.args.station c.args.self.now.entries;
  small = omega arith;
}

pub loop-association-smaller : goal.loop-association-smaller
loop-association-smaller c =
    let there =
    first_is station_group c.args.station c.loop-association.least c.in-Some.association c.args.self.now.entries
    (sym c.first_at.ensures.value ∙ c.in-Some.is) in
    let small = c.association_id.type_inv in
    let is = c.association_id.ensures in
    let wide = c.from-least.ensures in
    omega (arith, there.1, small, is, wide)

pub loop-association-preserved : goal.loop-association-preserved
loop-association-preserved c =
    let a = c.in-Some.association in
    let es = c.args.self.now.entries in
    let wide = c.from-least.ensures ∙ c.association_id.ensures in
    let small = c.association_id.type_inv in
    let next =
    from_some c.args.station c.loop-association.least a es c.first_at.ensures.order (sym c.first_at.ensures.value ∙ c.in-Some.is) in
    record {
      listed = ap (λ xs. xs ++ station_from c.args.station (c.from-least.result + 1) es) c.in_ok-push.ensures.items
          ∙ ap (λ n. (c.loop-association.entries.items ++ a ∷ []) ++ station_from c.args.station (n + 1) es) wide
          ∙ append_assoc c.loop-association.entries.items (a ∷ []) (station_from c.args.station (a.id + 1) es)
          ∙ ap (λ xs. c.loop-association.entries.items ++ xs) (sym next) ∙ c.loop-association.invariant.listed;
      small = omega arith;
    }

pub returns-clause-value : goal.returns-clause-value
returns-clause-value c =
    let none =
    from_none c.args.station c.loop-association.least c.args.self.now.entries (sym c.first_at.ensures.value ∙ c.in_default.is) in
    sym (append-nil c.loop-association.entries.items) ∙ ap (λ xs. c.loop-association.entries.items ++ xs) (sym none)
    ∙ c.loop-association.invariant.listed
