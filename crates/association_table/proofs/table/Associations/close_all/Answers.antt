use Rattle.std.proofs.Common.{◌<◌, length, drop, arith, sym, ◌∙◌, ap, subst}
use Rattle.association_table.specs.Gathering.{closed_all}
use Rattle.association_table.proofs.Matched.{close_next, close_end, fewer}
use Rattle.association_table.proofs.table.Associations.close_all.Goals as goal

pub loop-association-smaller : goal.loop-association-smaller
loop-association-smaller c =
    subst (λ gs. length gs < length c.loop-association.gathered.items) (sym c.take_first.ensures.items)
    (fewer c.in-Some.association c.loop-association.gathered.items (sym c.take_first.ensures.item ∙ c.in-Some.is))

pub loop-association-preserved : goal.loop-association-preserved
loop-association-preserved c =
    let kept = c.loop-association.invariant.room in
    let more = c.close.ensures.room in
    record {
      closed =
          ap (λ gs. closed_all gs c.close.new.self.entries) c.take_first.ensures.items
          ∙ ap (closed_all (drop 1 c.loop-association.gathered.items)) c.close.ensures.entries
          ∙ close_next c.in-Some.association c.loop-association.gathered.items c.loop-association.self.entries
          (sym c.take_first.ensures.item ∙ c.in-Some.is)
          ∙ c.loop-association.invariant.closed;
      room = omega arith;
    }

pub returns-clause-entries : goal.returns-clause-entries
returns-clause-entries c =
    sym (close_end c.loop-association.gathered.items c.loop-association.self.entries (sym c.take_first.ensures.item ∙ c.in_default.is)) ∙ c.loop-association.invariant.closed
