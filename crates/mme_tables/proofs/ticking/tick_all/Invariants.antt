use Rattle.std.proofs.Common.{◌≡◌, drop}
use Rattle.mme_tables.specs.Ended.{AreAround, all_ended, met_ids}
use Rattle.mme_tables.specs.StrangerRows.{AreRows}
use Rattle.mme_tables.proofs.ticking.tick_all.Given as goal

-- those whom the tick still ends are those who are left
abbrev pub invariant-loop-id : goal.invariant-loop-id
invariant-loop-id l = record {
  ended : all_ended l.next l.sleepers ≡ all_ended l.next l.fn.sleepers;
  rows : AreRows l.sleepers;
  around : AreAround l.next l.sleepers;
  met : met_ids l.next l.sleepers ≡ drop l.id-index l.due;
}
