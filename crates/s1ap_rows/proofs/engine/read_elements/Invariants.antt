use Rattle.std.proofs.Common.{◌≡◌, ◌-◌}
use Rattle.s1ap_rows.specs.Reading.{elements_at}
use Rattle.s1ap_rows.proofs.engine.read_elements.Given as goal

abbrev pub invariant-loop : goal.invariant-loop
invariant-loop g l =
    elements_at g.M.Message.rows (l.count - l.counter) (g.M.Message.slots l.message) l.reader
    ≡ elements_at g.M.Message.rows l.count (g.M.Message.slots l.initial.message) l.initial.reader
