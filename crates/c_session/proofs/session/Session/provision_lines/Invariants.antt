use Rattle.std.proofs.Common.{◌≤◌, ◌+◌, length}
use Rattle.c_session.specs.Lines.{all_lines}
use Rattle.c_session.proofs.Parting.{HasProvisioned}
use Rattle.c_session.proofs.session.Session.provision_lines.Given as goal

abbrev pub invariant-loop-at : goal.invariant-loop-at
invariant-loop-at l = record {
  within : l.line + length l.rest ≤ length l.fn.text;
  provisioned : HasProvisioned (all_lines l.fn.text) l.line l.self (all_lines l.rest);
}

abbrev pub decreases-loop-at : goal.decreases-loop-at
decreases-loop-at l = length l.rest
