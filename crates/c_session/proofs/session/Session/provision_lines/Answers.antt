use Rattle.std.proofs.Common.{ℕ, arith, length-take, length-drop}
use Rattle.c_session.proofs.Parting.{all_counted, all_taken, last_refused, line_refused, line_taken}
use Rattle.c_session.proofs.session.Session.provision_lines.Goals as goal

pub loop-at-preserved : goal.loop-at-preserved
loop-at-preserved c = record {
  within = omega (arith, length-take {A = ℕ}, length-drop {A = ℕ}, c.in-Some.ensures.0.high);
  provisioned = line_taken c.args.text.now c.loop-at.line c.loop-at.self _ c.loop-at.rest.now c.in-Some.at c.in-Some.ensures c.loop-at.invariant.provisioned c.in-Ok.ensures.ok;
}

pub returns-in-Err-clause-refused : goal.returns-in-Err-clause-refused
returns-in-Err-clause-refused c =
    line_refused c.args.text.now c.loop-at.line c.loop-at.self c.provision_at.new.self c.in-Err.fault c.loop-at.rest.now c.in-Some.at c.in-Some.ensures c.loop-at.invariant.provisioned c.in-Err.ensures.line c.in-Err.ensures.err c.in-Err.ensures.refused

pub returns-in-Ok-provision_at-clause-ok : goal.returns-in-Ok-provision_at-clause-ok
returns-in-Ok-provision_at-clause-ok c =
    all_taken c.args.text.now c.loop-at.line c.loop-at.self c.provision_at-2.new.self c.loop-at.rest.now c.in_default.ensures c.loop-at.invariant.provisioned c.in-Ok-provision_at.ensures.ok

pub returns-in-Ok-provision_at-clause-last : goal.returns-in-Ok-provision_at-clause-last
returns-in-Ok-provision_at-clause-last c =
    all_counted c.args.text.now c.loop-at.line c.loop-at.self c.provision_at-2.new.self c.loop-at.rest.now c.in_default.ensures c.loop-at.invariant.provisioned c.in-Ok-provision_at.ensures.ok

pub returns-in-Err-provision_at-clause-refused : goal.returns-in-Err-provision_at-clause-refused
returns-in-Err-provision_at-clause-refused c =
    last_refused c.args.text.now c.loop-at.line c.loop-at.self c.provision_at-2.new.self c.in-Err-provision_at.fault c.loop-at.rest.now c.in_default.ensures c.loop-at.invariant.provisioned c.in-Err-provision_at.ensures.line c.in-Err-provision_at.ensures.err c.in-Err-provision_at.ensures.refused
