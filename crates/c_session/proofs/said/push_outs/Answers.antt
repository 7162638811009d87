use Rattle.std.proofs.Common.{refl, arith}
use Rattle.trace_answers.specs.Words.{answers_of}
use Rattle.std.proofs.Common.{take}
use Rattle.c_session.proofs.Saying.{Adds-none, Adds-out, cut_back, no_room_for_all}
use Rattle.c_session.proofs.said.push_outs.Goals as goal

pub returns-in-Err-clause-unsaid : goal.returns-in-Err-clause-unsaid
returns-in-Err-clause-unsaid c =
    cut_back c.args.room c.len-before.result c.args.answers.now.items (answers_of (take c.loop-out.out-index c.args.outs.now)) c.loop-out.answers.items c.push_out.new.answers.items c.truncate.new.self.items
    c.loop-out.invariant.added c.in-Err.ensures.unsaid c.loop-out.invariant.length c.truncate.ensures.items

pub returns-in-Err-clause-why : goal.returns-in-Err-clause-why
returns-in-Err-clause-why c =
    no_room_for_all c.args.room c.args.outs.now c.loop-out.out-index c.out-item.result c.args.answers.now.items c.loop-out.answers.items c.in-Err.refusal
    (omega arith) c.out-item.is c.loop-out.invariant.added c.in-Err.ensures.why

pub loop-out-preserved : goal.loop-out-preserved
loop-out-preserved c = record {
  length = c.loop-out.invariant.length;
  added = Adds-out c.args.room c.args.outs.now c.loop-out.out-index c.out-item.result c.args.answers.now.items c.loop-out.answers.items c.push_out.new.answers.items
      (omega arith) c.out-item.is c.loop-out.invariant.added c.in-Ok.ensures.said;
}

pub loop-out-init : goal.loop-out-init
loop-out-init c = record {
  length = omega (arith, c.len-before.ensures, c.args.answers.now.ok.0);
  added = Adds-none c.args.room c.args.answers.now.items c.args.answers.now.items refl;
}
