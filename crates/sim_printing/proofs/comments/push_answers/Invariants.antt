use Rattle.std.proofs.Common.{◌≡◌, ◌++◌, take}
use Rattle.trace_answers.specs.Words.{answers_of}
use Rattle.sim_printing.specs.Printed.{AddsComments}
use Rattle.sim_printing.specs.Shown.{sent_comments}
use Rattle.sim_printing.proofs.comments.push_answers.Given as goal

abbrev pub invariant-loop-message : goal.invariant-loop-message
invariant-loop-message l = record {
  added : AddsComments l.initial.out.items l.out.items (answers_of (take l.message-index l.sent));
  appended : l.out.items ≡ l.initial.out.items ++ sent_comments (take l.message-index l.sent);
}
