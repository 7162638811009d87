use Rattle.std.proofs.Common.{◌≡◌, length, take}
use Rattle.trace_answers.specs.Words.{answers_of}
use Rattle.c_session.specs.Texts.{Adds}
use Rattle.c_session.proofs.said.push_outs.Given as goal

abbrev pub invariant-loop-out : goal.invariant-loop-out
invariant-loop-out l = record {
  length : l.before ≡ length l.initial.answers.items;
  added : Adds l.room l.initial.answers.items (answers_of (take l.out-index l.outs)) l.answers.items;
}
