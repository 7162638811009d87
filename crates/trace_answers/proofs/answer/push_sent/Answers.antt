use Rattle.std.proofs.Common.{arith}
use Rattle.trace_answers.proofs.AnswerLines.{sent_line}
use Rattle.trace_answers.proofs.answer.push_sent.Goals as goal

pub returns-clause-line : goal.returns-clause-line
returns-clause-line c =
    sent_line c.args.owner c.args.station c.args.octets.now c.in_ok-push_owner.ensures.part (omega (arith, c.get.ensures.value, c.get.ensures.bound))
