use Rattle.std.proofs.Common.{arith}
use Rattle.trace_answers.proofs.AnswerLines.{refused_line}
use Rattle.trace_answers.proofs.answer.push_refused.Goals as goal

pub returns-clause-line : goal.returns-clause-line
returns-clause-line c = refused_line c.args.fault (let small = c.ranges.fault in omega (arith, small))
