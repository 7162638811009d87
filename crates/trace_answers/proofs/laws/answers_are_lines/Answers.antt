use Rattle.trace_answers.proofs.AnswerLines.{answers_are_lines}
use Rattle.trace_answers.proofs.laws.answers_are_lines.Goals as goal

pub returns : goal.returns
returns c = answers_are_lines
