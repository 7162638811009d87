use Rattle.std.proofs.Common.{◌≤◌, length, ap, arith}
use Rattle.nas_elements.specs.Digits.{imsi_text}
use Rattle.trace_answers.proofs.AnswerLines.{state_line}
use Rattle.trace_answers.proofs.answer.push_states.Goals as goal

pub returns-clause-line : goal.returns-clause-line
returns-clause-line c =
    let short : length (imsi_text c.args.imsi.now) ≤ 15 =
    omega (arith, ap length c.as_str.ensures.value, ap length c.digits-digits.ensures, c.as_str.ensures.fits) in
    state_line c.args.imsi.now c.args.states short
