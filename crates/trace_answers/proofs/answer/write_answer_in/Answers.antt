use Rattle.std.proofs.Common.{◌+◌, ◌*◌, List, ℕ, ◌++◌, ap, ◌∙◌, sym, subst}
use Rattle.trace_answers.specs.Words.{answer_text}
use Rattle.trace_answers.specs.Lines.{IsLineWithin, octets_said}
use Rattle.trace_answers.proofs.answer.write_answer_in.Goals as goal

pub returns-clause-line : goal.returns-clause-line
returns-clause-line c =
    let answer = c.args.answer.now in
    let added = c.in_ok-push_answer.ensures in
    let text = added.text ∙ ap (λ (v : List ℕ). v ++ answer_text answer) c.clear.ensures.items in
    subst (IsLineWithin (80 + 2 * octets_said answer)) (sym text) added.line
