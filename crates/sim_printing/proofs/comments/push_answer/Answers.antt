use Rattle.std.proofs.Common.{ℕ, ◌+◌, ◌*◌, List, ◌∷◌, ◌++◌, ap, ◌∙◌, subst, arith}
use Rattle.trace_answers.specs.Lines.{IsLineWithin, octets_said}
use Rattle.trace_answers.specs.Words.{answer_text}
use Rattle.sim_printing.specs.PrintLaws.{AreComments-answer}
use Rattle.sim_printing.proofs.comments.push_answer.Goals as goal

pub returns-clause-added : goal.returns-clause-added
returns-clause-added c =
    let answer = c.args.answer.now in
    let text = answer_text answer in
    let is = c.in_ok-line.ensures.text in (
      35 ∷ 32 ∷ text,
      c.in_ok-push_both.ensures.added ∙ ap (λ (v : List ℕ). c.args.out.now.items ++ 35 ∷ 32 ∷ v) (c.as_slice.ensures.value ∙ is),
      AreComments-answer c.comments_are_not_kept.ensures (80 + 2 * octets_said answer) text (omega (arith, c.requires))
          (subst (λ (v : List ℕ). IsLineWithin (80 + 2 * octets_said answer) v) is c.in_ok-line.ensures.line),
    )
