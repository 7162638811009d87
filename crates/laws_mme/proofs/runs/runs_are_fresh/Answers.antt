use Rattle.laws_mme.proofs.Guards.{run_is_fresh}
use Rattle.laws_mme.proofs.runs.runs_are_fresh.Goals as goal

pub returns : goal.returns
returns c =
    run_is_fresh c.sent_counts_are_fresh.ensures.ahead c.sent_counts_are_fresh.ensures.once
    c.accepted_counts_are_fresh.ensures.ahead c.accepted_counts_are_fresh.ensures.once
    c.vector_makes_one_context.ensures.ahead c.vector_makes_one_context.ensures.once
