use Rattle.std.proofs.Common.{ap, ◌∙◌, take}
use Rattle.trace_answers.specs.Words.{answer_text}
use Rattle.trace_progress.specs.FrontLaws.{IsPrefix-take, IsPrefix-of, IsPrefix-all}
use Rattle.trace_run.specs.Watching.{failed_after_octets}
use Rattle.trace_run.proofs.answers.write_one.Goals as goal

pub returns-then-not-write_whole-clause-put : goal.returns-then-not-write_whole-clause-put
returns-then-not-write_whole-clause-put g c =
    let some = c.write_whole.ensures.some in
    let octets = c.as_slice.result.now in
    let text = answer_text c.args.answer.now in
    (take some.0 octets, some.1, IsPrefix-take some.0 octets text (IsPrefix-of octets octets text (c.as_slice.ensures.value ∙ c.in-Ok.ensures.text) (IsPrefix-all octets)))

pub returns-then-not-write_whole-clause-write_failed : goal.returns-then-not-write_whole-clause-write_failed
returns-then-not-write_whole-clause-write_failed g c =
    c.write_whole.ensures.write_failed ∙ ap (failed_after_octets c.args.writer.now.failed) c.if-not-write_whole.true

pub returns-clause-write_failed : goal.returns-clause-write_failed
returns-clause-write_failed g c =
    c.write_whole.ensures.write_failed ∙ ap (failed_after_octets c.args.writer.now.failed) c.if-not-write_whole.false
