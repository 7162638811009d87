use Rattle.std.proofs.Common.{◌+◌, ◌++◌, take, sym, ap, ◌∙◌, append-nil, arith}
use Rattle.std.proofs.lemmas.List.{take_all}
use Rattle.trace_answers.specs.Words.{answers_of, out_text}
use Rattle.sim_printing.specs.PrintLaws.{AddsComments-none, AddsComments-said, AddsComments-then}
use Rattle.sim_printing.specs.Shown.{as_comment, sent_comments}
use Rattle.trace_answers.specs.WordLaws.{answers_of-more}
use Rattle.sim_printing.proofs.Played.{on_err}
use Rattle.sim_printing.proofs.Shown.{sent_comments-more}
use Rattle.sim_printing.proofs.comments.push_answers.Goals as goal

pub loop-message-init : goal.loop-message-init
loop-message-init c = record {
  added = AddsComments-none c.args.out.now.items;
  appended = sym (append-nil c.args.out.now.items);
}

pub loop-message-preserved : goal.loop-message-preserved
loop-message-preserved c =
    let i = c.loop-message.message-index in
    let sent = c.args.sent.now in
    let message = c.message-item.result in
    let before = answers_of (take i sent) in
    let first = c.args.out.now.items in
    let last = c.push_sent.new.out.items in
    record {
      added =
          AddsComments-said first last (before ++ out_text message) (answers_of (take (i + 1) sent))
          (sym (answers_of-more sent i message (omega arith) c.message-item.is))
          (AddsComments-then first c.loop-message.out.items last before (out_text message) c.loop-message.invariant.added
          c.in_ok-push_sent.ensures.added);
      appended =
          c.in_ok-push_sent.ensures.appended ∙ ap (λ v. v ++ as_comment (out_text message)) c.loop-message.invariant.appended
          ∙ sent_comments-more first sent i message (omega arith) c.message-item.is;
    }

pub returns-in_err-push_sent-clause-err : goal.returns-in_err-push_sent-clause-err
returns-in_err-push_sent-clause-err c =
    let added = c.loop-message.invariant.added in
    on_err c.from_residual.result (added.0, c.in_err-push_sent.ensures.err ∙ added.1)

pub returns-clause-added : goal.returns-clause-added
returns-clause-added c =
    let sent = c.args.sent.now in
    AddsComments-said c.args.out.now.items c.loop-message.out.items (answers_of (take c.loop-message.message-index sent))
    (answers_of sent)
    (ap answers_of (take_all c.loop-message.message-index sent (omega arith))) c.loop-message.invariant.added

pub returns-clause-appended : goal.returns-clause-appended
returns-clause-appended c =
    c.loop-message.invariant.appended
    ∙ ap (λ outs. c.args.out.now.items ++ sent_comments outs)
    (take_all c.loop-message.message-index c.args.sent.now (omega arith))
