use Rattle.std.proofs.Common.{sym, subst, arith}
use Rattle.mme_answering.specs.declared.out.Owner.{Owner}
use Rattle.trace_answers.specs.Words.{owner_text}
use Rattle.trace_answers.specs.Lines.{IsPartWithin}
use Rattle.trace_answers.proofs.AnswerLines.{station_part, stranger_part, subscriber_part}
use Rattle.trace_answers.proofs.answer.push_owner.Goals.{in-Station+in_ok-push_named-in-Station, in-Stranger+in_ok-push_named-in-Stranger+in_ok-push_named-in-Stranger-2, in-Subscriber+in_ok-push_named-in-Subscriber}
use Rattle.trace_answers.proofs.answer.push_owner.Goals as goal

pub returns-clause-part : goal.returns-clause-part
returns-clause-part c =
    let P : Owner → Type 0 = λ owner. IsPartWithin 20 (owner_text owner) in
    elim c.match-owner.branch [
      | in-Station+in_ok-push_named-in-Station w ↦
          subst P (sym w.in-Station.is) (station_part w.in-Station.station (omega arith))
      | in-Stranger+in_ok-push_named-in-Stranger+in_ok-push_named-in-Stranger-2 w ↦
          subst P (sym w.in-Stranger.is) (stranger_part w.in-Stranger.id (omega arith) (omega arith))
      | in-Subscriber+in_ok-push_named-in-Subscriber w ↦
          subst P (sym w.in-Subscriber.is) (subscriber_part w.in-Subscriber.slot (omega arith))
    ]
