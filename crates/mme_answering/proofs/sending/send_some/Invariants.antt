use Rattle.std.proofs.Common.{◌≡◌, ◌++◌, drop}
use Rattle.stranger_machine.specs.declared.turn.Notice.TheVariants.{Tick}
use Rattle.mme_tables.specs.StrangerLaws.{some_known_give}
use Rattle.mme_answering.specs.Settled.{known_sent}
use Rattle.mme_answering.proofs.Sent.{SentBut}
use Rattle.mme_answering.proofs.sending.send_some.Given as goal

-- what those send who are left is to come
abbrev pub invariant-loop-id : goal.invariant-loop-id
invariant-loop-id l =
    let all = some_known_give (known_sent Tick) l.ids l.strangers.strangers in
    let rest = some_known_give (known_sent Tick) (drop l.id-index l.ids) l.strangers.strangers in
    record {
      sends : l.outs ++ rest ≡ l.fn.outs ++ all;
      some : SentBut rest all l.fn.outs l.outs;
    }
