use Rattle.std.proofs.Common.{length, sym}
use Rattle.std.proofs.lemmas.Bool.{eqb-true}
use Rattle.trace_run.proofs.Unbroken.{LiesWhole-found, LiesWhole-none}
use Rattle.trace_run.proofs.parts.whole_line.Goals as goal

pub returns-clause-some : goal.returns-clause-some
returns-clause-some c =
    LiesWhole-found c.args.line.now c.args.piece.now c.memchr.result
    (eqb-true (length c.args.line.now) 0 (sym c.if-not-is_empty.ensures)) c.memchr.ensures

pub returns-clause-none : goal.returns-clause-none
returns-clause-none c = LiesWhole-none c.args.line.now c.args.piece.now c.memchr.result c.memchr.ensures
