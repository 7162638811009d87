use Rattle.std.proofs.Common.{sym}
use Rattle.trace_words.proofs.Texts.{not_subscriber}
use Rattle.trace_words.proofs.fields.imsi.Goals as goal

pub returns-in-Err : goal.returns-in-Err
returns-in-Err c = sym (not_subscriber c.args.text.now c.in-Err.ensures.cases.0)
