use Rattle.std.proofs.Common.{◌∙◌}
use Rattle.c_session.proofs.Labels.{label_taken}
use Rattle.c_session.proofs.arguments.apn_of.Goals as goal

pub returns : goal.returns
returns c =
    c.ok_or.ensures.value ∙ label_taken c.try_new.result c.args.text.now c.try_new.ensures.some c.try_new.ensures.value
