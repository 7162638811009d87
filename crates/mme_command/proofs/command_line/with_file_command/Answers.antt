use Rattle.std.proofs.Common.{ap, ◌∙◌}
use Rattle.std.proofs.lemmas.Result.{IfOk-weaker}
use Rattle.clap.specs.Words.{App, app_of, with_subcommand}
use Rattle.mme_command.proofs.command_line.with_file_command.Goals as goal

pub returns-in-Ok : goal.returns-in-Ok
returns-in-Ok c = IfOk-weaker c.subcommand.result _ _ (λ r h. h.shape c.in-Ok.ensures.local ∙ ap (λ (a : App). with_subcommand (app_of c.args.mme) a.top) c.in-Ok.ensures.app) c.subcommand.ensures
