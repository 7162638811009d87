use Rattle.std.proofs.Common.{ap, ◌∙◌}
use Rattle.std.specs.Prelude.{is_some}
use Rattle.trace_progress.specs.KnownLaws.{known_running}
use Rattle.sim_printing.proofs.lines.is_provisioned.Goals as goal

pub returns-in-Provisioning : goal.returns-in-Provisioning
returns-in-Provisioning c = λ world r.
    c.is_some.ensures ∙ ap is_some c.slot_of_imsi.ensures
    ∙ known_running c.args.progress.now c.in-Provisioning.field-0 c.in-Provisioning.provision c.args.imsi world c.in-Provisioning.is r
