use Rattle.std.proofs.Common.{sym}
use Rattle.trace_progress.proofs.Places.{slot_of_imsi-below}
use Rattle.trace_progress.proofs.progress.give.Goals as goal

pub give-requires : goal.give-requires
give-requires c =
    slot_of_imsi-below c.args.imsi c.in-Provisioning.provision.profiles c.in-Some.slot (sym c.in-Some.ensures)
