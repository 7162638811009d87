use Rattle.std.proofs.Common.{refl, arith}
use Rattle.laws_network.proofs.FitActions.{AreWritten}
use Rattle.laws_network.proofs.FitRows.{stays_in_range}
use Rattle.laws_network.proofs.subscriber.ranges_are_kept.Goals as goal

pub returns-clause-fresh : goal.returns-clause-fresh
returns-clause-fresh c = record { connection = tt; context = tt; tai = record { plmn = refl; tac = refl }; capability = refl; transaction = omega arith; repeat = tt }

pub returns-clause-run : goal.returns-clause-run
returns-clause-run c =
    let e = c.phone_messages_are_written.ensures in
    let written : AreWritten = record { nas = e.nas; release = e.release; indication = e.indication; not_switched = e.not_switched; switched = e.switched; page = e.page; set_up = e.set_up } in
    stays_in_range written c.decoded_is_spelled.ensures c.decoded_esm_is_spelled.ensures
