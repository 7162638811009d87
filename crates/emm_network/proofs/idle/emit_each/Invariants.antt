use Rattle.std.proofs.Common.{◌≡◌, drop}
use Rattle.s1ap_pdus.specs.Pdus.{lists}
use Rattle.emm_network.specs.Idle.{emit_each}
use Rattle.emm_network.proofs.idle.emit_each.Given as goal

abbrev pub invariant-loop-station : goal.invariant-loop-station
invariant-loop-station l =
    emit_each (lists l.message) (drop l.station-index l.stations) l.draft ≡ emit_each (lists l.message) l.stations l.fn.draft
