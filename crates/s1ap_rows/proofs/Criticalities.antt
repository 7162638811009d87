-- The number of a criticality.
use Rattle.std.proofs.Common.{◌≤◌, arith}
use Rattle.s1ap_rows.specs.declared.criticality.Criticality.{Criticality}
use Rattle.s1ap_rows.specs.declared.criticality.Criticality.TheVariants as criticalities
use Rattle.s1ap_rows.specs.Criticalities.{criticality_number}

pub criticality_few : (c : Criticality) → criticality_number c ≤ 2
criticality_few criticalities.Reject = omega (arith)
criticality_few criticalities.Ignore = omega (arith)
criticality_few criticalities.Notify = omega (arith)
