-- For how many steps room is made.
use Rattle.std.proofs.Common.{◌≤◌, ℕ, List, length, ap, arith}
use Rattle.emm_machine.specs.SubscriberView.{SubscriberView}
use Rattle.stranger_machine.specs.declared.table.Known.{Known}
use Rattle.mme_owners.specs.SubscriberLaws.{due_few}
use Rattle.mme_answering.specs.declared.prepared.Prepared.{Prepared}
use Rattle.mme_answering.specs.declared.prepared.Prepared.TheVariants as prepared
use Rattle.mme_answering.specs.Settled.{IsFor, steps_of}
use Rattle.mme_answering.proofs.Stepping.{slots_many}

-- there are no more steps than n, where there are no more subscribers
pub steps_few : (p : Prepared) (ks : List Known) (ws : List SubscriberView) (n : ℕ) → IsFor p ks ws → length ws ≤ n → 1 ≤ n → steps_of p ≤ n
steps_few prepared.Nobody ks ws n h le one = omega arith
steps_few (prepared.Subscriber x) ks ws n h le one = one
steps_few (prepared.Stranger id after x) ks ws n h le one = one
steps_few (prepared.Everyone notice xs) ks ws n h le one = let few = h.1 in omega arith
steps_few (prepared.Tick ids xs) ks ws n h le one =
    let many = slots_many xs.items in
    let due = ap length h.0 in
    let few = due_few ws in
    omega arith
