-- One event that is not refused: what it makes, from what comes of it.
use Rattle.std.proofs.Common.{◌≡◌, ℕ, ◌^◌, ◌<◌, ◌≤◌, ◌+◌, arith}
use Rattle.stranger_machine.specs.declared.turn.Notice.TheVariants as notices
use Rattle.mme_routing.specs.Destinations.{Destination, Everyone}
use Rattle.mme_answering.specs.declared.prepared.Prepared.{Prepared}
use Rattle.mme_answering.specs.declared.prepared.Prepared.TheVariants as prepared
use Rattle.mme_answering.specs.Settled.{IsInTime, IsPassing, MayPass, settled_clock}

-- ---- the clock

-- where the owners' clock is not past the MME's, it isn't after what was prepared either
pub passes : (p : Prepared) (t c m : ℕ) → t ≤ c → IsInTime p c m → MayPass p t
passes prepared.Nobody t c m le h = tt
passes (prepared.Subscriber x) t c m le h = tt
passes (prepared.Stranger id after x) t c m le h = tt
passes (prepared.Everyone notice xs) t c m le h = tt
passes (prepared.Tick ids xs) t c m le h = let lt = h.0 in omega arith

pub not_past : (p : Prepared) (t c m : ℕ) → t ≤ c → IsInTime p c m → settled_clock p t ≤ m
not_past prepared.Nobody t c m le h = let e = h.1 in omega arith
not_past (prepared.Subscriber x) t c m le h = let e = h.1 in omega arith
not_past (prepared.Stranger id after x) t c m le h = let e = h.1 in omega arith
not_past (prepared.Everyone notice xs) t c m le h = let e = h.1 in omega arith
not_past (prepared.Tick ids xs) t c m le h = let e = h.1 in omega arith

-- a tick was prepared where everyone was told of one
pub in_time : (d : Destination) (p : Prepared) (c m : ℕ) → IsPassing d p → (d ≡ Everyone notices.Tick → (c < 2 ^ 62) × (m ≡ c + 1))
    → c ≤ m → IsInTime p c m
in_time d prepared.Nobody c m h moves le = (tt, le)
in_time d (prepared.Subscriber x) c m h moves le = (tt, le)
in_time d (prepared.Stranger id after x) c m h moves le = (tt, le)
in_time d (prepared.Everyone notice xs) c m h moves le = (tt, le)
in_time d (prepared.Tick ids xs) c m h moves le = let k = moves h in let lt = k.0 in let is = k.1 in (lt, omega arith)
