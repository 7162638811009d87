-- The order of timers: strangers by station and eNB UE id, then subscribers by slot; of one owner the procedure's first.
use Rattle.std.specs.Prelude.{◌≡◌, ℕ, ◌+◌, ◌*◌, ◌^◌, ◌%◌, ◌<◌}
use Rattle.timer_queue.specs.declared.timer.Timer.{Timer}
use Rattle.timer_queue.specs.declared.timer.TimerOwner.{TimerOwner}
use Rattle.timer_queue.specs.declared.timer.TimerOwner.TheVariants.{Stranger, Subscriber}
use Rattle.timer_queue.specs.declared.timer.Kind.{Kind}
use Rattle.timer_queue.specs.declared.timer.Kind.TheVariants.{Procedure, Reachable}

abbrev pub owner_rank : TimerOwner → ℕ
owner_rank (Stranger station enb_ue_id) = station * 2 ^ 32 + enb_ue_id
owner_rank (Subscriber slot) = 2 ^ 40 + slot

abbrev pub kind_rank : Kind → ℕ
kind_rank Procedure = 0
kind_rank Reachable = 1

-- a number of 64 bits for each timer; no timer in range is cut by the remainder
unfoldable pub rank : Timer → ℕ
rank t = (2 * owner_rank t.owner + kind_rank t.kind) % 2 ^ 64

-- an owner whose numbers are in the range of their types
abbrev pub IsOwner : TimerOwner → Type 0
IsOwner (Stranger station enb_ue_id) = (station < 2 ^ 8) × (enb_ue_id < 2 ^ 32)
IsOwner (Subscriber slot) = slot < 2 ^ 32

-- no two timers have one rank
abbrev pub TimersApart : Type 0
TimersApart = (a b : Timer) → IsOwner a.owner → IsOwner b.owner → rank a ≡ rank b → a ≡ b

-- an owner's timers stand before those of the next owners
abbrev pub InOwnerOrder : Type 0
InOwnerOrder = (a b : Timer) → IsOwner a.owner → IsOwner b.owner → owner_rank a.owner < owner_rank b.owner → rank a < rank b

-- the procedure's timer stands before the reachable one
abbrev pub ProcedureFirst : Type 0
ProcedureFirst =
    (o : TimerOwner) → IsOwner o → rank (record { owner = o; kind = Procedure }) < rank (record { owner = o; kind = Reachable })
