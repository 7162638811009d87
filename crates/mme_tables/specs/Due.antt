-- Whose the timers are that a tick ends.
use Rattle.std.specs.Prelude.{ℕ, ◌^◌, ◌<◌, Bool, true, List, [], ◌∷◌, Option, Some, None, if◌then◌else◌}
use Rattle.identity_slots.specs.Ids.{slots, stranger_id}
use Rattle.timer_queue.specs.declared.timer.Timer.{Timer}
use Rattle.timer_queue.specs.declared.timer.TimerOwner.{TimerOwner}
use Rattle.timer_queue.specs.declared.timer.TimerOwner.TheVariants.{Stranger, Subscriber}
use Rattle.mme_tables.specs.Running.{is_this}

-- ---- strangers

-- the stranger whose timer it is, if it is one's
abbrev pub id_of : TimerOwner → Option ℕ
id_of (Stranger station enb_ue_id) = Some (stranger_id station enb_ue_id)
id_of (Subscriber slot) = None

abbrev pub with_id : Option ℕ → List ℕ → List ℕ
with_id None ids = ids
with_id (Some id) ids = id ∷ ids

abbrev pub ids_of : List Timer → List ℕ
ids_of [] = []
ids_of (t ∷ ts) = with_id (id_of t.owner) (ids_of ts)

-- ---- slots

abbrev pub owner_slot : TimerOwner → ℕ
owner_slot (Stranger station enb_ue_id) = 0
owner_slot (Subscriber slot) = slot

-- it is a stranger's, or the slot was the last
abbrev pub is_past : TimerOwner → Option ℕ → Bool
is_past (Stranger station enb_ue_id) last = true
is_past (Subscriber slot) last = is_this slot last

-- each slot once, where its timers stand side by side, after the one that was last
abbrev pub slots_once : Option ℕ → List Timer → List ℕ
slots_once last [] = []
slots_once last (t ∷ ts) =
    if is_past t.owner last then slots_once last ts else owner_slot t.owner ∷ slots_once (Some (owner_slot t.owner)) ts

-- ---- both

-- the owner is one of the slots, or a stranger of one of 128 stations with a number below 2^24
abbrev pub IsOfOwner : TimerOwner → Type 0
IsOfOwner (Stranger station enb_ue_id) = (station < 128) × (enb_ue_id < 2 ^ 24)
IsOfOwner (Subscriber slot) = slot < slots

abbrev pub AreOfOwners : List Timer → Type 0
AreOfOwners [] = Unit {0}
AreOfOwners (t ∷ ts) = IsOfOwner t.owner × AreOfOwners ts
