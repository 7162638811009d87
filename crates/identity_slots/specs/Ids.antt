-- The ids that are made of a slot and a counter, and those of strangers.
use Rattle.std.specs.Prelude.{ℕ, ◌+◌, ◌-◌, ◌*◌, ◌/◌, ◌%◌, ◌^◌, Bool, nat_lt}

-- how many subscribers there is room for
abbrev pub slots : ℕ
slots = 2 ^ 15

-- how many ids a slot has: those of all slots are below 2^31
abbrev pub counters : ℕ
counters = 2 ^ 16

-- the first id of a stranger: ids of slots are below it
abbrev pub strangers : ℕ
strangers = 2 ^ 31

-- how many phones a station has numbers for
abbrev pub enb_ue_ids : ℕ
enb_ue_ids = 2 ^ 24

-- a counter goes round
abbrev pub next_counter : ℕ → ℕ
next_counter counter = (counter + 1) % counters

abbrev pub id_of_slot : ℕ → ℕ → ℕ
id_of_slot slot counter = slot * counters + counter

-- an id that is made of a slot
abbrev pub is_of_slot : ℕ → Bool
is_of_slot id = nat_lt id strangers

-- the slot of such an id
abbrev pub slot_in : ℕ → ℕ
slot_in id = id / counters

-- the id of the stranger with this station and eNB UE id
abbrev pub stranger_id : ℕ → ℕ → ℕ
stranger_id station enb_ue_id = strangers + station * enb_ue_ids + enb_ue_id

-- the station of a stranger's id, and its eNB UE S1AP ID
abbrev pub station_in : ℕ → ℕ
station_in id = (id - strangers) / enb_ue_ids

abbrev pub number_in : ℕ → ℕ
number_in id = (id - strangers) % enb_ue_ids
