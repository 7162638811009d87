-- The rows of messages on an association (TS 36.413 clause 8), and of what ends one.
use Rattle.std.specs.Prelude.{ℕ, ◌+◌, ◌%◌, ◌==◌, ◌&&◌, Bool, false, not, if◌then◌else◌, List, filter, Option, Some, None, unwrap_or}
use Rattle.std.specs.Option.{option_map_or}
use Rattle.s1ap_causes.specs.declared.cause.Cause.{Cause}
use Rattle.s1ap_causes.specs.declared.cause.Cause.TheVariants as causes
use Rattle.s1ap_causes.specs.declared.cause.RadioNetworkCause.TheVariants as radio
use Rattle.s1ap_causes.specs.declared.cause.ProtocolCause.TheVariants as protocol
use Rattle.eps_keys.specs.Hmac.{next_hop}
use Rattle.identity_slots.specs.Ids.{is_of_slot}
use Rattle.mme_types.specs.declared.event.UeMessage.{UeMessage}
use Rattle.mme_types.specs.declared.connection.Connection.{Connection}
use Rattle.mme_types.specs.declared.connection.RadioKeys.{RadioKeys}
use Rattle.mme_types.specs.Listed.{ToReset, is_listed}
use Rattle.mme_types.specs.Pdus.{error_indication, path_switch_acknowledge, path_switch_failure}
use Rattle.emm_state.specs.declared.draft.Draft.{Draft}
use Rattle.emm_state.specs.declared.solo.Context.{Context}
use Rattle.emm_state.specs.declared.solo.Repeat.{Repeat}
use Rattle.emm_state.specs.declared.solo.Repeat.TheVariants as repeats
use Rattle.emm_state.specs.Actions.{emit, is_at, is_registered, lost}

-- ---- how a message stands to the connection

abbrev pub has_connection_id : UeMessage (List ℕ) → Draft → Bool
has_connection_id m d = option_map_or (λ k. k.id == m.mme_ue_id) d.solo.connection false

abbrev pub has_pair : UeMessage (List ℕ) → Draft → Bool
has_pair m d = option_map_or (λ k. is_at k m.station m.enb_ue_id) d.solo.connection false

-- ERROR INDICATION with the ids that were received
unfoldable pub indicate : Cause → UeMessage (List ℕ) → Draft → Draft
indicate cause m d = emit m.station (error_indication m.mme_ue_id m.enb_ue_id cause) None d

-- ---- path switch (TS 36.413 clause 8.4.4, TS 33.401 clause 7.2.8.4.2)

unfoldable pub not_switched : Cause → UeMessage (List ℕ) → Draft → Draft
not_switched cause m d = emit m.station (path_switch_failure m.mme_ue_id m.enb_ue_id cause) None d

-- the next hop chaining count after this one: it goes round at 8 (TS 33.401 clause 7.2.8.1)
abbrev pub next_chaining_count : ℕ → ℕ
next_chaining_count n = (n + 1) % 8

-- the next hop that stands: the one that a station was told last, else the first of the chain, which is of KeNB (TS 33.401
-- clause A.4)
abbrev pub standing_hop : List ℕ → RadioKeys → List ℕ
standing_hop kasme keys = unwrap_or keys.next_hop (next_hop kasme keys.kenb)

-- the next hop after it, which a path switch takes
abbrev pub hop_after : Context → List ℕ
hop_after x = next_hop x.kasme (standing_hop x.kasme x.radio)

-- the radio keys with that hop
abbrev pub hopped : Context → RadioKeys
hopped x =
    record { kenb = x.radio.kenb; next_hop = Some (hop_after x); chaining_count = next_chaining_count x.radio.chaining_count }

-- the connection that a path switch leads to
abbrev pub connection_of : UeMessage (List ℕ) → Connection
connection_of m = record { id = m.mme_ue_id; station = m.station; enb_ue_id = m.enb_ue_id }

-- the connection moves, and the station is told the next hop
unfoldable pub switched : UeMessage (List ℕ) → Context → Draft → Draft
switched m x d =
    let count = next_chaining_count x.radio.chaining_count in
    emit m.station (path_switch_acknowledge (connection_of m) (hop_after x) count) None (record d {
      solo = record d.solo { connection = Some (connection_of m); context = Some (record x { radio = hopped x }) };
    })

-- PATH SWITCH REQUEST: of a stranger's id none is taken
unfoldable pub path_switch : UeMessage (List ℕ) → Draft → Draft
path_switch m d =
    if not (has_connection_id m d) then not_switched (causes.RadioNetwork radio.UnknownMmeUeS1apId) m d
    else if not (is_of_slot m.mme_ue_id) then not_switched (causes.RadioNetwork radio.UnknownMmeUeS1apId) m d
    else if is_registered d.solo.phase then option_map_or (λ x. switched m x d) d.solo.context d
    else not_switched (causes.Protocol protocol.MessageNotCompatible) m d

-- ---- what ends a connection without a message

unfoldable pub displaced : ℕ → Draft → Draft
displaced id d = option_map_or (λ k. if k.id == id then lost d else d) d.solo.connection d

-- the station is struck from the paging to repeat
abbrev pub struck : ℕ → Option Repeat → Option Repeat
struck station (Some (repeats.Paging es)) = Some (repeats.Paging (filter (λ e. not (e == station)) es))
struck station (Some (repeats.Nas protection nas)) = Some (repeats.Nas protection nas)
struck station None = None

unfoldable pub strike : ℕ → Draft → Draft
strike station d = record d { solo = record d.solo { repeat = struck station d.solo.repeat } }

unfoldable pub station_gone : ℕ → Draft → Draft
station_gone station d =
    let rest = strike station d in
    option_map_or (λ k. if k.station == station then lost rest else rest) rest.solo.connection rest

-- a station reset a list of associations; no station is struck from the paging to repeat
unfoldable pub connections_gone : ℕ → ToReset → Draft → Draft
connections_gone station items d =
    option_map_or (λ k. if k.station == station && is_listed k.id k.enb_ue_id items then lost d else d) d.solo.connection d
