-- What the parts of a snapshot are to an MME, and which of them it takes.
use Rattle.std.specs.Prelude.{ℕ, ◌==◌, ◌&&◌, ◌||◌, ◌++◌, ◌∷◌, Bool, true, false, not, nat_le, nat_lt, List, [], length, map, replicate, Option, Some, None, is_none}
use Rattle.std.specs.List.{list_all}
use Rattle.std.specs.Option.{option_map_or}
use Rattle.std.proofs.Common.{inl, inr}
use Rattle.per_bits.specs.Formats.{Value}
use Rattle.sorted_list.specs.Sorted.{lowest_from}
use Rattle.s1ap_elements.specs.Phones.{named_tai}
use Rattle.s1ap_elements.specs.Stations.{named_supported_tas}
use Rattle.identity_slots.specs.Ids.{is_of_slot, number_in, slot_in, station_in, stranger_id}
use Rattle.identity_slots.specs.declared.profile.Profile.{Profile}
use Rattle.identity_slots.specs.declared.profile.Vector.{Vector}
use Rattle.mme_types.specs.declared.connection.Connection.{Connection}
use Rattle.mme_types.specs.declared.network.Network.{Network}
use Rattle.mme_types.specs.Network.{is_label_octet}
use Rattle.mme_types.specs.declared.stations.StationState.{StationState}
use Rattle.mme_types.specs.declared.stations.StationState.TheVariants.{Down, Up, Ready}
use Rattle.emm_state.specs.declared.setting.Setting.{Setting}
use Rattle.emm_state.specs.declared.solo.Solo.{Solo}
use Rattle.emm_machine.specs.SubscriberView.{SubscriberView}
use Rattle.stranger_machine.specs.declared.state.KeptEntry.{KeptEntry}
use Rattle.stranger_machine.specs.declared.state.Stranger.{Stranger}
use Rattle.stranger_machine.specs.declared.state.Stranger.TheVariants.{Waiting, Held}
use Rattle.stranger_machine.specs.declared.table.Known.{Known}
use Rattle.stranger_machine.specs.Machine.{identity_repeats, identity_ticks}
use Rattle.stranger_machine.specs.Table.{known_id, stranger_at}
use Rattle.mme_snapshot.specs.declared.parts.Head.{Head}
use Rattle.mme_core.specs.Provisioning.{sight_added}
use Rattle.mme_core.specs.Remembered.{husk, kasme_in}
use Rattle.mme_core.specs.World.{World}
use Rattle.snapshot_formats.specs.Formats.{saved_context, saved_head, saved_network, saved_radio, saved_station, saved_stranger, saved_stranger_state, saved_subscriber, saved_waiting}
use Rattle.snapshot_states.specs.Fit.{fits, fits_vector, is_within}
use Rattle.snapshot_states.specs.States.{named_state, named_vector}

-- ---- the head

abbrev pub named_network : Value saved_network → Network
named_network v = record { plmn = v.0; group = v.1.0; code = v.1.1.0; apn = v.1.1.1.0; down = v.1.1.1.1.0; up = v.1.1.1.1.1.0 }

-- an access point name of one label (TS 23.003 clause 9.1)
abbrev pub is_label : List ℕ → Bool
is_label os = is_within 1 63 os && list_all is_label_octet os

abbrev pub named_station : Value saved_station → StationState
named_station (inl v) = Down
named_station (inr (inl v)) = Up
named_station (inr (inr v)) = Ready (named_supported_tas v)

-- the network, where the clock began, and where it is
abbrev pub named_head : Value saved_head → Head
named_head v = record { config = record { network = named_network v.0; clock = v.1.0 }; clock = v.1.1.0 }

-- an MME of this head and these stations, without strangers and subscribers
abbrev pub empty_world : Head → List StationState → World
empty_world h stations = record {
  sight = record { config = h.config; clock = h.clock; stations = stations; profiles = [] };
  strangers = [];
  subscribers = [];
}

-- ---- strangers

-- its station and its eNB UE S1AP ID are those of its id (TS 36.413 clause 9.2.3.3)
abbrev pub named_kept : ℕ → Value saved_waiting → KeptEntry
named_kept id v = record { station = station_in id; enb_ue_id = number_in id; nas = v.0; tai = named_tai v.1.0 }

abbrev pub named_stranger : ℕ → Value saved_stranger_state → Stranger
named_stranger id (inl v) = Waiting (named_kept id v) v.1.1.0 v.1.1.1.0
named_stranger id (inr slot) = Held slot

-- T3470 of one that waits has a tick left and no more than its length, and no more repeats than it has (TS 24.301 clause 10.2)
abbrev pub is_timed : Stranger → Bool
is_timed (Waiting kept left repeats) = nat_lt 0 left && (nat_le left identity_ticks && nat_le repeats identity_repeats)
is_timed (Held slot) = true

-- its id is a stranger's, and above those of the strangers before it
abbrev pub fits_stranger : List Known → Value saved_stranger → Bool
fits_stranger ks v =
    not (is_of_slot v.0) && (is_none (lowest_from known_id v.0 ks) && is_timed (named_stranger v.0 v.1.0))

abbrev pub known_of : Value saved_stranger → Known
known_of v = record { id = v.0; stranger = named_stranger v.0 v.1.0 }

abbrev pub with_known : World → Value saved_stranger → World
with_known w v = record {
  sight = w.sight;
  strangers = w.strangers ++ known_of v ∷ [];
  subscribers = w.subscribers;
}

-- ---- subscribers

abbrev pub named_profile : List ℕ → Value saved_subscriber → Profile
named_profile imsi v = record { imsi = imsi; address = v.1.0; gateway = v.1.1.0; teid = v.1.1.1.0 }

abbrev pub solo_of : Value saved_subscriber → Solo
solo_of v = named_state v.1.1.1.1.0 v.1.1.1.1.1.1.0

-- how many vectors are spent
abbrev pub spent_of : Value saved_subscriber → ℕ
spent_of v = v.1.1.1.1.0

-- husks for those that are spent, and those that aren't
abbrev pub vectors_of : Value saved_subscriber → List Vector
vectors_of v = replicate (spent_of v) (husk (kasme_in (solo_of v).context)) ++ map named_vector v.1.1.1.1.1.0

abbrev pub setting_of : Network → ℕ → Profile → Value saved_subscriber → Setting
setting_of n slot p v = record { network = n; slot = slot; profile = p; vectors = vectors_of v }

abbrev pub subscriber_of : Network → ℕ → Profile → Value saved_subscriber → SubscriberView
subscriber_of n slot p v = record { setting = setting_of n slot p v; solo = solo_of v }

-- the next hops that are derived for keys
abbrev pub hops_in : Value saved_radio → ℕ
hops_in (inl keys) = 0
hops_in (inr trail) = trail.1.0

abbrev pub hops_of : Value saved_subscriber → ℕ
hops_of v = option_map_or (λ (x : Value saved_context). hops_in x.1.1.1.1.0) v.1.1.1.1.1.1.0.0.1.1.0 0

abbrev pub fits_subscriber : Value saved_subscriber → Bool
fits_subscriber v =
    list_all fits_vector v.1.1.1.1.1.0 && fits v.1.1.1.1.0 (length v.1.1.1.1.1.0) v.1.1.1.1.1.1.0

abbrev pub is_held_by : ℕ → Option Stranger → Bool
is_held_by slot None = false
is_held_by slot (Some (Waiting kept left repeats)) = false
is_held_by slot (Some (Held other)) = other == slot

-- the id of the connection is the slot's own, or that of a stranger whom the slot holds
abbrev pub is_placed : List Known → ℕ → Option Connection → Bool
is_placed ks slot None = true
is_placed ks slot (Some k) =
    slot_in k.id == slot
    || (k.id == stranger_id k.station k.enb_ue_id && is_held_by slot (stranger_at k.id ks))

-- the subscriber has the next slot
abbrev pub with_subscriber : World → Profile → Value saved_subscriber → World
with_subscriber w p v = record {
  sight = sight_added p w.sight;
  strangers = w.strangers;
  subscribers = w.subscribers ++ subscriber_of w.sight.config.network (length w.subscribers) p v ∷ [];
}
