-- What stands before the subscribers, by its names, as its format has it.
use Rattle.per_bits.specs.Formats.{Value, left_of, right_of}
use Rattle.s1ap_elements.specs.Phones.{typed_tai}
use Rattle.s1ap_elements.specs.Stations.{typed_supported_tas}
use Rattle.snapshot_formats.specs.Formats.{saved_head, saved_network, saved_station, saved_stranger, saved_stranger_state, saved_waiting}
use Rattle.snapshot_formats.specs.declared.head.SavedHead.{SavedHead}
use Rattle.snapshot_formats.specs.declared.head.SavedNetwork.{SavedNetwork}
use Rattle.snapshot_formats.specs.declared.head.SavedStation.{SavedStation}
use Rattle.snapshot_formats.specs.declared.head.SavedStation.TheVariants.{Down, Ready, Up}
use Rattle.snapshot_formats.specs.declared.head.SavedStranger.{SavedStranger}
use Rattle.snapshot_formats.specs.declared.head.SavedStrangerState.{SavedStrangerState}
use Rattle.snapshot_formats.specs.declared.head.SavedStrangerState.TheVariants.{Held, Waiting}
use Rattle.snapshot_formats.specs.declared.head.SavedWaiting.{SavedWaiting}

abbrev pub typed_saved_network : SavedNetwork → Value saved_network
typed_saved_network n = (n.plmn, (n.group, (n.code, (n.apn.octets.now, (n.down, (n.up, tt))))))

abbrev pub typed_saved_station : SavedStation → Value saved_station
typed_saved_station Down = left_of tt
typed_saved_station Up = right_of (left_of tt)
typed_saved_station (Ready tas) = right_of (right_of (typed_supported_tas tas))

abbrev pub typed_saved_head : SavedHead → Value saved_head
typed_saved_head h = (typed_saved_network h.network, (h.began, (h.clock, tt)))

abbrev pub typed_saved_waiting : SavedWaiting → Value saved_waiting
typed_saved_waiting w = (w.nas.octets.now, (typed_tai w.tai, (w.left, (w.repeats, tt))))

abbrev pub typed_saved_stranger_state : SavedStrangerState → Value saved_stranger_state
typed_saved_stranger_state (Waiting w) = left_of (typed_saved_waiting w)
typed_saved_stranger_state (Held slot) = right_of slot

abbrev pub typed_saved_stranger : SavedStranger → Value saved_stranger
typed_saved_stranger s = (s.id, (typed_saved_stranger_state s.state, tt))
