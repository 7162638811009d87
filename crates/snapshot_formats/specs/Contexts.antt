-- Connections, security contexts and keys for the radio, by their names, as their formats have them.
use Rattle.per_bits.specs.Formats.{Value, left_of, right_of}
use Rattle.snapshot_formats.specs.Formats.{saved_connection, saved_context, saved_keys, saved_radio, saved_trail}
use Rattle.snapshot_formats.specs.declared.context.SavedConnection.{SavedConnection}
use Rattle.snapshot_formats.specs.declared.context.SavedContext.{SavedContext}
use Rattle.snapshot_formats.specs.declared.context.SavedKeys.{SavedKeys}
use Rattle.snapshot_formats.specs.declared.context.SavedRadio.{SavedRadio}
use Rattle.snapshot_formats.specs.declared.context.SavedRadio.TheVariants.{Derived, Verbatim}
use Rattle.snapshot_formats.specs.declared.context.SavedTrail.{SavedTrail}

abbrev pub typed_saved_connection : SavedConnection → Value saved_connection
typed_saved_connection c = (c.id, (c.station, (c.enb_ue_id, tt)))

abbrev pub typed_saved_keys : SavedKeys → Value saved_keys
typed_saved_keys k = (k.kenb, (k.next_hop, (k.chaining_count, tt)))

abbrev pub typed_saved_trail : SavedTrail → Value saved_trail
typed_saved_trail t = (t.count, (t.moves, tt))

abbrev pub typed_saved_radio : SavedRadio → Value saved_radio
typed_saved_radio (Verbatim keys) = left_of (typed_saved_keys keys)
typed_saved_radio (Derived trail) = right_of (typed_saved_trail trail)

abbrev pub typed_saved_context : SavedContext → Value saved_context
typed_saved_context c = (c.place, (c.down_next, (c.up_last, (c.kasme.octets.now, (typed_saved_radio c.radio, tt)))))
