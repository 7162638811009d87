-- What of a subscriber stands in its part.
use Rattle.std.specs.Prelude.{ℕ, drop, map}
use Rattle.per_bits.specs.Formats.{Value}
use Rattle.nas_elements.specs.Digits.{imsi_octets}
use Rattle.identity_slots.specs.declared.profile.Vector.{Vector}
use Rattle.emm_state.specs.declared.setting.Setting.{Setting}
use Rattle.snapshot_formats.specs.Formats.{saved_state, saved_subscriber, saved_vector}

abbrev pub stored_vector : Vector → Value saved_vector
stored_vector v = (v.rand, (v.autn, (v.xres, (v.kasme, tt))))

-- of its vectors all but those that are spent, and of these how many they are
abbrev pub stored_subscriber : Setting → ℕ → Value saved_state → Value saved_subscriber
stored_subscriber s spent state = (
  imsi_octets s.profile.imsi,
  (
    s.profile.address,
    (s.profile.gateway, (s.profile.teid, (spent, (map stored_vector (drop spent s.vectors), (state, tt))))),
  ),
)
