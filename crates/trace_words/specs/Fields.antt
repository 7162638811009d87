-- What an access point name may be.
use Rattle.std.specs.Prelude.{◌&&◌, ◌==◌, ℕ, Bool, List, length, nat_le, not}
use Rattle.std.specs.List.{list_all}
use Rattle.mme_types.specs.Network.{is_label_octet}

-- a label of 1 to 63 of these (TS 23.003 clause 9.1)
abbrev pub is_apn_label : List ℕ → Bool
is_apn_label xs = not (length xs == 0) && nat_le (length xs) 63 && list_all is_label_octet xs
