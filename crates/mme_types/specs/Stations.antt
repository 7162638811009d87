-- The stations by number.
use Rattle.std.specs.Prelude.{ℕ, Bool, List, bytes_eq, replicate, slice_index_or}
use Rattle.std.specs.List.{list_any}
use Rattle.mme_types.specs.declared.stations.StationState.{StationState}
use Rattle.mme_types.specs.declared.stations.StationState.TheVariants.{Down}

abbrev pub station_at : List StationState → ℕ → StationState
station_at stations e = slice_index_or stations e Down

-- a network is among those that a tracking area is broadcast for
abbrev pub is_broadcast : List ℕ → List (List ℕ) → Bool
is_broadcast plmn plmns = list_any (λ p. bytes_eq p plmn) plmns

-- 128 stations that are down
unfoldable pub no_stations : List StationState
no_stations = replicate 128 Down
