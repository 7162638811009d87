-- Places in a list, each under a key, by rising key.
use Rattle.std.specs.Prelude.{ℕ, ◌==◌, Bool, false, List, Option, Some, None, option_map, if◌then◌else◌}
use Rattle.sorted_list.specs.Ordered.{at, add, without}
use Rattle.sim_crowd.specs.declared.index.Entry.{Entry}

abbrev pub entry_key : Entry → ℕ
entry_key e = e.key

-- the place under a key
abbrev pub place_under : ℕ → List Entry → Option ℕ
place_under key es = option_map (λ (e : Entry). e.place) (at entry_key key es)

-- a place that may be none is this one
abbrev pub is_place : ℕ → Option ℕ → Bool
is_place place None = false
is_place place (Some other) = other == place

-- the place stands under the key, instead of what stood there
abbrev pub put_under : ℕ → ℕ → List Entry → List Entry
put_under key place es = add entry_key (record { key = key; place = place }) (without entry_key key es)

-- nothing stands under the key
abbrev pub free_under : ℕ → List Entry → List Entry
free_under key es = without entry_key key es

-- nothing stands under the key, if it was this place
abbrev pub taken_under : ℕ → ℕ → List Entry → List Entry
taken_under key place es = if is_place place (place_under key es) then free_under key es else es
