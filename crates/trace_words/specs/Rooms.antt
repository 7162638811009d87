-- Where the octets of a message lie.
use Rattle.std.specs.Prelude.{ℕ, ⊤, ◌≤◌, List, take}
use Rattle.trace_words.specs.declared.values.Room.{Room}
use Rattle.trace_words.specs.declared.values.Room.TheVariants.{Own, Apart}

-- the octets that lie there
abbrev pub octets_in : Room → List ℕ
octets_in (Own octets count) = take count octets
octets_in (Apart octets) = octets.items

-- no more of them than there is room for
abbrev pub FitsRoom : Room → Type 0
FitsRoom (Own octets count) = count ≤ 96
FitsRoom (Apart octets) = ⊤
