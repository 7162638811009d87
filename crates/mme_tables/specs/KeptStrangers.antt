-- The slab of the strangers that aren't closed, and the list by rising id that leads to them.
use Rattle.std.specs.Prelude.{◌≡◌, ℕ, ◌<◌, ◌^◌, List, length, map, Option, Some, None, IsSome}
use Rattle.sorted_list.specs.Ordered.{Rising, Every, Distinct}
use Rattle.slab.specs.Slab.{Slab, get, slab_len}
use Rattle.stranger_machine.specs.declared.state.Stranger.TheVariants.{Held}
use Rattle.mme_tables.specs.declared.places.StrangerPlace.{StrangerPlace}
use Rattle.mme_tables.specs.declared.sleeper.Sleeper.{Sleeper}
use Rattle.mme_tables.specs.StrangerRows.{Row}

-- by which the list stands in order, and where the slab has the stranger
abbrev pub place_id : StrangerPlace → ℕ
place_id p = p.id

abbrev pub place_key : StrangerPlace → ℕ
place_key p = p.key

-- a key that has nobody stands for a blank; no place of a table leads to one
abbrev pub or_blank : Option Sleeper → Sleeper
or_blank None = record { stranger = Held 0; touched = 0 }
or_blank (Some s) = s

-- what a place leads to, by its id
abbrev pub row_at : Slab Sleeper → StrangerPlace → Row
row_at s p = record { id = p.id; sleeper = or_blank (get s p.key) }

-- all, as the list leads to them
abbrev pub rows_of : Slab Sleeper → List StrangerPlace → List Row
rows_of s ps = map (row_at s) ps

-- each place leads to a stranger of its own, and the slab holds no other
pub record IsTable (s : Slab Sleeper) (ps : List StrangerPlace) : Type 0 where
  pub rising : Rising place_id ps
  pub keys : Distinct place_key ps
  pub held : Every (λ p. IsSome (get s p.key)) ps
  pub alone : slab_len s ≡ length ps
  pub small : Every (λ p. p.id < 2 ^ 32) ps
