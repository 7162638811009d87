-- An item of a list by its place, which may be none.
use Rattle.std.specs.Prelude.{ℕ, List, Option, Some, None, option_map, slice_get, slice_set}

module _ {X : Type 0} where
  -- the item at a place, if there is one
  abbrev pub item_of : Option ℕ → List X → Option X
  item_of None xs = None
  item_of (Some place) xs = slice_get xs place

  abbrev pub with_put : ℕ → Option X → List X → List X
  with_put place None xs = xs
  with_put place (Some x) xs = slice_set xs place x

  -- the item at a place is changed so, if there is one
  abbrev pub changed_item : Option ℕ → (X → X) → List X → List X
  changed_item None f xs = xs
  changed_item (Some place) f xs = with_put place (option_map f (slice_get xs place)) xs
