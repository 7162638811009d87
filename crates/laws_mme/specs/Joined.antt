-- Lists of events one after another.
use Rattle.std.specs.Prelude.{◌≡◌, List, ◌++◌}
use Rattle.mme_core.specs.declared.event.Event.{Event}
use Rattle.mme_core.specs.World.{World, replies, world_run}

-- they have the replies of both
abbrev pub RepliesJoin : Type 0
RepliesJoin = (w : World) (es ds : List Event) → replies w (es ++ ds) ≡ replies w es ++ replies (world_run w es) ds

-- and lead where the second leads from the first
abbrev pub WorldsJoin : Type 0
WorldsJoin = (w : World) (es ds : List Event) → world_run w (es ++ ds) ≡ world_run (world_run w es) ds
