-- No two phones of an MME share an association's id (TS 36.413 clause 9.2.3.3).
use Rattle.std.specs.Prelude.{◌<◌, ◌≤◌, ℕ, List, [], length}
use Rattle.identity_slots.specs.declared.profile.Profile.{Profile}
use Rattle.identity_slots.specs.declared.profile.Vector.{Vector}
use Rattle.identity_slots.specs.Ids.{slots}
use Rattle.mme_types.specs.declared.network.Network.{Network}
use Rattle.laws_apart.specs.Apart.{IdsApart}
use Rattle.laws_apart.specs.Goes.{GoesMade}
use Rattle.mme_core.specs.declared.event.Event.{Event}
use Rattle.mme_core.specs.Provisioning.{world_added, world_given}
use Rattle.mme_core.specs.Sight.{Sight}
use Rattle.mme_core.specs.World.{World, fresh_subscribers, happens, world_run}

-- the id of each connection is its slot's own, or that of a stranger whom this slot holds
abbrev pub AreApart : World → Type 0
AreApart w = IdsApart w.strangers w.subscribers

-- an MME begins so, where there is a slot for each who is provisioned
abbrev pub IdsBeginApart : Type 0
IdsBeginApart =
    (n : Network) (ps : List Profile) (vectors : List (List Vector)) → length ps ≤ slots
    → IdsApart [] (fresh_subscribers n 0 ps vectors)

-- and stays so over every list of events, whatever octets stations send
abbrev pub IdsStayApart : Type 0
IdsStayApart = (w : World) (events : List Event) → AreApart w → AreApart (world_run w events)

-- with a vector more for a slot, and with a subscriber more, where there is a slot for it
abbrev pub GivenStaysApart : Type 0
GivenStaysApart = (w : World) (slot : ℕ) (v : Vector) → AreApart w → AreApart (world_given slot v w)

abbrev pub AddedStaysApart : Type 0
AddedStaysApart = (w : World) (p : Profile) → length w.subscribers < slots → AreApart w → AreApart (world_added p w)

-- since a stranger that begins has the id that is made of its station and number
abbrev pub EventsGoMade : Type 0
EventsGoMade = (s : Sight) (event : Event) → GoesMade (happens s event).destination
