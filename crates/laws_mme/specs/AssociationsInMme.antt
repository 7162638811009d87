-- The associations of an MME, a map by their ids.
use Rattle.std.specs.Prelude.{◌≡◌, ◌↔◌, ◌≤◌, ℕ, List, length, Some}
use Rattle.sorted_list.specs.Ordered.{Distinct, at}
use Rattle.association_table.specs.declared.association.Association.{Association}
use Rattle.association_table.specs.Table.{association_id}
use Rattle.identity_slots.specs.Ids.{slots}
use Rattle.identity_slots.specs.Provisioned.{Provisioned}
use Rattle.laws_apart.specs.Associations.{IsOf, associations, place_in}
use Rattle.mme_core.specs.declared.config.Config.{Config}
use Rattle.mme_core.specs.declared.event.Event.{Event}
use Rattle.mme_core.specs.Apart.{AreApart}
use Rattle.mme_core.specs.World.{World, fresh_world, world_run}

abbrev pub associations_in : World → List Association
associations_in w = associations w.strangers w.subscribers

-- ---- each id once

abbrev pub EachIdOnceInMme : Type 0
EachIdOnceInMme = (w : World) → AreApart w → Distinct association_id (associations_in w)

-- and so after every list of events
abbrev pub EachIdOnceInRuns : Type 0
EachIdOnceInRuns =
    (config : Config) (p : Provisioned) (events : List Event) → length p.profiles ≤ slots
    → Distinct association_id (associations_in (world_run (fresh_world config p) events))

-- so the id alone says whose an association is, and where
abbrev pub FoundExactlyInMme : Type 0
FoundExactlyInMme =
    (w : World) (id : ℕ) (a : Association) → AreApart w
    → (at association_id id (associations_in w) ≡ Some a) ↔ (IsOf w.strangers w.subscribers (place_in a) a.owner × (a.id ≡ id))
