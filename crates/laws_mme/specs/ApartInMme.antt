-- Over every run of an MME no two phones share an association's id: the id of each connection is its slot's own, or that of a
-- stranger whom this slot holds, at the station and number that the id is made of.
use Rattle.std.specs.Prelude.{◌≡◌, ◌≤◌, ℕ, List, length, Some}
use Rattle.identity_slots.specs.Ids.{slots}
use Rattle.identity_slots.specs.Provisioned.{Provisioned}
use Rattle.mme_types.specs.declared.connection.Connection.{Connection}
use Rattle.stranger_machine.specs.declared.state.KeptEntry.{KeptEntry}
use Rattle.stranger_machine.specs.declared.state.Stranger.TheVariants.{Waiting}
use Rattle.laws_apart.specs.Alone.{EachClaimsMade}
use Rattle.laws_apart.specs.Apart.{Has}
use Rattle.mme_core.specs.declared.config.Config.{Config}
use Rattle.mme_core.specs.declared.event.Event.{Event}
use Rattle.mme_core.specs.Apart.{AreApart}
use Rattle.mme_core.specs.Projection.{projection}
use Rattle.mme_core.specs.World.{World, fresh_world, strangers_in, world_run}

-- a subscriber's connection
abbrev pub Connects : World → ℕ → Connection → Type 0
Connects w slot k = Has w.subscribers slot k

-- an MME begins so, where there is a slot for each who is provisioned; and stays so (`IdsStayApart`)
abbrev pub MmeBeginsApart : Type 0
MmeBeginsApart = (config : Config) (p : Provisioned) → length p.profiles ≤ slots → AreApart (fresh_world config p)

-- and each stranger that a slot's items claim has such an id: so the law of one subscriber's machine applies to them
abbrev pub ItemsClaimMade : Type 0
ItemsClaimMade =
    (w : World) (events : List Event) (slot : ℕ) → AreApart w → EachClaimsMade (projection slot w.sight (strangers_in w) events)

-- ---- what follows

-- no two slots have one id
abbrev pub NoTwoShareInMme : Type 0
NoTwoShareInMme =
    (w : World) (slot other : ℕ) (k l : Connection) → AreApart w → Connects w slot k → Connects w other l → k.id ≡ l.id
    → slot ≡ other

-- and none has that of a stranger that waits
abbrev pub NoneHasWaitingInMme : Type 0
NoneHasWaitingInMme =
    (w : World) (slot : ℕ) (k : Connection) (kept : KeptEntry) (left repeats : ℕ) → AreApart w → Connects w slot k
    → strangers_in w k.id ≡ Some (Waiting kept left repeats) → ⊥

-- so after every list of events
abbrev pub RunsApart : Type 0
RunsApart =
    (config : Config) (p : Provisioned) (events : List Event) (slot other : ℕ) (k l : Connection) → length p.profiles ≤ slots
    → Connects (world_run (fresh_world config p) events) slot k → Connects (world_run (fresh_world config p) events) other l
    → k.id ≡ l.id → slot ≡ other
