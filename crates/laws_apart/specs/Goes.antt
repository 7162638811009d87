-- Where an event goes: whoever begins has the id that is made of its station and number, and nobody is claimed but by a stranger.
use Rattle.std.specs.Prelude.{ℕ, List, Option}
use Rattle.s1ap_pdus.specs.Pdus.{decoded}
use Rattle.identity_slots.specs.declared.profile.Profile.{Profile}
use Rattle.mme_types.specs.declared.network.Network.{Network}
use Rattle.mme_types.specs.declared.stations.StationState.{StationState}
use Rattle.mme_types.specs.Events.{Item, Claim}
use Rattle.stranger_machine.specs.declared.state.Stranger.{Stranger}
use Rattle.stranger_machine.specs.Machine.{stranger_step}
use Rattle.mme_routing.specs.Destinations.{Destination, input_for, item_at}
use Rattle.mme_routing.specs.Destinations as to
use Rattle.mme_routing.specs.Outcomes.{outcome_of}
use Rattle.laws_apart.specs.Alone.{ClaimsMade, IsOfStranger, WaitsMade}
use Rattle.laws_subscriber.specs.Comes.{entered_on}

-- an item that claims nobody
abbrev pub ClaimsNone : Item → Type 0
ClaimsNone (Claim id m) = ⊥
ClaimsNone _ = Unit {0}

abbrev pub GoesMade : Destination → Type 0
GoesMade to.Nobody = Unit {0}
GoesMade (to.Subscriber n item) = ClaimsNone item
GoesMade (to.Beginner id m) = IsOfStranger (entered_on id m)
GoesMade (to.Stranger m) = Unit {0}
GoesMade (to.Everyone notice) = Unit {0}

-- whatever octets a station sends
abbrev pub OctetsGoMade : Type 0
OctetsGoMade =
    (n : Network) (ps : List Profile) (e : ℕ) (state : StationState) (os : List ℕ)
    → GoesMade (outcome_of n ps e state (decoded os)).destination

-- a stranger that waits after its turn has such an id, where it had one before
abbrev pub WaitsStayMade : Type 0
WaitsStayMade =
    (ps : List Profile) (d : Destination) (id : ℕ) (s : Option Stranger) → GoesMade d → WaitsMade id s
    → WaitsMade id (stranger_step ps id s (input_for d id)).stranger

-- and so a stranger that is claimed, if one is
abbrev pub ItemClaimsMade : Type 0
ItemClaimsMade =
    (ps : List Profile) (d : Destination) (g : ℕ → Option Stranger) (slot : ℕ) → GoesMade d → ((id : ℕ) → WaitsMade id (g id))
    → ClaimsMade (item_at d ps g slot)
