-- Whom a message reaches: the one whose association it is sent on.
use Rattle.std.specs.Prelude.{◌≡◌, ℕ, List, length, Some, Ok}
use Rattle.std.specs.Borrow.{Bor}
use Rattle.s1ap_elements.specs.declared.station.SupportedTa.{SupportedTa}
use Rattle.s1ap_pdus.specs.declared.pdu.Pdu.{Pdu}
use Rattle.s1ap_pdus.specs.Pdus.{decoded}
use Rattle.mme_types.specs.declared.connection.Connection.{Connection}
use Rattle.mme_types.specs.declared.event.UeMessage.{UeMessage}
use Rattle.mme_types.specs.declared.stations.StationState.TheVariants.{Ready}
use Rattle.mme_types.specs.Events.{Message}
use Rattle.mme_types.specs.Stations.{station_at}
use Rattle.mme_routing.specs.Destinations.{for_one}
use Rattle.mme_routing.specs.Outcomes.{ue_message_in}
use Rattle.mme_core.specs.declared.event.Event.TheVariants.{In as InEvent}
use Rattle.mme_core.specs.Projection.{item_for}
use Rattle.mme_core.specs.World.{World, strangers_in}
use Rattle.mme_core.specs.Apart.{AreApart}
use Rattle.laws_mme.specs.ApartInMme.{Connects}

-- where each who is provisioned is a subscriber, what a station that is set up sends with the id of a subscriber's connection
-- reaches this subscriber, and no other
abbrev pub MessagesReach : Type 0
MessagesReach =
    (w : World) (slot : ℕ) (k : Connection) (e : ℕ) (octets : Bor (List ℕ)) (tas : List SupportedTa) (p : Pdu (List ℕ))
    (m : UeMessage (List ℕ)) (other : ℕ)
    → length w.subscribers ≡ length w.sight.profiles → AreApart w → Connects w slot k
    → station_at w.sight.stations e ≡ Ready tas → decoded octets.now ≡ Ok p → ue_message_in e p ≡ Some m
    → m.mme_ue_id ≡ k.id
    → item_for other w.sight (strangers_in w) (InEvent e octets) ≡ for_one slot (Message m) other
