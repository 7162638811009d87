-- To which stations the MME speaks, and at which nobody is left (TS 36.413 clauses 8.5, 8.7.1, 8.7.3).
use Rattle.std.specs.Prelude.{◌≡◌, ◌≢◌, ℕ, List, All, Option, Some, None, Result, Ok}
use Rattle.s1ap_elements.specs.declared.reset.ResetType.{ResetType}
use Rattle.s1ap_elements.specs.declared.reset.ResetType.TheVariants as resets
use Rattle.s1ap_rows.specs.declared.fault.S1apFault.{S1apFault}
use Rattle.s1ap_pdus.specs.declared.pdu.Pdu.{Pdu}
use Rattle.s1ap_pdus.specs.declared.pdu.Pdu.TheVariants as pdu
use Rattle.s1ap_pdus.specs.Pdus.{decoded}
use Rattle.sorted_list.specs.Ordered.{Every}
use Rattle.identity_slots.specs.Ids.{station_in}
use Rattle.mme_types.specs.declared.connection.Connection.{Connection}
use Rattle.mme_types.specs.declared.stations.StationState.{StationState}
use Rattle.mme_types.specs.declared.stations.StationState.TheVariants.{Down, Up, Ready}
use Rattle.mme_types.specs.Stations.{station_at}
use Rattle.emm_state.specs.declared.solo.Repeat.{Repeat}
use Rattle.emm_state.specs.declared.solo.Repeat.TheVariants as repeats
use Rattle.emm_machine.specs.SubscriberView.{SubscriberView}
use Rattle.stranger_machine.specs.declared.table.Known.{Known}
use Rattle.mme_core.specs.declared.event.Event.{Event}
use Rattle.mme_core.specs.declared.event.Event.TheVariants.{In, Lost}
use Rattle.mme_answering.specs.declared.out.Out.{Out}
use Rattle.mme_answering.specs.declared.out.Owner.{Owner}
use Rattle.mme_answering.specs.declared.out.Owner.TheVariants.{Station, Stranger as StrangerOwner, Subscriber}
use Rattle.mme_core.specs.Sight.{Sight}
use Rattle.mme_core.specs.World.{World, event_fault, reply, world_after}
use Rattle.laws_network.specs.Placed.{AllPlaced, IsConnected, IsReady}

-- ---- to whom it speaks

-- by the stations before the event and after it: what is a station's own goes to it, and it is connected; what is a stranger's or a
-- subscriber's goes to a station that is set up
abbrev pub IsSpokenTo : List StationState → List StationState → Owner → ℕ → Type 0
IsSpokenTo before after (Station n) e = (e ≡ n) × IsConnected before e × IsConnected after e
IsSpokenTo before after (StrangerOwner id) e = IsReady before e × IsReady after e
IsSpokenTo before after (Subscriber slot) e = IsReady before e × IsReady after e

abbrev pub SpeaksToTheReady : Type 0
SpeaksToTheReady =
    (w : World) (event : Event) (outs : List Out) → AllPlaced w → reply w event ≡ Ok outs
    → All (λ o. IsSpokenTo w.sight.stations (world_after w event).sight.stations o.owner o.station) outs

-- ---- at which nobody is left

-- RESET of the whole interface
abbrev pub is_whole : ResetType → Option (Unit {0})
is_whole (resets.All _) = Some tt
is_whole (resets.Part items) = None

abbrev pub at_station : ℕ → Option (Unit {0}) → Option ℕ
at_station e None = None
at_station e (Some _) = Some e

-- a RESET counts at a station that is set up
abbrev pub emptied_by_reset : ℕ → StationState → ResetType → Option ℕ
emptied_by_reset e (Ready tas) reset_type = at_station e (is_whole reset_type)
emptied_by_reset e Up reset_type = None
emptied_by_reset e Down reset_type = None

abbrev pub emptied_by : ℕ → StationState → Result (Pdu (List ℕ)) S1apFault → Option ℕ
emptied_by e state (Ok (pdu.S1SetupRequest m)) = Some e
emptied_by e state (Ok (pdu.Reset m)) = emptied_by_reset e state m.reset_type
emptied_by e state _ = None

-- the station that an event leaves empty: it is lost, it sends S1 SETUP REQUEST, or RESET of the whole interface
abbrev pub emptied : Sight → Event → Option ℕ
emptied s (Lost e) = Some e
emptied s (In e octets) = emptied_by e (station_at s.stations e) (decoded octets.now)
emptied s _ = None

-- a connection is elsewhere
abbrev pub IsNotAt : ℕ → Option Connection → Type 0
IsNotAt e None = Unit {0}
IsNotAt e (Some k) = k.station ≢ e

-- the paging to be sent again goes elsewhere
abbrev pub PagesElsewhere : ℕ → Option Repeat → Type 0
PagesElsewhere e (Some (repeats.Paging es)) = All (λ n. n ≢ e) es
PagesElsewhere e _ = Unit {0}

-- a phone is neither connected there nor paged there
pub record IsAway (e : ℕ) (x : SubscriberView) : Type 0 where
  pub connected : IsNotAt e x.solo.connection
  pub paged : PagesElsewhere e x.solo.repeat

-- a stranger that isn't closed has the id of another station
abbrev pub IsElsewhere : ℕ → Known → Type 0
IsElsewhere e k = station_in k.id ≢ e

-- nobody is connected there, nobody is paged there, and no stranger waits or is held there
pub record IsEmpty (w : World) (e : ℕ) : Type 0 where
  pub subscribers : Every (IsAway e) w.subscribers
  pub strangers : Every (IsElsewhere e) w.strangers

abbrev pub LeavesEmpty : Type 0
LeavesEmpty =
    (w : World) (event : Event) (e : ℕ) → event_fault w.sight event ≡ None → emptied w.sight event ≡ Some e
    → IsEmpty (world_after w event) e
